-- Back references and calls: in digits, or between delimiters with a number, a name or a distance.
use Rattle.std.proofs.Common.{◌≡◌, ℕ, Bool, true, false, not, ◌&&◌, ◌==◌, nat_le, [], ◌∷◌, ◌++◌, List, codes, ◌^◌}
use Rattle.std.proofs.Common.{Option, Some, None, is_some, refl, sym, ap, ◌∙◌, subst, append_assoc, arith, ◌-◌}
use Rattle.std.proofs.Common.{if◌then◌else◌, IfSome, decimal, eqb-true, nat_lt, suc}
use Rattle.std.proofs.Common.{◌<◌, ◌≤◌, ℤ, pos, negsuc, lt-ltb, le-leb, ltb-true, ◌+◌, get_or, length}
use Rattle.std.proofs.Math.Seq.{get_or-append_seam}
use Rattle.std.proofs.Math.Utf8.{encodes}
use Rattle.std.proofs.lemmas.Bool.{cond-true, cond-false, and_parts, cond_both}
use Rattle.std.proofs.lemmas.Bool.Decides.{nat_tests}
use Rattle.std.proofs.lemmas.Fmt.{decimal_is_IsNumeral}
use Rattle.std.proofs.lemmas.Option.{same_Some}
use Rattle.std.proofs.lemmas.Str.{encodes-append}
use Rattle.std.specs.List.{AllByRecursion}
use Prim.Native.Char.{code}
use Rattle.fancy_lex.specs.Characters.{is_among}
use Rattle.fancy_lex.specs.Delimited.{delimited_name}
use Rattle.fancy_lex.specs.Escape.{escape, escape_at, number_escape}
use Rattle.fancy_lex.specs.EscapeReference as escapes
use Rattle.fancy_lex.specs.EscapeReference.{is_relative, subroutine_call, delimited_call, written_call}
use Rattle.fancy_lex.specs.EscapeReference.{call_target}
use Rattle.fancy_lex.specs.Escaped as escaped
use Rattle.fancy_lex.specs.Id.{is_id_char}
use Rattle.fancy_lex.specs.IdReference.{amount_bound}
use Rattle.fancy_lex.specs.Number.{at_digit}
use Rattle.fancy_lex.specs.Reading.{gives, choose}
use Rattle.fancy_lex.specs.Referred.{reference_to, call_to, target_of_name}
use Rattle.fancy_lex.specs.Referred.{written_reference}
use Rattle.fancy_lex.specs.Target.{by_name, Target, relative, by_number}
use Rattle.fancy_lex.specs.Text.{Text, reach_of, bytes, position_at, EndsWith}
use Rattle.fancy_lex.specs.declared.flags.Flags.{Flags}
use Rattle.fancy_lex.proofs.ReadingLemmas.{choose_both}
use Rattle.fancy_lex.proofs.TextLemmas.{bytes-append, length_encodes}
use Rattle.fancy_grammar.specs.PatternReference.{is_plain_name, Named, name_of, fit_name, is_last, is_only, distance}
use Rattle.fancy_grammar.specs.PatternReference.{backref_text, call_text, delimited, call_name, name_or}
use Rattle.fancy_grammar.specs.PatternReference.{backref_at_level_text, signed}
use Rattle.fancy_grammar.specs.Meaning.{back_reference, call, number, refers_to, back_to, last_of, only_one, group_or_none}
use Rattle.fancy_grammar.specs.Meaning.{Role, Meaning, condition}
use Rattle.fancy_grammar.specs.Written.{is_numeric, is_after_backslash}
use Rattle.fancy_grammar.specs.AtomStart.{read, leaf_node, leaf_outcome}
use Rattle.fancy_grammar.specs.Grammar.{atom, a_read}
use Rattle.fancy_grammar.specs.Items.{role_of, target_of}
use Rattle.fancy_grammar.specs.Label as label
use Rattle.fancy_grammar.specs.Label.{Leaf, AstReference, ast_backref, ast_call}
use Rattle.fancy_grammar.specs.GroupInfo.{GroupInfo, is_call_of_all}
use Rattle.fancy_grammar.specs.Pattern.{Context, group_count}
use Rattle.fancy_grammar.specs.Resolved.{reference_node}
use Rattle.fancy_grammar.specs.Tree.{leaf, ast_node}
use Rattle.fancy_grammar.specs.ReadAs.{unpositioned}
use Rattle.fancy_grammar.proofs.Writable.{IsCallWritable, IsLevelWritable, is_numbered, is_numbered_call_of_all}
use Rattle.fancy_grammar.proofs.Writable.{is_called_by_number}
use Rattle.fancy_pattern.proofs.PatternLaws.Becomes.{Becomes, info_numbers, AgreesWithInfo, RefersToGroup}
use Rattle.fancy_pattern.proofs.PatternLaws.Leaves.{LeafAt}
use Rattle.fancy_pattern.proofs.PatternLaws.Quantifiers.{number_read}
use Rattle.fancy_pattern.proofs.PatternLaws.Rules.{Begins, begins_by, AtomAt}
use Rattle.fancy_grammar.proofs.ReadBack.CountTexts.{digit_is}
use Rattle.fancy_grammar.proofs.ReadBack.RuleLemmas.{st, leaf_at}
use Rattle.std.specs.Str.Parse.{IsNumeral}
use Rattle.fancy_pattern.proofs.PatternLaws.Names.{PlainName, plain_name, call_read_by, backref_read_by, name_read, written_as}
use Rattle.fancy_pattern.proofs.PatternLaws.Names.{called, digits_undelimited, number_called, digits_delimited, digit_ids}
use Rattle.fancy_pattern.proofs.PatternLaws.Names.{number_target, number_written, written_level, level_written}
use Rattle.fancy_pattern.proofs.PatternLaws.Names.{level_delimited, not_zero, distance_called, distance_delimited}

-- ---- what a reference means

pub reference_becomes : (μ : GroupInfo) (s : Text) (c : ℕ) (r : AstReference) (p k : ℕ) (l : Leaf) →
    refers_to (info_numbers μ) c (role_of r) (target_of r) ≡ number k → AgreesWithInfo μ s r (number k) p →
    ((n : ℕ) → reference_node n (number k) r p ≡ leaf l) → group_count (leaf l) ≡ 0 →
    Becomes μ s c (ast_node r p) (leaf l)
reference_becomes μ s c r p k l meant delimited same count = record {
  is =
      λ n u e. (λ i. unpositioned (reference_node n (refers_to (λ w. e w i) c (role_of r) (target_of r)) r p))
      ∙ (ap (λ m. unpositioned (reference_node n m r p)) meant ∙ ap unpositioned (same n));
  count = sym count;
  groups = (subst RefersToGroup (sym meant) tt, subst (λ m. AgreesWithInfo μ s r m p) (sym meant) delimited, tt);
}

abbrev pub is_by_number : Target → Bool
is_by_number (by_number n) = true
is_by_number _ = false

-- the group with this number has a plain name, and the numbers of that name are as required
pub record Fits (μ : GroupInfo) (such : List ℕ → Bool) (n : ℕ) : Type 0 where
  pub name : Text
  pub fit : fit_name μ such n ≡ Some name
  pub plain : PlainName name
  pub are_such : such (info_numbers μ name) ≡ true

abbrev name_if : GroupInfo → (List ℕ → Bool) → Named → Option Text
name_if μ such e =
    if not μ.numeric_capture_group_references && (is_plain_name e.0 && such e.1) then Some e.0 else None

pub fits : (μ : GroupInfo) (such : List ℕ → Bool) (n : ℕ) → IfSome (name_of μ n) (λ e. e.1 ≡ info_numbers μ e.0) →
    is_some (fit_name μ such n) ≡ true → Fits μ such n
fits μ such n k h = at (name_of μ n) refl k h
  where
    at : (o : Option Named) → name_of μ n ≡ o → IfSome o (λ e. e.1 ≡ info_numbers μ e.0) →
        is_some (choose o (name_if μ such) None) ≡ true → Fits μ such n
    at None e k h = absurd cc
    at (Some q) e k h =
        by_test (not μ.numeric_capture_group_references && (is_plain_name q.0 && such q.1)) refl h
      where
        by_test : (b : Bool) → (not μ.numeric_capture_group_references && (is_plain_name q.0 && such q.1)) ≡ b →
            is_some (if b then Some q.0 else None) ≡ true → Fits μ such n
        by_test true t h =
            let (x, y) = and_parts (not μ.numeric_capture_group_references) _ t in
            let (z, s) = and_parts (is_plain_name q.0) (such q.1) y in
            record {
              name = q.0;
              fit = ap (λ o. choose o (name_if μ such) None) e ∙ cond-true _ _ _ t;
              plain = plain_name q.0 z;
              are_such = sym (ap such k) ∙ s;
            }
        by_test false t h = absurd cc

pub last_is : (n : ℕ) (l : List ℕ) → is_last n l ≡ true → last_of l ≡ Some n
last_is n l h = at (last_of l) refl h
  where
    at : (o : Option ℕ) → last_of l ≡ o → choose o (λ k. k == n) false ≡ true → last_of l ≡ Some n
    at None e h = absurd cc
    at (Some k) e h = e ∙ ap Some (eqb-true k n h)

only_is : (n : ℕ) (l : List ℕ) → is_only n l ≡ true → only_one l ≡ number n
only_is n [] h = absurd cc
only_is n (k ∷ []) h = ap number (eqb-true k n h)
only_is n (k ∷ j ∷ l) h = absurd cc

-- ---- the leaves

not_numeric : (text : Text) (position : ℕ) (role : Role) (t : Target) → is_by_number t ≡ false →
    is_numeric text position role t ≡ false
not_numeric text position role (by_number n) h = absurd cc
not_numeric text position role (by_name w) h = refl
not_numeric text position role (relative z) h = refl

-- whether a backslash is just before a text
byte_before : (w t : Text) (c : ℕ) → encodes (c ∷ t) ≡ c ∷ encodes t → bytes (c ∷ t) ≡ bytes t + 1 →
    is_after_backslash (w ++ c ∷ t) (position_at (bytes (w ++ c ∷ t)) (reach_of t)) ≡ (c == code "\\")
byte_before w t c e k =
    let text = w ++ c ∷ t in
    let position : position_at (bytes text) (reach_of t) ≡ bytes w + 1 = omega (arith, bytes-append w (c ∷ t), k) in
    let byte : get_or (encodes text) (bytes w) 0 ≡ c
    = ap (λ l. get_or l (bytes w) 0) (encodes-append w (c ∷ t))
    ∙ (ap (λ n. get_or (encodes w ++ encodes (c ∷ t)) n 0) (length_encodes w)
    ∙ (ap (λ l. get_or (encodes w ++ l) (length (encodes w)) 0) e
    ∙ get_or-append_seam (encodes w) c (encodes t) 0)) in
    let before : bytes w + 1 - 1 ≡ bytes w = omega arith in
    let first : nat_lt 0 (bytes w + 1) ≡ true = lt-ltb 0 (bytes w + 1) (omega arith) in
    ap (is_after_backslash text) position
    ∙ (ap (λ b. b && (get_or (encodes text) (bytes w + 1 - 1) 0 == code "\\")) first
    ∙ (ap (λ k. get_or (encodes text) k 0 == code "\\") before ∙ ap (λ k. k == code "\\") byte))

after_backslash : (w t : Text) →
    is_after_backslash (w ++ code "\\" ∷ t) (position_at (bytes (w ++ code "\\" ∷ t)) (reach_of t)) ≡ true
unfolding lib.Utf8.encode bytes
after_backslash w t = byte_before w t (code "\\") refl (omega arith)

pub after_letter : (w t : Text) →
    is_after_backslash (w ++ code "k" ∷ t) (position_at (bytes (w ++ code "k" ∷ t)) (reach_of t)) ≡ false
unfolding lib.Utf8.encode bytes
after_letter w t = byte_before w t (code "k") refl (omega arith)

pub not_of_all : (role : Role) (t : Target) → is_by_number t ≡ false → is_call_of_all role t ≡ false
not_of_all call (by_number n) h = absurd cc
not_of_all call (by_name w) h = refl
not_of_all call (relative z) h = refl
not_of_all back_reference t h = refl
not_of_all condition t h = refl

-- what is no number is not written with one
pub not_in_digits : (μ : GroupInfo) (s : Text) (r : AstReference) (m : Meaning) (p : ℕ) →
    is_by_number (target_of r) ≡ false →
    is_numbered μ (reference_node 0 m r 0) ≡ false → is_numbered_call_of_all μ (reference_node 0 m r 0) ≡ false →
    AgreesWithInfo μ s r m p
not_in_digits μ s r m p e none never = record {
  numeric = λ w _. not_numeric w _ (role_of r) (target_of r) e ∙ sym none;
  of_all = not_of_all (role_of r) (target_of r) e ∙ sym never;
}

pub begins_reference : (x : Bool) (t : Text) → Begins x (code "\\" ∷ t)
begins_reference x t = begins_by x (code "\\") t refl refl refl refl

-- the text of a reference with a name, before another text
pub reference_text : (w v : Text) → (code "<" ∷ (w ++ codes ">")) ++ v ≡ code "<" ∷ (w ++ code ">" ∷ v)
reference_text w v = ap (λ z. code "<" ∷ z) (append_assoc w (codes ">") v)

-- a back reference with a name of some kind
backref_by : (μ : GroupInfo) (h : Context) (n : ℕ) (w : Text) (target : Target) (level : Option ℤ) (l : Leaf) →
    ((v : Text) → ◌≡◌ {A = Option (Text × Text)} (delimited_name (code "<" ∷ (w ++ code ">" ∷ v))) (Some (w, v))) →
    ((p : ℕ) → written_reference p true w ≡ Some (reference_to p target level)) →
    refers_to (info_numbers μ) h.opened back_reference target ≡ number n →
    ((m p : ℕ) → reference_node m (number n) (ast_backref target h.flags.casei level) p ≡ leaf l) →
    group_count (leaf l) ≡ 0 →
    ((t : Text) → AgreesWithInfo μ (codes "\\k" ++ t) (ast_backref target h.flags.casei level) (number n) (reach_of t)) →
    LeafAt μ h (delimited (codes "\\k") w) l
backref_by μ h n w target level l name written meant node count agrees = record {
  reads =
      λ v m _. let t = code "<" ∷ (w ++ code ">" ∷ v) in
      subst (λ z. AtomAt μ h (codes "\\k" ++ z) v (leaf l)) (sym (reference_text w v))
      (record {
        tree = ast_node (ast_backref target h.flags.casei level) (reach_of t);
        derives =
            atom
            (leaf_at h.depth h.flags (code "\\") (code "k" ∷ t) refl refl
            ∙ ap (λ o. read (leaf_outcome leaf_node (st h.flags (codes "\\k" ++ t)) o))
            (backref_read_by h.flags w v target level (name v) written))
            a_read;
        becomes =
            reference_becomes μ _ h.opened (ast_backref target h.flags.casei level) (reach_of t) n
            l meant (agrees t) (λ m. node m (reach_of t)) count;
      });
  begins = λ v. begins_reference h.flags.ignore_space _;
}

-- a call with a name of some kind
call_by : (μ : GroupInfo) (h : Context) (n : ℕ) (w : Text) (target : Target) →
    ((v : Text) → ◌≡◌ {A = Option (Text × Text)} (delimited_name (code "<" ∷ (w ++ code ">" ∷ v))) (Some (w, v))) →
    ((p : ℕ) → written_call p w ≡ Some (call_to p target)) →
    refers_to (info_numbers μ) h.opened call target ≡ number n →
    ((s : Text) (p : ℕ) → AgreesWithInfo μ s (ast_call target) (number n) p) →
    LeafAt μ h (delimited (codes "\\g") w) (label.subroutine_call n)
call_by μ h n w target name called meant named = record {
  reads =
      λ v m _. let t = code "<" ∷ (w ++ code ">" ∷ v) in
      subst (λ z. AtomAt μ h (codes "\\g" ++ z) v (leaf (label.subroutine_call n))) (sym (reference_text w v)) (record {
        tree = ast_node (ast_call target) (reach_of t);
        derives =
            atom
            (leaf_at h.depth h.flags (code "\\") (code "g" ∷ t) refl refl
            ∙ ap (λ o. read (leaf_outcome leaf_node (st h.flags (codes "\\g" ++ t)) o))
            (call_read_by h.flags w v target (name v) called))
            a_read;
        becomes =
            reference_becomes μ _ h.opened (ast_call target) (reach_of t) n (label.subroutine_call n) meant
            (named _ (reach_of t)) (λ _. refl)
            refl;
      });
  begins = λ v. begins_reference h.flags.ignore_space _;
}

-- a letter comes before a name between delimiters
after_k : (text t : Text) → EndsWith text (codes "\\k" ++ t) →
    is_after_backslash text (position_at (bytes text) (reach_of t)) ≡ false
after_k text t (w, z) =
    (λ i. is_after_backslash ((z ∙ sym (append_assoc w (codes "\\") (code "k" ∷ t))) i)
    (position_at (bytes ((z ∙ sym (append_assoc w (codes "\\") (code "k" ∷ t))) i)) (reach_of t)))
    ∙ after_letter (w ++ codes "\\") t

module _ (μ : GroupInfo) (h : Context) (numbered : (k : ℕ) → IfSome (name_of μ k) (λ e. e.1 ≡ info_numbers μ e.0)) where
  -- with the name if it can be used, and otherwise with the number
  backref_without : μ.numeric_capture_group_references ≡ false → (n : ℕ) → n < 2 ^ 64 →
      LeafAt μ h (backref_text μ h.opened n) (label.backref n h.flags.casei)
  backref_without none n l =
      let such = λ (l : List ℕ). is_last n l && nat_le n h.opened in
      let P = λ (w : Text). LeafAt μ h (delimited (codes "\\k") w) (label.backref n h.flags.casei) in
      subst (λ t. LeafAt μ h t (label.backref n h.flags.casei)) (sym (cond-false _ _ _ none))
      (choose_both P (fit_name μ such n) _ _ (λ w e. by_fit w e)
      (backref_by μ h n (decimal n) (by_number n) None (label.backref n h.flags.casei) (digits_delimited n l)
      (number_written n l) refl (λ _ _. refl) refl
      (λ t. record { numeric = λ text e. after_k text t e ∙ sym none; of_all = refl })))
    where
      by_fit : (w : Text) → fit_name μ (λ l. is_last n l && nat_le n h.opened) n ≡ Some w →
          LeafAt μ h (delimited (codes "\\k") w) (label.backref n h.flags.casei)
      by_fit w e =
          let q = fits μ (λ l. is_last n l && nat_le n h.opened) n (numbered n) (ap is_some e) in
          let (last, early) = and_parts (is_last n (info_numbers μ q.name)) (nat_le n h.opened) q.are_such in
          let meant : refers_to (info_numbers μ) h.opened back_reference (by_name q.name) ≡ number n
          = ap (back_to h.opened q.name) (last_is n (info_numbers μ q.name) last) ∙ cond-true _ _ _ early in
          subst (λ w. LeafAt μ h (delimited (codes "\\k") w) (label.backref n h.flags.casei))
          (same_Some q.name w (sym q.fit ∙ e))
          (backref_by μ h n q.name (by_name q.name) None (label.backref n h.flags.casei)
          (λ v. name_read q.name q.plain v) (written_as q.name q.plain []) meant (λ _ _. refl) refl
          (λ t. not_in_digits μ _ (ast_backref (by_name q.name) h.flags.casei None) (number n) (reach_of t) refl none
          refl))

  -- the same with a level
  pub level_at : (n : ℕ) (z : ℤ) → n < 2 ^ 64 → IsLevelWritable z →
      LeafAt μ h (backref_at_level_text μ h.opened n z) (label.backref_at_level n z h.flags.casei)
  level_at n z small level =
      let P = λ (w : Text). LeafAt μ h (delimited (codes "\\k") (w ++ signed z))
      (label.backref_at_level n z h.flags.casei) in
      choose_both P (fit_name μ (λ l. is_last n l && nat_le n h.opened) n) _ _ (λ w e. by_fit w e)
      (by_digits (decimal n) ((decimal_is_IsNumeral n small).0) (number_target n small))
    where
      named_so : (c : ℕ) (u : Text) → AllByRecursion (λ c. is_id_char c ≡ true) (c ∷ u) →
          is_among (code ">") (c ∷ u) ≡ false → (target : Target) → target_of_name (c ∷ u) ≡ target →
          refers_to (info_numbers μ) h.opened back_reference target ≡ number n →
          ((t : Text) →
          AgreesWithInfo μ (codes "\\k" ++ t) (ast_backref target h.flags.casei (Some z)) (number n) (reach_of t)) →
          LeafAt μ h (delimited (codes "\\k") ((c ∷ u) ++ signed z)) (label.backref_at_level n z h.flags.casei)
      named_so c u ids undelimited target is_target meant agrees =
          let l = written_level z level in
          subst (λ t. LeafAt μ h (delimited (codes "\\k") ((c ∷ u) ++ t)) (label.backref_at_level n z h.flags.casei))
          (sym l.is)
          (backref_by μ h n ((c ∷ u) ++ l.sign ∷ l.digits) target (Some z) (label.backref_at_level n z h.flags.casei)
          (level_delimited c u z l ids undelimited) (level_written c u z l ids target is_target) meant
          (λ _ _. refl) refl agrees)

      by_digits : (ds : Text) → IsNumeral 10 ds → target_of_name ds ≡ by_number n →
          LeafAt μ h (delimited (codes "\\k") (ds ++ signed z)) (label.backref_at_level n z h.flags.casei)
      by_digits [] i t = absurd (omega (arith, i.0))
      by_digits (d ∷ ds) i t =
          named_so d ds (digit_ids (d ∷ ds) i.1) (digits_undelimited (d ∷ ds) i.1) (by_number n) t refl
          (λ t. record { numeric = λ text e. after_k text t e; of_all = refl })

      by_fit : (w : Text) → fit_name μ (λ l. is_last n l && nat_le n h.opened) n ≡ Some w →
          LeafAt μ h (delimited (codes "\\k") (w ++ signed z)) (label.backref_at_level n z h.flags.casei)
      by_fit w e =
          let q = fits μ (λ l. is_last n l && nat_le n h.opened) n (numbered n) (ap is_some e) in
          let (last, early) = and_parts (is_last n (info_numbers μ q.name)) (nat_le n h.opened) q.are_such in
          let meant : refers_to (info_numbers μ) h.opened back_reference (by_name q.name) ≡ number n
          = ap (back_to h.opened q.name) (last_is n (info_numbers μ q.name) last) ∙ cond-true _ _ _ early in
          let (c, u, is) = q.plain.some in
          subst (λ w. LeafAt μ h (delimited (codes "\\k") (w ++ signed z)) (label.backref_at_level n z h.flags.casei))
          (sym is ∙ same_Some q.name w (sym q.fit ∙ e))
          (named_so c u (subst (AllByRecursion (λ c. is_id_char c ≡ true)) is q.plain.ids)
          (sym (ap (is_among (code ">")) is) ∙ q.plain.no_delimiter) (by_name q.name)
          (sym (ap target_of_name is) ∙ q.plain.target) meant
          (λ t.
          not_in_digits μ _ (ast_backref (by_name q.name) h.flags.casei (Some z)) (number n) (reach_of t) refl refl refl))

  -- with the name if it can be used, and otherwise with the distance
  call_without : (n : ℕ) → is_called_by_number μ n ≡ false → n - h.opened < amount_bound →
      h.opened + 1 - n < amount_bound → LeafAt μ h (call_text μ h.opened n) (label.subroutine_call n)
  call_without n none forward_small back =
      let P = λ (w : Text). LeafAt μ h (delimited (codes "\\g") w) (label.subroutine_call n) in
      let text : call_name μ h.opened n ≡ name_or μ (is_only n) n (distance h.opened n)
      = cond-false _ _ _ none in
      subst P (sym text)
      (choose_both P (fit_name μ (is_only n) n) _ _ (λ w e. by_fit w e)
      (cond_both (nat_lt h.opened n) _ _ P (λ e. forward (ltb-true h.opened n e))
      (λ e. backward (grind (arith, nat_tests)))))
    where
      as_no_number : (s : Text) (t : Target) (p : ℕ) → is_by_number t ≡ false →
          AgreesWithInfo μ s (ast_call t) (number n) p
      as_no_number s t p e = not_in_digits μ s (ast_call t) (number n) p e none (ap (λ b. b && n == 0) none)

      by_fit : (w : Text) → fit_name μ (is_only n) n ≡ Some w →
          LeafAt μ h (delimited (codes "\\g") w) (label.subroutine_call n)
      by_fit w e =
          let q = fits μ (is_only n) n (numbered n) (ap is_some e) in
          subst (λ w. LeafAt μ h (delimited (codes "\\g") w) (label.subroutine_call n))
          (same_Some q.name w (sym q.fit ∙ e))
          (call_by μ h n q.name (by_name q.name) (λ v. name_read q.name q.plain v) (called q.name q.plain [])
          (only_is n (info_numbers μ q.name) q.are_such) (λ s p. as_no_number s (by_name q.name) p refl))

      forward : h.opened < n →
          LeafAt μ h (delimited (codes "\\g") (code "+" ∷ decimal (n - h.opened))) (label.subroutine_call n)
      forward l =
          let k = n - h.opened - 1 in
          let m : suc k ≡ n - h.opened = omega arith in
          let small : suc k < amount_bound = omega (arith, forward_small) in
          let same : h.opened + suc k ≡ n = omega arith in
          subst (λ d. LeafAt μ h (delimited (codes "\\g") (code "+" ∷ decimal d)) (label.subroutine_call n)) m
          (call_by μ h n (code "+" ∷ decimal (suc k)) (relative (pos (suc k)))
          (distance_delimited (code "+") k (pos (suc k)) refl small refl (not_zero k))
          (distance_called (code "+") k (pos (suc k)) refl small refl (not_zero k)) (ap number same)
          (λ s p. as_no_number s (relative (pos (suc k))) p refl))

      backward : n ≤ h.opened →
          LeafAt μ h (delimited (codes "\\g") (code "-" ∷ decimal (h.opened + 1 - n))) (label.subroutine_call n)
      backward l =
          let k = h.opened - n in
          let m : suc k ≡ h.opened + 1 - n = omega arith in
          let small : suc k < amount_bound = omega (arith, back) in
          let same : h.opened - k ≡ n = omega arith in
          let near : nat_le k h.opened ≡ true = le-leb k h.opened (omega arith) in
          subst (λ d. LeafAt μ h (delimited (codes "\\g") (code "-" ∷ decimal d)) (label.subroutine_call n)) m
          (call_by μ h n (code "-" ∷ decimal (suc k)) (relative (negsuc k))
          (distance_delimited (code "-") k (negsuc k) refl small refl refl)
          (distance_called (code "-") k (negsuc k) refl small refl refl)
          (ap (group_or_none call) (cond-true _ _ _ near) ∙ ap number same)
          (λ s p. as_no_number s (relative (negsuc k)) p refl))

-- ---- in digits

digits_escape : (f : Flags) (ds v : Text) → IsNumeral 10 ds →
    escape f false (ds ++ v) ≡ number_escape f false (reach_of (ds ++ v) + 1) (ds ++ v)
unfolding escape_at
digits_escape f [] v h = absurd (omega (arith, h.0))
digits_escape f (d ∷ ds) v h = cond-true _ _ _ ((digit_is d h.1.0).0)

digits_read_as : (f : Flags) (p n : ℕ) (v : Text) → n < 2 ^ 64 → at_digit v ≡ false →
    number_escape f false p (decimal n ++ v)
    ≡ gives (escaped.backref (reference_to (reach_of (decimal n ++ v)) (by_number n) None) f.casei) v
unfolding number_escape escapes.numbered_reference escapes.group_number
digits_read_as f p n v h d = rw (number_read n v h d, lt-ltb n (2 ^ 64) h) refl

module _ (μ : GroupInfo) (h : Context) where
  -- before a text that begins with no digit
  pub digits_atom : (n : ℕ) → μ.numeric_capture_group_references ≡ true → n < 2 ^ 64 → (v : Text) →
      at_digit v ≡ false → AtomAt μ h (code "\\" ∷ (decimal n ++ v)) v (leaf (label.backref n h.flags.casei))
  digits_atom n e l v y =
      let r = ast_backref (by_number n) h.flags.casei None in
      let t = decimal n ++ v in
      record {
        tree = ast_node r (reach_of t);
        derives =
            atom
            (leaf_at h.depth h.flags (code "\\") t refl refl
            ∙ ap (λ o. read (leaf_outcome leaf_node (st h.flags (code "\\" ∷ t)) o))
            (digits_escape h.flags (decimal n) v ((decimal_is_IsNumeral n l).0)
            ∙ digits_read_as h.flags (reach_of t + 1) n v l y))
            a_read;
        becomes =
            reference_becomes μ _ h.opened r (reach_of t) n (label.backref n h.flags.casei) refl
            (record {
              numeric =
                  λ text (w, z). (λ i. is_after_backslash (z i) (position_at (bytes (z i)) (reach_of t)))
                  ∙ (after_backslash w t ∙ sym e);
              of_all = refl;
            }) (λ _. refl) refl;
      }

  backref_in_digits : (n : ℕ) → μ.numeric_capture_group_references ≡ true → n < 2 ^ 64 →
      LeafAt μ h (backref_text μ h.opened n) (label.backref n h.flags.casei)
  backref_in_digits n e l =
      subst (λ t. LeafAt μ h t (label.backref n h.flags.casei)) (sym (cond-true _ _ _ e)) (record {
        reads = λ v m y. digits_atom n e l v (y e);
        begins = λ v. begins_reference h.flags.ignore_space _;
      })

  -- in digits, or with the name of its group
  pub backref_at : ((k : ℕ) → IfSome (name_of μ k) (λ e. e.1 ≡ info_numbers μ e.0)) → (n : ℕ) →
      n < 2 ^ 64 → LeafAt μ h (backref_text μ h.opened n) (label.backref n h.flags.casei)
  backref_at numbered n k = by_mode μ.numeric_capture_group_references refl k
    where
      by_mode : (b : Bool) → μ.numeric_capture_group_references ≡ b → n < 2 ^ 64 →
          LeafAt μ h (backref_text μ h.opened n) (label.backref n h.flags.casei)
      by_mode true e l = backref_in_digits n e l
      by_mode false e l = backref_without μ h numbered e n l

  -- with the number
  call_by_number : (n : ℕ) → is_called_by_number μ n ≡ true → n < 2 ^ 64 →
      LeafAt μ h (call_text μ h.opened n) (label.subroutine_call n)
  call_by_number n e l =
      let P = λ (w : Text). LeafAt μ h (delimited (codes "\\g") w) (label.subroutine_call n) in
      let text : call_name μ h.opened n ≡ decimal n = cond-true _ _ _ e in
      subst P (sym text)
      (call_by μ h n (decimal n) (by_number n) (digits_delimited n l) (number_called n l) refl
      (λ s p. record { numeric = λ w _. sym e; of_all = sym (ap (λ b. b && n == 0) e) }))

  -- with the number if it is written so, and otherwise with a name or a distance
  pub call_at : ((k : ℕ) → IfSome (name_of μ k) (λ e. e.1 ≡ info_numbers μ e.0)) → (n : ℕ) →
      IsCallWritable (is_called_by_number μ n) h.opened n → LeafAt μ h (call_text μ h.opened n) (label.subroutine_call n)
  call_at numbered n k = by_mode (is_called_by_number μ n) refl k
    where
      by_mode : (b : Bool) → is_called_by_number μ n ≡ b → IsCallWritable b h.opened n →
          LeafAt μ h (call_text μ h.opened n) (label.subroutine_call n)
      by_mode true e k = call_by_number n e k
      by_mode false e k = call_without μ h numbered n e k.0 k.1
