-- Conditions on a group, without branches or before them.
use Rattle.std.proofs.Common.{◌≡◌, ℕ, ◌+◌, ◌<◌, ◌^◌, ◌&&◌, ◌==◌, true, false, not, [], ◌∷◌, ◌++◌, codes}
use Rattle.std.proofs.Common.{Option, Some, None, is_some, decimal, refl, sym, ap, ◌∙◌, subst, append_assoc, append-nil}
use Rattle.std.proofs.Common.{IfSome, arith, ℤ}
use Rattle.std.proofs.Math.Bool.{and-false}
use Rattle.std.proofs.lemmas.Bool.{cond-false}
use Rattle.std.proofs.lemmas.Bool.Decides.{nat_tests}
use Rattle.std.proofs.lemmas.Fmt.{decimal_is_IsNumeral}
use Rattle.std.proofs.lemmas.Option.{same_Some}
use Rattle.std.specs.Char.{is_ascii_digit}
use Rattle.std.specs.List.{AllByRecursion}
use Rattle.std.specs.Str.Parse.{IsNumeral}
use Prim.Native.Char.{code}
use Rattle.fancy_lex.specs.Characters.{is_among, ◌∈◌}
use Rattle.fancy_lex.specs.Delimited.{name_before}
use Rattle.fancy_lex.specs.Id.{is_id_char}
use Rattle.fancy_lex.specs.Reading.{gives}
use Rattle.fancy_lex.specs.Referred.{reference_to, target_of_name, written_reference, reference_by_name}
use Rattle.fancy_lex.specs.Target.{Target, by_number, by_name, relative}
use Rattle.fancy_lex.specs.Text.{Text, reach_of, bytes, position_at}
use Rattle.fancy_lex.specs.declared.flags.Flags.{Flags}
use Rattle.fancy_lex.proofs.ReadingLemmas.{choose_both}
use Rattle.fancy_lex.specs.GroupReference.{begins_target, condition_target, condition_name}
use Rattle.fancy_grammar.specs.Meaning.{condition, number, refers_to, group_or_none}
use Rattle.fancy_grammar.specs.Written.{is_numeric}
use Rattle.fancy_grammar.specs.AtomStart.{atom_start, body, target_start}
use Rattle.fancy_grammar.specs.Depth.{max_depth}
use Rattle.fancy_grammar.specs.Grammar.{alternation, last, branch, stop, Body, the_body, atom, a_body, is_condition}
use Rattle.fancy_grammar.specs.Grammar.{conditional_after}
use Rattle.fancy_grammar.specs.Label as label
use Rattle.fancy_grammar.specs.Label.{ast_condition}
use Rattle.fancy_grammar.specs.GroupInfo.{GroupInfo}
use Rattle.fancy_grammar.specs.Pattern.{Context, parenthesized}
use Rattle.fancy_grammar.specs.PatternReference.{name_of, fit_name, is_last, target_text, delimited, level_text}
use Rattle.fancy_grammar.specs.State.{done}
use Rattle.fancy_grammar.specs.Tree.{Tree, leaf, ast_node}
use Rattle.fancy_grammar.proofs.Writable.{IsLevelWritable}
use Rattle.fancy_pattern.proofs.PatternLaws.Becomes.{Becomes, info_numbers, in_longer}
use Rattle.fancy_pattern.proofs.PatternLaws.Groups.{question_at, cut_before}
use Rattle.fancy_pattern.proofs.PatternLaws.Leaves.{LeafAt}
use Rattle.fancy_pattern.proofs.PatternLaws.Names.{delimited_read, written_level, number_written, digits_without}
use Rattle.fancy_pattern.proofs.PatternLaws.Names.{both_undelimited}
use Rattle.fancy_pattern.proofs.PatternLaws.Names.{level_written, digit_ids, number_target, written_as}
use Rattle.fancy_pattern.proofs.PatternLaws.References.{reference_becomes, fits, last_is, reference_text}
use Rattle.fancy_pattern.proofs.PatternLaws.Rules.{begins_by, AtomAt}
use Rattle.fancy_grammar.proofs.ReadBack.CountTexts.{digit_is}
use Rattle.fancy_grammar.proofs.ReadBack.RuleLemmas.{st}

-- ---- what a target is read as

module _ (level : Option ℤ) (target : Target) (c : ℕ) (u : Text)
    (written : (p : ℕ) → written_reference p true (c ∷ u) ≡ Some (reference_to p target level)) where
  abbrev IsTargetOf : Text → Text → Type 0
  IsTargetOf t v = condition_target t ≡ gives (reference_to (reach_of t) target level) v

  -- between delimiters
  delimited_target : is_among (code ">") (c ∷ u) ≡ false → (v : Text) →
      IsTargetOf (code "<" ∷ ((c ∷ u) ++ code ">" ∷ code ")" ∷ v)) v
  unfolding condition_target condition_name reference_by_name
  delimited_target h v =
      rw (
        delimited_read c u (code ")" ∷ v) h,
        written (reach_of (code "<" ∷ ((c ∷ u) ++ code ">" ∷ code ")" ∷ v))),
      ) refl

  -- without delimiters
  bare_target : is_ascii_digit c ≡ true → is_among (code ")") (c ∷ u) ≡ false → (v : Text) →
      IsTargetOf ((c ∷ u) ++ code ")" ∷ v) v
  unfolding condition_target condition_name reference_by_name name_before
  bare_target d h v =
      rw (no_quote c d, cut_before (code ")") (c ∷ u) v h, written (reach_of ((c ∷ u) ++ code ")" ∷ v))) refl
    where
      no_quote : (c : ℕ) → is_ascii_digit c ≡ true → (c ∈ "'<") ≡ false
      no_quote c d = grind (arith, nat_tests)

-- ---- a condition in its conditional

-- after `(?(`, the text and a closing parenthesis are a condition on the group
pub record ConditionAt (μ : GroupInfo) (i : Context) (t : Text) (n : ℕ) (level : Option ℤ) : Type 0 where
  pub node : Text → Tree
  pub asks : (v : Text) → is_condition (node v) ≡ true
  pub starts : (v : Text) →
      atom_start i.depth (st i.flags (codes "(?(" ++ (t ++ code ")" ∷ v))) ≡ body (node v) (st i.flags v)
  pub becomes : (v : Text) → Becomes μ (t ++ code ")" ∷ v) i.opened (node v) (leaf (label.backref_exists n level))

no_condition_numeric : (text : Text) (p : ℕ) (t : Target) → is_numeric text p condition t ≡ false
no_condition_numeric text p (by_number n) = refl
no_condition_numeric text p (by_name w) = refl
no_condition_numeric text p (relative z) = refl

module _ (μ : GroupInfo) (i : Context) (n : ℕ) (l : i.depth + 1 < max_depth) where
  from_target : (level : Option ℤ) (target : Target) (c : ℕ) (u : Text) → (c == code "D") ≡ false →
      ((v : Text) → begins_target (c ∷ v) ≡ true) →
      ((v : Text) → let t = (c ∷ u) ++ code ")" ∷ v in
      condition_target t ≡ gives (reference_to (reach_of t) target level) v) →
      refers_to (info_numbers μ) i.opened condition target ≡ number n → ConditionAt μ i (c ∷ u) n level
  from_target level target c u not_define begins reads meant = record {
    node = λ v. ast_node (ast_condition target level) (reach_of ((c ∷ u) ++ code ")" ∷ v));
    asks = λ v. refl;
    starts =
        λ v. let t = (c ∷ u) ++ code ")" ∷ v in
        question_at i.depth i.flags (code "(" ∷ t) l
        ∙ rw (not_define, begins (u ++ code ")" ∷ v)) (ap (target_start (st i.flags (codes "(?(" ++ t))) (reads v));
    becomes =
        λ v. let t = (c ∷ u) ++ code ")" ∷ v in
        reference_becomes μ t i.opened (ast_condition target level) (reach_of t) n (label.backref_exists n level) meant
        (record {
          numeric = λ text _. no_condition_numeric text (position_at (bytes text) (reach_of t)) target;
          of_all = refl;
        }) (λ _. refl) refl;
  }

  begins_angle : (v : Text) → begins_target (code "<" ∷ v) ≡ true
  unfolding begins_target
  begins_angle v = refl

  begins_digit : (c : ℕ) (v : Text) → is_ascii_digit c ≡ true → begins_target (c ∷ v) ≡ true
  unfolding begins_target
  begins_digit c v d = grind (arith, nat_tests)

  no_letter : (c : ℕ) → is_ascii_digit c ≡ true → (c == code "D") ≡ false
  no_letter c d = grind (arith, nat_tests)

  delimited_at : (level : Option ℤ) (target : Target) (c : ℕ) (u : Text) → is_among (code ">") (c ∷ u) ≡ false →
      ((p : ℕ) → written_reference p true (c ∷ u) ≡ Some (reference_to p target level)) →
      refers_to (info_numbers μ) i.opened condition target ≡ number n → ConditionAt μ i (delimited [] (c ∷ u)) n level
  delimited_at level target c u h written meant =
      from_target level target (code "<") ((c ∷ u) ++ codes ">") refl begins_angle
      (λ v. subst (λ z. condition_target z ≡ gives (reference_to (reach_of z) target level) v)
      (sym (reference_text (c ∷ u) (code ")" ∷ v))) (delimited_target level target c u written h v)) meant

  bare_at : (level : Option ℤ) (c : ℕ) (u : Text) → is_ascii_digit c ≡ true → is_among (code ")") (c ∷ u) ≡ false →
      ((p : ℕ) → written_reference p true (c ∷ u) ≡ Some (reference_to p (by_number n) level)) →
      ConditionAt μ i (c ∷ u) n level
  bare_at level c u d h written =
      from_target level (by_number n) c u (no_letter c d) (λ v. begins_digit c v d)
      (bare_target level (by_number n) c u written d h) refl

  by_digits : (level : Option ℤ) → IfSome level IsLevelWritable → n < 2 ^ 64 → (ds : Text) → IsNumeral 10 ds →
      decimal n ≡ ds → ConditionAt μ i (ds ++ level_text level) n level
  by_digits level w small [] h e = absurd (omega (arith, h.0))
  by_digits None w small (d ∷ ds) h e =
      subst (λ t. ConditionAt μ i t n None) (sym (append-nil (d ∷ ds)))
      (bare_at None d ds ((digit_is d h.1.0).0) (digits_without (code ")") refl (d ∷ ds) h.1)
      (λ p. subst (λ t. written_reference p true t ≡ Some (reference_to p (by_number n) None)) e
      (number_written n small p)))
  by_digits (Some z) w small (d ∷ ds) h e =
      let k = written_level z w in
      subst (λ t. ConditionAt μ i ((d ∷ ds) ++ t) n (Some z)) (sym k.is)
      (bare_at (Some z) d (ds ++ k.sign ∷ k.digits) ((digit_is d h.1.0).0)
      (both_undelimited (code ")") (d ∷ ds) (k.sign ∷ k.digits) (digits_without (code ")") refl (d ∷ ds) h.1)
      (k.no_delimiter (code ")") refl))
      (level_written d ds z k (digit_ids (d ∷ ds) h.1) (by_number n)
      (sym (ap target_of_name e) ∙ number_target n small)))

  by_name_of : (level : Option ℤ) → IfSome level IsLevelWritable → (c : ℕ) (u : Text) →
      AllByRecursion (λ c. is_id_char c ≡ true) (c ∷ u) → is_among (code ">") (c ∷ u) ≡ false →
      target_of_name (c ∷ u) ≡ by_name (c ∷ u) →
      ((p : ℕ) → written_reference p true (c ∷ u) ≡ Some (reference_to p (by_name (c ∷ u)) None)) →
      refers_to (info_numbers μ) i.opened condition (by_name (c ∷ u)) ≡ number n →
      ConditionAt μ i (delimited [] ((c ∷ u) ++ level_text level)) n level
  by_name_of None w c u ids h is_target written meant =
      subst (λ t. ConditionAt μ i (delimited [] t) n None) (sym (append-nil (c ∷ u)))
      (delimited_at None (by_name (c ∷ u)) c u h written meant)
  by_name_of (Some z) w c u ids h is_target written meant =
      let k = written_level z w in
      subst (λ t. ConditionAt μ i (delimited [] ((c ∷ u) ++ t)) n (Some z)) (sym k.is)
      (delimited_at (Some z) (by_name (c ∷ u)) c (u ++ k.sign ∷ k.digits)
      (both_undelimited (code ">") (c ∷ u) (k.sign ∷ k.digits) h (k.no_delimiter (code ">") refl))
      (level_written c u z k ids (by_name (c ∷ u)) is_target) meant)

  pub condition_at : (level : Option ℤ) → IfSome (name_of μ n) (λ e. e.1 ≡ info_numbers μ e.0) → n < 2 ^ 64 →
      IfSome level IsLevelWritable → ConditionAt μ i (target_text μ n level) n level
  condition_at level numbered small w =
      choose_both (λ t. ConditionAt μ i t n level) (fit_name μ (is_last n) n) _ _ by_fit
      (by_digits level w small (decimal n) ((decimal_is_IsNumeral n small).0) refl)
    where
      by_fit : (v : Text) → fit_name μ (is_last n) n ≡ Some v →
          ConditionAt μ i (delimited [] (v ++ level_text level)) n level
      by_fit v e =
          let q = fits μ (is_last n) n numbered (ap is_some e) in
          let (c, u, is) = q.plain.some in
          let meant : refers_to (info_numbers μ) i.opened condition (by_name q.name) ≡ number n
          = ap (group_or_none condition) (last_is n (info_numbers μ q.name) q.are_such) in
          subst (λ v. ConditionAt μ i (delimited [] (v ++ level_text level)) n level)
          (sym is ∙ same_Some q.name v (sym q.fit ∙ e))
          (by_name_of level w c u (subst (AllByRecursion (λ c. is_id_char c ≡ true)) is q.plain.ids)
          (sym (ap (is_among (code ">")) is) ∙ q.plain.no_delimiter)
          (subst (λ v. target_of_name v ≡ by_name v) is q.plain.target)
          (λ p. subst (λ v. written_reference p true v ≡ Some (reference_to p (by_name v) None)) is
          (written_as q.name q.plain [] p))
          (subst (λ v. refers_to (info_numbers μ) i.opened condition (by_name v) ≡ number n) is meant))

-- ---- a condition without branches

no_body : (k : Tree) (f : Flags) (v : Text) → is_condition k ≡ true →
    conditional_after k (bytes (code ")" ∷ v)) (leaf label.empty) (st f (code ")" ∷ v)) ≡ done k (st f v)
no_body k f v e =
    cond-false _ _ _ (ap (λ b. (bytes (code ")" ∷ v) == bytes (code ")" ∷ v)) && not b) e ∙ and-false _)

leaf_text_of : (t v : Text) →
    (codes "(?" ++ (parenthesized t ++ codes ")")) ++ v ≡ codes "(?(" ++ (t ++ code ")" ∷ code ")" ∷ v)
leaf_text_of t v =
    ap (λ z. codes "(?(" ++ z)
    (append_assoc (t ++ codes ")") (codes ")") v ∙ append_assoc t (codes ")") (code ")" ∷ v))

pub exists_at : (μ : GroupInfo) (h : Context) (t : Text) (n : ℕ) (level : Option ℤ) → ConditionAt μ h t n level →
    LeafAt μ h (codes "(?" ++ (parenthesized t ++ codes ")")) (label.backref_exists n level)
exists_at μ h t n level c = record {
  reads =
      λ v m _. let w = code ")" ∷ v in
      subst (λ z. AtomAt μ h z v (leaf (label.backref_exists n level))) (sym (leaf_text_of t v)) (record {
        tree = c.node w;
        derives =
            atom (c.starts w)
            (a_body (subst (Body h.depth (c.node w) (st h.flags w)) (no_body (c.node w) h.flags v (c.asks w))
            (the_body (alternation (last (branch (stop refl)) refl)))));
        becomes = in_longer μ (t ++ code ")" ∷ w) _ (codes "(?(", refl) h.opened (c.node w) _ (c.becomes w);
      });
  begins = λ v. begins_by h.flags.ignore_space (code "(") _ refl refl refl refl;
}
