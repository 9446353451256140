-- Each node of a raw tree that a pattern derives is as `IsParsedNode` says, and the flags keep their mode. By one
-- induction on the derivation, as in `ReadLaws`.
use Rattle.std.proofs.Common.{◌≡◌, ℕ, zero, suc, ◌+◌, ◌∷◌, [], List, refl, sym, ap, ◌∙◌, subst, Bool, true, false}
use Rattle.std.proofs.Common.{Option, Some, None, IfSome, length}
use Rattle.std.specs.Prelude.{◌==◌, not, nat_lt, nat_le, ◌&&◌, codes}
use Rattle.std.proofs.lemmas.Bool.{cond_both}
use Prim.Native.Char.{code}
use Rattle.fancy_lex.proofs.ReadingLemmas.{choose_both}
use Rattle.fancy_lex.proofs.ReferencePositions.{IfGives}
use Rattle.fancy_lex.specs.Class.{class}
use Rattle.fancy_lex.specs.Escape.{escape}
use Rattle.fancy_lex.specs.Escaped as escaped
use Rattle.fancy_lex.specs.Escaped.{Escape}
use Rattle.fancy_lex.specs.Reading.{Reading, gives, fails}
use Rattle.fancy_lex.specs.Referred.{Reference}
use Rattle.fancy_lex.specs.Text.{Text, bytes, position_at, strip, strip_word, reach_of}
use Rattle.fancy_lex.specs.declared.escape.Assertion.{Assertion}
use Rattle.fancy_lex.specs.declared.escape.Assertion.TheVariants.{StartLine, StartLineOniguruma}
use Rattle.fancy_lex.specs.declared.flags.Flags.{Flags}
use Rattle.fancy_lex.specs.FlagLetters.{Letters, inline_flags, flag_group as scoped}
use Rattle.fancy_lex.specs.GroupName.{group_name}
use Rattle.fancy_lex.specs.GroupReference.{named_reference, named_call, begins_target, condition_target}
use Rattle.fancy_lex.specs.LetterSteps.{letters}
use Rattle.fancy_lex.specs.Quantifier.{counts}
use Rattle.fancy_lex.specs.declared.counts.Counts.{Counts}
use Rattle.fancy_grammar.specs.AtomStart.{AtomStart, nothing, read, of_kind, condition, body, absent_branch, atom_start}
use Rattle.fancy_grammar.specs.AtomStart.{start_of}
use Rattle.fancy_grammar.specs.AtomStart.{start_anchor, end_anchor, leaf_node, leaf_outcome, leaf_of}
use Rattle.fancy_grammar.specs.AtomStart.{backref_node, call_node, begins_no_atom, named_start, target_start}
use Rattle.fancy_grammar.specs.AtomStart.{flags_start}
use Rattle.fancy_grammar.specs.AtomStart.{condition_start, repeater_start, after_question, group_start}
use Rattle.fancy_grammar.specs.Depth.{max_depth}
use Rattle.fancy_grammar.specs.Grammar.{Alternation, alternation, Branches, last, more, branch_error, Branch, branch}
use Rattle.fancy_grammar.specs.Grammar.{Pieces, stop, next, piece_error, Piece, piece, layout_error, Atom, atom, AtomOf}
use Rattle.fancy_grammar.specs.Grammar.{a_nothing, a_read, a_group, a_condition, condition_error, a_body, two_branches}
use Rattle.fancy_grammar.specs.Grammar.{one_branch, absent_error, Inside, inside, Body, the_body, Whole, whole}
use Rattle.fancy_grammar.specs.Grammar.{closed, ended, branches_of, conditional_of, DerivesTree}
use Rattle.fancy_grammar.specs.Grammar.{conditional_after, is_condition, clear_or_stopper, after_atom, restored}
use Rattle.fancy_grammar.specs.GroupKind.{capture}
use Rattle.fancy_grammar.specs.Label as label
use Rattle.fancy_grammar.specs.Quantified.{quants, adjacent, max_adjacent, is_unmoved, quant, with_counts}
use Rattle.fancy_grammar.specs.Quantified.{suffix, after_lazy, may_be_possessive, is_repeatable, is_dropped}
use Rattle.fancy_grammar.specs.Quantified.{Suffix}
use Rattle.fancy_grammar.specs.State.{skipped, State, at, Outcome, done, failed}
use Rattle.fancy_grammar.specs.Tree.{Tree, leaf, expression}
use Rattle.fancy_grammar.specs.Verb.{verb_at}
use Rattle.fancy_grammar.proofs.OutcomeLemmas.{Holds, then_holds, skipped_both}
use Rattle.fancy_pattern.proofs.Parsed.Nodes.{IsParsed, AreParsed, IsKindParsed, by_escape, by_class, join_parsed}
use Rattle.fancy_pattern.proofs.Parsed.Nodes.{choice_parsed, quantified_parsed, node_parsed, conditional_parsed}
use Rattle.fancy_pattern.proofs.Parsed.Nodes.{branches_parsed, expression_parsed, stopper_parsed}
use Rattle.fancy_pattern.proofs.Parsed.Readers.{IsSameMode, IsModeOf, letters_mode, IfWords}
use Rattle.fancy_pattern.proofs.Parsed.Readers.{counts_words, IsFreeOf}
use Rattle.fancy_pattern.proofs.Parsed.Readers.{name_free, angled_writable, quoted_writable}
use Rattle.std.proofs.Common.{ℤ, ◌++◌, ap₂, append_assoc, arith}
use Rattle.std.proofs.lemmas.Bool.Decides.{nat_tests}
use Rattle.fancy_lex.specs.Referred.{Call}
use Rattle.fancy_lex.specs.Text.{position_at}
use Rattle.fancy_grammar.specs.Written.{is_after_backslash}
use Rattle.fancy_grammar.specs.Slices.{Slice}
use Rattle.fancy_grammar.proofs.AtomStartLaws.{StartReads, start_reads}
use Rattle.fancy_grammar.proofs.Slices.{current, on, strip_slice, skipped_slice}
use Rattle.fancy_grammar.proofs.ReadLaws.{branch_read, piece_read, inside_read}
use Rattle.fancy_pattern.proofs.PatternLaws.References.{after_letter}
use Rattle.fancy_pattern.proofs.PatternLaws.Needed.{IsLineOfMode}
use Rattle.fancy_pattern.proofs.Parsed.Escapes.{IsAfterLetter, is_start_of_line, IsOfMode, escape_mode}
use Rattle.fancy_pattern.proofs.Parsed.Targets.{IsReferenceRead, IsCallRead, condition_target_read}
use Rattle.fancy_pattern.proofs.Parsed.Targets.{named_reference_read}
use Rattle.fancy_pattern.proofs.Parsed.Targets.{named_reference_plain, named_call_read}

-- a tree that is read; the flags after it keep the mode
pub record IsPart (f : Flags) (text : Text) (r : Tree) (t : State) : Type 0 where
  pub mode : IsSameMode f t.flags
  pub parsed : IsParsed f text r

-- trees that are read one after another
pub record AreParts (f : Flags) (text : Text) (l : List Tree) (t : State) : Type 0 where
  pub mode : IsSameMode f t.flags
  pub parsed : AreParsed f text l

mode_repeatable : (a : Tree) (f g : Flags) → f.oniguruma_mode ≡ g.oniguruma_mode →
    is_repeatable f a ≡ is_repeatable g a
mode_repeatable (leaf (label.assertion x)) f g e = ap not e
mode_repeatable _ f g e = refl

anchor_line : (f g : Flags) → g.oniguruma_mode ≡ f.oniguruma_mode → IsLineOfMode f (start_anchor g)
anchor_line f g e =
    cond_both g.multi _ _ (IsLineOfMode f)
    (λ _. cond_both g.oniguruma_mode _ _ (IsLineOfMode f) (λ o. sym e ∙ o) (λ o. sym e ∙ o)) (λ _. tt)

end_line : (f g : Flags) → IsLineOfMode f (end_anchor g)
end_line f g = cond_both g.multi _ _ (IsLineOfMode f) (λ _. tt) (λ _. tt)

no_line : (f : Flags) (a : Assertion) → is_start_of_line a ≡ false → IsLineOfMode f a
no_line f (StartLine crlf) h = absurd cc
no_line f (StartLineOniguruma crlf) h = absurd cc
no_line f _ h = tt

module _ (f : Flags) (text : Text) where
  abbrev P : Outcome Tree → Type 0
  P = Holds (IsPart f text)

  same_oniguruma : (g : Flags) → IsSameMode f g → g.oniguruma_mode ≡ f.oniguruma_mode
  same_oniguruma g m = ap (λ k. k.oniguruma_mode) m

  same_unicode : (g : Flags) → IsSameMode f g → g.unicode ≡ f.unicode
  same_unicode g m = ap (λ k. k.unicode) m

  -- ---- quantifiers

  suffix_mode : (w : State) (c : Counts) → IsSameMode f w.flags →
      Holds (λ (m : Suffix) v. IsSameMode f v.flags) (suffix w c)
  suffix_mode w c h =
      skipped_both W (skipped w) _ _ (λ t e.
      choose_both W (strip (code "?") t) _ _ (λ u e. after_operator true u) (after_operator false t)) (λ p e. tt)
    where
      W : Outcome Suffix → Type 0
      W = Holds (λ (m : Suffix) v. IsSameMode f v.flags)

      after_operator : (lazy : Bool) (t : Text) → W (after_lazy w c lazy t)
      after_operator lazy t =
          cond_both (may_be_possessive w.flags c) _ _ W
          (λ _. choose_both W (strip (code "+") t) _ _ (λ u e. h) h) (λ _. h)

  quant_part : (left : ℕ) (a : Tree) (t : State) → IsPart f text a t → P (quant left a t)
  unfolding quant
  quant_part left a t h =
      skipped_both P (skipped t) _ _
      (λ v e. by_counts v (counts t.flags.ignore_space v) (counts_words t.flags.ignore_space v)) (λ p e. tt)
    where
      by_counts : (v : Text) (o : Option (Counts × Text)) → IfWords o → P (with_counts left a (at t v) o)
      by_counts v None w = record { mode = h.mode; parsed = h.parsed }
      by_counts v (Some (c, u)) w =
          let operators = suffix_mode (at t u) c h.mode in
          let M = λ (m : Suffix) (v : State). IsSameMode f v.flags in
          cond_both (is_repeatable t.flags a) _ _ P
          (λ e. then_holds M (IsPart f text) (suffix (at t u) c) _ operators (λ m x k. record {
            mode = k;
            parsed = quantified_parsed f text t.flags c m a (same_oniguruma t.flags h.mode)
                (mode_repeatable a f t.flags (sym (same_oniguruma t.flags h.mode)) ∙ e) w h.parsed;
          })) (λ _.
          cond_both (is_dropped t.flags left a u) _ _ P
          (λ _. then_holds M (IsPart f text) (suffix (at t u) c) _ operators
          (λ m x k. record { mode = k; parsed = h.parsed }))
          (λ _. tt))

  adjacent_part : (k d : ℕ) (a : Tree) (t : State) → IsPart f text a t → P (adjacent k d a t)
  unfolding adjacent
  adjacent_part zero d a t h =
      then_holds (IsPart f text) (IsPart f text) (quant (bytes t.rest) a t) _ (quant_part (bytes t.rest) a t h)
      (λ b v i. cond_both (is_unmoved t v) _ _ P (λ _. i) (λ _. tt))
  adjacent_part (suc k) d a t h =
      then_holds (IsPart f text) (IsPart f text) (quant (bytes t.rest) a t) _ (quant_part (bytes t.rest) a t h)
      (λ b v i. cond_both (is_unmoved t v) _ _ P (λ _. i) (λ _.
      cond_both (nat_lt (d + 1) max_depth) _ _ P (λ _. adjacent_part k (d + 1) b v i) (λ _. tt)))

  quants_part : (d left : ℕ) (a : Tree) (t : State) → IsPart f text a t → P (quants d left a t)
  quants_part d left a t h =
      then_holds (IsPart f text) (IsPart f text) (quant left a t) _ (quant_part left a t h)
      (λ b v i. cond_both v.flags.oniguruma_mode _ _ P (λ _. adjacent_part max_adjacent d b v i) (λ _. i))

  -- ---- the end of a part, and its outcome

  closed_part : (r : Tree) (t : State) → IsPart f text r t → P (closed r t)
  closed_part r t h =
      choose_both P (strip (code ")") t.rest) _ _ (λ u e. record { mode = h.mode; parsed = h.parsed }) tt

  ended_part : (r : Tree) (t : State) → IsPart f text r t → P (ended r t)
  ended_part r t h = cond_both (length t.rest == 0) _ _ P (λ _. h) (λ _. tt)

  conditional_part : (c r : Tree) (left : ℕ) (v : State) → IsParsed f text c → IsPart f text r v →
      P (conditional_after c left r v)
  conditional_part c r left v k h =
      let each = branches_parsed f text r h.parsed in
      cond_both (bytes v.rest == left && not (is_condition c)) _ _ P (λ _. tt)
      (λ _. closed_part (conditional_of c (branches_of r).0 (branches_of r).1) v (record {
        mode = h.mode;
        parsed = conditional_parsed f text c (branches_of r).0 (branches_of r).1 k each.0 each.1;
      }))

  -- ---- the start of an atom

  abbrev StartParsed : AtomStart → Type 0
  StartParsed nothing = Unit {0}
  StartParsed (read o) = P o
  StartParsed (of_kind h t) = IsSameMode f t.flags × IsKindParsed f text h
  StartParsed (condition t) = IsSameMode f t.flags
  StartParsed (body c t) = IsSameMode f t.flags × IsParsed f text c
  StartParsed (absent_branch t) = IsSameMode f t.flags

  -- a reference with a level comes after the letter of its escape
  after_no_backslash : (t : Text) → Slice text (code "\\" ∷ t) → (p : ℕ) → IsAfterLetter t p →
      is_after_backslash text (position_at (bytes text) p) ≡ false
  after_no_backslash [] i p h = absurd h
  after_no_backslash (c ∷ u) i p h =
      let is : text ≡ (i.word ++ (code "\\" ∷ [])) ++ (code "k" ∷ u)
      = i.cut ∙ (ap (λ d. i.word ++ (code "\\" ∷ d ∷ u)) h.0
      ∙ sym (append_assoc i.word (code "\\" ∷ []) (code "k" ∷ u))) in
      ap₂ (λ (s : Text) (q : ℕ). is_after_backslash s (position_at (bytes s) q)) is h.1
      ∙ after_letter (i.word ++ (code "\\" ∷ [])) u

  escape_part : (s : State) (t : Text) → IsSameMode f s.flags → Slice text (code "\\" ∷ t) →
      P (leaf_outcome leaf_node s (escape s.flags false t))
  escape_part s t m i = by_reading (escape s.flags false t) refl (escape_mode s.flags t)
    where
      levelled : (o : Option ℤ) (p : ℕ) → IfSome o (λ z. IsAfterLetter t p) →
          IfSome o (λ z. is_after_backslash text (position_at (bytes text) p) ≡ false)
      levelled None p h = tt
      levelled (Some z) p h = after_no_backslash t i p h

      by_reading : (o : Reading Escape) → escape s.flags false t ≡ o → IfGives (IsOfMode s.flags t) o →
          P (leaf_outcome leaf_node s o)
      by_reading (fails e) is h = tt
      by_reading (gives e u) is h = record { mode = m; parsed = by_leaf e is h }
        where
          by_leaf : (e : Escape) → escape s.flags false t ≡ gives e u → IsOfMode s.flags t e →
              IsParsed f text (leaf_node e)
          by_leaf (escaped.literal_bytes b) is h = (sym (same_unicode s.flags m) ∙ h, tt)
          by_leaf (escaped.assertion a) is h = (no_line f a h, tt)
          by_leaf (escaped.general_newline unicode) is h = (sym (same_unicode s.flags m) ∙ h, tt)
          by_leaf (escaped.delegate w casei) is h = (by_escape s.flags t u m is, tt)
          by_leaf (escaped.backref r casei) is h = ((h.0.0, h.0.1, levelled r.level r.reach h.1), tt)
          by_leaf (escaped.subroutine_call c) is h = (h, tt)
          by_leaf e is h = (tt, tt)

  class_part : (s : State) (t : Text) → IsSameMode f s.flags →
      P (leaf_outcome (λ w. leaf (label.delegate w s.flags.casei)) s (class s.flags t))
  class_part s t m = by_reading (class s.flags t) refl
    where
      by_reading : (o : Reading Text) → class s.flags t ≡ o →
          P (leaf_outcome (λ w. leaf (label.delegate w s.flags.casei)) s o)
      by_reading (fails e) is = tt
      by_reading (gives w u) is = record { mode = m; parsed = (by_class s.flags t u m refl is, tt) }

  leaf_part : (s : State) (c : ℕ) (t : Text) → IsSameMode f s.flags → Slice text (c ∷ t) → P (leaf_of s c t)
  leaf_part s c t m i =
      cond_both (c == code ".") _ _ P (λ _. record { mode = m; parsed = (tt, tt) }) (λ _.
      cond_both (c == code "^") _ _ P (λ _. record {
        mode = m;
        parsed = (anchor_line f s.flags (same_oniguruma s.flags m), tt);
      }) (λ _.
      cond_both (c == code "$") _ _ P (λ _. record { mode = m; parsed = (end_line f s.flags, tt) }) (λ _.
      cond_both (c == code "\\") _ _ P
      (λ e. escape_part s t m (subst (λ d. Slice text (d ∷ t)) (is_backslash e) i)) (λ _.
      cond_both (c == code "[") _ _ P (λ _. class_part s t m)
      (λ _. record { mode = m; parsed = (tt, tt) })))))
    where
      is_backslash : (c == code "\\") ≡ true → c ≡ code "\\"
      is_backslash e = grind (arith, nat_tests)

  letters_part : (s : State) (t : Text) → IsSameMode f s.flags → StartParsed (flags_start (letters s.flags t))
  letters_part s t m = by_reading (letters s.flags t) (letters_mode s.flags t)
    where
      by_reading : (o : Reading Letters) → IfGives (IsModeOf s.flags) o → StartParsed (flags_start o)
      by_reading (gives (inline_flags g) u) h = record { mode = h ∙ m; parsed = (tt, tt) }
      by_reading (gives (scoped g) u) h = (h ∙ m, tt)
      by_reading (fails e) h = tt

  named_part : (s : State) (delimiter : ℕ) (t u : Text) → IsSameMode f s.flags →
      ((w : Text) → IsFreeOf delimiter w → IsKindParsed f text (capture (Some w))) →
      StartParsed (named_start s (group_name delimiter t u))
  named_part s delimiter t u m k = by_reading (group_name delimiter t u) (name_free delimiter t u)
    where
      by_reading : (o : Reading Text) → IfGives (IsFreeOf delimiter) o → StartParsed (named_start s o)
      by_reading (gives w v) h = (m, k w h)
      by_reading (fails e) h = tt

  backref_part : (s : State) (casei : Bool) (o : Reading Reference) → IfGives IsReferenceRead o →
      IfGives (λ (r : Reference). r.level ≡ None) o → IsSameMode f s.flags →
      P (leaf_outcome (backref_node casei) s o)
  backref_part s casei (gives r u) h e m = record {
    mode = m;
    parsed = (
      (
        h.0,
        h.1,
        subst (λ o. IfSome o (λ z. is_after_backslash text (position_at (bytes text) r.reach) ≡ false))
            (sym e) tt,
      ),
      tt,
    );
  }
  backref_part s casei (fails e) h i m = tt

  call_part : (s : State) (o : Reading Call) → IfGives (λ (c : Call). IsCallRead c.target) o → IsSameMode f s.flags →
      P (leaf_outcome call_node s o)
  call_part s (gives c u) h m = record { mode = m; parsed = (h, tt) }
  call_part s (fails e) h m = tt

  target_part : (s : State) (o : Reading Reference) → IfGives IsReferenceRead o → IsSameMode f s.flags →
      StartParsed (target_start s o)
  target_part s (gives r u) h m = (m, ((h.0, h.1), tt))
  target_part s (fails e) h m = tt

  condition_part : (s : State) (t : Text) → IsSameMode f s.flags → StartParsed (condition_start s t)
  condition_part s [] m = tt
  condition_part s (c ∷ t) m =
      cond_both (begins_target (c ∷ t)) _ _ StartParsed
      (λ _. target_part s (condition_target (c ∷ t)) (condition_target_read (c ∷ t)) m) (λ _.
      cond_both (c == code "*") _ _ StartParsed
      (λ _. choose_both StartParsed (verb_at t) _ _ (λ p e. (m, (tt, tt))) tt) (λ _. m))

  repeater_part : (s : State) (t : Text) → IsSameMode f s.flags → StartParsed (repeater_start s t)
  repeater_part s [] m = tt
  repeater_part s (c ∷ t) m = (m, tt)

  question_part : (s : State) (t : Text) → IsSameMode f s.flags → StartParsed (after_question s t)
  question_part s t m =
      let Q = StartParsed in
      choose_both Q (strip_word (codes "=") t) _ _ (λ u e. (m, tt)) (
      choose_both Q (strip_word (codes "!") t) _ _ (λ u e. (m, tt)) (
      choose_both Q (strip_word (codes "<=") t) _ _ (λ u e. (m, tt)) (
      choose_both Q (strip_word (codes "<!") t) _ _ (λ u e. (m, tt)) (
      choose_both Q (strip_word (codes "<") t) _ _ (λ u e. named_part s (code ">") t u m angled_writable) (
      choose_both Q (strip_word (codes "'") t) _ _ (λ u e. named_part s (code "'") t u m quoted_writable) (
      choose_both Q (strip_word (codes "P<") t) _ _ (λ u e. named_part s (code ">") t u m angled_writable) (
      choose_both Q (strip_word (codes "P=") t) _ _
      (λ u e. backref_part s s.flags.casei (named_reference u) (named_reference_read u) (named_reference_plain u) m) (
      choose_both Q (strip_word (codes "P>") t) _ _
      (λ u e. call_part s (named_call u) (named_call_read u) m) (
      choose_both Q (strip_word (codes "~|") t) _ _ (λ u e. m) (
      choose_both Q (strip_word (codes "~") t) _ _ (λ u e. repeater_part s u m) (
      choose_both Q (strip_word (codes ">") t) _ _ (λ u e. (m, tt)) (
      choose_both Q (strip_word (codes "(DEFINE)") t) _ _ (λ u e. (m, tt)) (
      choose_both Q (strip_word (codes "(") t) _ _ (λ u e. condition_part s u m)
      (letters_part s t m))))))))))))))

  group_part : (s : State) (t : Text) → IsSameMode f s.flags → StartParsed (group_start s t)
  group_part s t m =
      choose_both StartParsed (strip_word (codes "?") t) _ _ (λ u e. question_part s u m) (
      choose_both StartParsed (strip_word (codes "*") t) _ _
      (λ u e. choose_both StartParsed (verb_at u) _ _ (λ p i. record { mode = m; parsed = (tt, tt) }) tt) (m, tt))

  start_part : (d : ℕ) (s : State) → IsSameMode f s.flags → Slice text s.rest → StartParsed (atom_start d s)
  unfolding atom_start
  start_part d s m i = by_text s.rest i
    where
      by_text : (t : Text) → Slice text t → StartParsed (start_of d s t)
      by_text [] i = tt
      by_text (c ∷ t) i =
          cond_both (c == code "(") _ _ StartParsed (λ _.
          cond_both (nat_le max_depth (d + 1)) _ _ StartParsed (λ _. tt)
          (λ _. skipped_both StartParsed (skipped (at s t)) _ _ (λ u e. group_part s u m) (λ p e. tt))) (λ _.
          cond_both (begins_no_atom c) _ _ StartParsed (λ _. tt) (λ _. leaf_part s c t m i))

  -- after an atom the flags from before it hold, or those that it sets
  restored_part : (g : Flags) (q : Outcome Tree) → IsSameMode f g → P q → P (restored g q)
  restored_part g (done r t) m h = record { mode = m; parsed = h.parsed }
  restored_part g (failed e) m h = tt

  atom_flags : (k : AtomStart) (g : Flags) (q : Outcome Tree) → IsSameMode f g → P q → P (after_atom k g q)
  atom_flags nothing g q m h = h
  atom_flags (read o) g q m h = h
  atom_flags (of_kind a s) g q m h = restored_part g q m h
  atom_flags (condition s) g q m h = restored_part g q m h
  atom_flags (body c s) g q m h = restored_part g q m h
  atom_flags (absent_branch s) g q m h = restored_part g q m h

  -- ---- the grammar

  mutual
    alternation_part : {d : ℕ} {s : State} {o : Outcome Tree} → Alternation d s o → IsSameMode f s.flags →
        Slice text s.rest → P o
    alternation_part (alternation {q} b) m i =
        then_holds (AreParts f text) (IsPart f text) q _ (branches_part b m i)
        (λ l v h. record { mode = h.mode; parsed = choice_parsed f text l h.parsed })

    branches_part : {d : ℕ} {s : State} {o : Outcome (List Tree)} → Branches d s o → IsSameMode f s.flags →
        Slice text s.rest → Holds (AreParts f text) o
    branches_part (last b e) m i = let h = branch_part b m i in record { mode = h.mode; parsed = (h.parsed, tt) }
    branches_part (more {t} {u} {q} b e n) m i =
        let h = branch_part b m i in
        let next = on (on i (branch_read b).span.slice) (strip_slice (code "|") t.rest u e) in
        then_holds (AreParts f text) (AreParts f text) q _ (branches_part n h.mode next)
        (λ l v k. record { mode = k.mode; parsed = (h.parsed, k.parsed) })
    branches_part (branch_error b) m i = tt

    branch_part : {d : ℕ} {s : State} {o : Outcome Tree} → Branch d s o → IsSameMode f s.flags →
        Slice text s.rest → P o
    branch_part (branch {q} b) m i =
        then_holds (AreParts f text) (IsPart f text) q _ (pieces_part b m i)
        (λ l v h. record { mode = h.mode; parsed = join_parsed f text l h.parsed })

    pieces_part : {d : ℕ} {s : State} {o : Outcome (List Tree)} → Pieces d s o → IsSameMode f s.flags →
        Slice text s.rest → Holds (AreParts f text) o
    pieces_part (stop e) m i = record { mode = m; parsed = tt }
    pieces_part (next {q} e a n) m i =
        let h = piece_part a m i in
        then_holds (AreParts f text) (AreParts f text) q _ (pieces_part n h.mode (on i (piece_read a).span.slice))
        (λ l v k. record { mode = k.mode; parsed = (h.parsed, k.parsed) })
    pieces_part (piece_error e a) m i = tt

    piece_part : {d : ℕ} {s : State} {o : Outcome Tree} → Piece d s o → IsSameMode f s.flags → Slice text s.rest → P o
    piece_part (piece {d} {s} {u} {q} l x) m i =
        then_holds (IsPart f text) (IsPart f text) q _ (atom_part x m (on i (skipped_slice s u l)))
        (λ a t h. quants_part d (bytes s.rest) a t h)
    piece_part (layout_error l) m i = tt

    atom_part : {d : ℕ} {s : State} {o : Outcome Tree} → Atom d s o → IsSameMode f s.flags → Slice text s.rest → P o
    atom_part (atom {d} {s} {k = e} {q} is a) m i =
        atom_flags e s.flags q m
        (of_part a (subst StartParsed is (start_part d s m i)) (subst (StartReads s) is (start_reads d s)) m i)

    of_part : {k : AtomStart} {d : ℕ} {s : State} {o : Outcome Tree} → AtomOf k d s o → StartParsed k → StartReads s k →
        IsSameMode f s.flags → Slice text s.rest → P o
    of_part a_nothing h x m i = record { mode = m; parsed = (tt, tt) }
    of_part a_read h x m i = h
    of_part (a_group {s} {h = kind} {q} n) h x m i =
        then_holds (IsPart f text) (IsPart f text) q _ (inside_part n h.0 (on i x.0))
        (λ r v k. record { mode = k.mode; parsed = node_parsed f text kind (reach_of s.rest) r h.1 k.parsed })
    of_part (a_condition n b) h x m i =
        let c = inside_part n h (on i x.0) in
        body_part b c.mode c.parsed (on (on i x.0) (inside_read n).span.slice)
    of_part (condition_error n) h x m i = tt
    of_part (a_body n) h x m i = body_part n h.0 h.1 (on i x.0.slice)
    of_part (two_branches {v} {u} {a} {q} b e n) h x m i =
        let c = branch_part b h (on i x.0) in
        let next = on (on (on i x.0) (branch_read b).span.slice) (strip_slice (code "|") v.rest u e) in
        then_holds (IsPart f text) (IsPart f text) q _ (branch_part n c.mode next)
        (λ r w k. closed_part (expression a r) w (record {
          mode = k.mode;
          parsed = expression_parsed f text a r c.parsed k.parsed;
        }))
    of_part (one_branch {v} {a} b e) h x m i =
        let c = branch_part b h (on i x.0) in
        closed_part (clear_or_stopper a) v (record { mode = c.mode; parsed = stopper_parsed f text a c.parsed })
    of_part (absent_error b) h x m i = tt

    inside_part : {d : ℕ} {s : State} {o : Outcome Tree} → Inside d s o → IsSameMode f s.flags → Slice text s.rest → P o
    inside_part (inside {q} a) m i =
        then_holds (IsPart f text) (IsPart f text) q _ (alternation_part a m i) (λ r v h. closed_part r v h)

    body_part : {d : ℕ} {c : Tree} {t : State} {o : Outcome Tree} → Body d c t o → IsSameMode f t.flags →
        IsParsed f text c → Slice text t.rest → P o
    body_part (the_body {c} {s} {q} a) m k i =
        then_holds (IsPart f text) (IsPart f text) q _ (alternation_part a m i)
        (λ r v h. conditional_part c r (bytes s.rest) v k h)

  whole_part : {o : Outcome Tree} → Whole f text o → P o
  whole_part (whole {q} a) =
      then_holds (IsPart f text) (IsPart f text) q _ (alternation_part a refl (current text)) (λ r t h. ended_part r t h)

-- each node of the raw tree of a text is such a node
pub derived_parsed : {f : Flags} {text : Text} {r : Tree} → DerivesTree f text r → IsParsed f text r
derived_parsed {f} {text} d = (whole_part f text d.1).parsed
