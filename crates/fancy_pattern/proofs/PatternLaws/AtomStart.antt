-- The start of an atom: a leaf without parentheses suits the flags, and a group keeps the mode.
use Rattle.std.proofs.Common.{◌≡◌, ℕ, ◌+◌, ◌<◌, ◌≤◌, Bool, false, [], ◌∷◌, codes, refl, ap}
use Rattle.std.proofs.Common.{◌∙◌, arith, nat_le, ◌==◌}
use Rattle.std.proofs.lemmas.Bool.{cond_both}
use Rattle.std.proofs.lemmas.Bool.Decides.{nat_tests}
use Prim.Native.Char.{code}
use Rattle.fancy_lex.specs.Class.{class}
use Rattle.fancy_lex.specs.Escape.{escape}
use Rattle.fancy_lex.specs.Escaped.{Escape}
use Rattle.fancy_lex.specs.Escaped as escaped
use Rattle.fancy_lex.specs.Reading.{Reading, gives, fails}
use Rattle.fancy_lex.specs.Referred.{Reference, Call}
use Rattle.fancy_lex.specs.Text.{Text, strip_word}
use Rattle.fancy_lex.specs.declared.flags.Flags.{Flags}
use Rattle.fancy_lex.proofs.ReadingLemmas.{choose_both}
use Rattle.fancy_lex.proofs.ReferencePositions.{IfGives}
use Rattle.fancy_lex.specs.FlagLetters.{Letters, inline_flags, flag_group as scoped}
use Rattle.fancy_lex.specs.GroupName.{group_name}
use Rattle.fancy_lex.specs.GroupReference.{named_reference, named_call, begins_target, condition_target}
use Rattle.fancy_lex.specs.LetterSteps.{letters}
use Rattle.fancy_grammar.specs.AtomStart.{AtomStart, nothing, read, of_kind, condition, body, absent_branch, atom_start}
use Rattle.fancy_grammar.specs.AtomStart.{start_of}
use Rattle.fancy_grammar.specs.AtomStart.{group_start, after_question, condition_start, repeater_start}
use Rattle.fancy_grammar.specs.AtomStart.{flags_start, leaf_node, leaf_outcome, leaf_of, begins_no_atom}
use Rattle.fancy_grammar.specs.AtomStart.{named_start, target_start, backref_node, call_node}
use Rattle.fancy_grammar.specs.Depth.{max_depth}
use Rattle.fancy_grammar.specs.Label as label
use Rattle.fancy_grammar.specs.Label.{Leaf, ast_backref, ast_call, ast_condition}
use Rattle.fancy_grammar.specs.State.{skipped, State, at}
use Rattle.fancy_grammar.specs.Tree.{Tree, leaf, delegate}
use Rattle.fancy_grammar.specs.Verb.{verb_at}
use Rattle.fancy_grammar.proofs.PatternDepth.{is_in_parens}
use Rattle.fancy_grammar.proofs.OutcomeLemmas.{Holds, skipped_both}
use Rattle.fancy_pattern.proofs.Parsed.Readers.{IsModeOf, letters_mode}
use Rattle.fancy_pattern.proofs.PatternLaws.Suited.{Suits}
use Rattle.fancy_pattern.proofs.PatternLaws.SuitedEscapes.{IsBare, IsSuited, suited_escape, literal_suits, delegate_suits}
use Rattle.fancy_pattern.proofs.PatternLaws.SuitedEscapes.{dot_suits}
use Rattle.fancy_pattern.proofs.PatternLaws.SuitedEscapes.{start_suits, end_suits}

-- no group may open if this many are open
abbrev pub IsLast : ℕ → Type 0
IsLast d = max_depth ≤ d + 1

-- the raw leaf is not written as a group, and suits the flags, whatever its reference means
abbrev pub IsPlain : Flags → Leaf → Type 0
IsPlain f (label.ast_node (ast_backref t casei level) position) = casei ≡ f.casei
IsPlain f (label.ast_node (ast_call t) position) = IsBare t
IsPlain f (label.ast_node (ast_condition t level) position) = ⊥
IsPlain f l = (is_in_parens l ≡ false) × Suits f (leaf l)

abbrev pub IsPlainTree : Flags → Tree → Type 0
IsPlainTree f (leaf l) = IsPlain f l
IsPlainTree f _ = ⊥

abbrev pub IsLeafTree : Tree → Type 0
IsLeafTree (leaf l) = Unit {0}
IsLeafTree _ = ⊥

-- a leaf that is read from s up to t, with d groups open, in this mode
pub record LeafRead (in_mode : Bool) (d : ℕ) (s : State) (r : Tree) (t : State) : Type 0 where
  pub is_leaf : IsLeafTree r
  pub plain : IsLast d → IsPlainTree s.flags r
  pub stays : IsLast d → t.flags ≡ s.flags
  pub mode : t.flags.oniguruma_mode ≡ in_mode

-- a condition that is a target, or a verb
abbrev pub IsTarget : Tree → Type 0
IsTarget (leaf (label.verb v)) = Unit {0}
IsTarget (leaf (label.ast_node (ast_condition t level) position)) = Unit {0}
IsTarget _ = ⊥

abbrev pub StartMode : Bool → ℕ → State → AtomStart → Type 0
StartMode in_mode d s nothing = Unit {0}
StartMode in_mode d s (read o) = Holds (LeafRead in_mode d s) o
StartMode in_mode d s (of_kind h t) = t.flags.oniguruma_mode ≡ in_mode
StartMode in_mode d s (condition t) = t.flags.oniguruma_mode ≡ in_mode
StartMode in_mode d s (body c t) = IsTarget c × (t.flags.oniguruma_mode ≡ in_mode)
StartMode in_mode d s (absent_branch t) = t.flags.oniguruma_mode ≡ in_mode

module _ (in_mode : Bool) (d : ℕ) (s : State) (o : s.flags.oniguruma_mode ≡ in_mode) where
  -- ---- after a parenthesis

  module _ (b : d + 1 < max_depth) where
    open_leaf : (l : Leaf) (t : State) → t.flags.oniguruma_mode ≡ in_mode → LeafRead in_mode d s (leaf l) t
    open_leaf l t m = record {
      is_leaf = tt;
      plain = λ x. absurd (omega (arith, x, b));
      stays = λ x. absurd (omega (arith, x, b));
      mode = m;
    }

    flags_in_mode : (f : Flags) → f.oniguruma_mode ≡ in_mode → (q : Reading Letters) → IfGives (IsModeOf f) q →
        StartMode in_mode d s (flags_start q)
    flags_in_mode f m (gives (inline_flags g) u) h =
        open_leaf label.empty (record { flags = g; rest = u }) (ap (λ k. k.oniguruma_mode) h ∙ m)
    flags_in_mode f m (gives (scoped g) u) h = ap (λ k. k.oniguruma_mode) h ∙ m
    flags_in_mode f m (fails e) h = tt

    name_in_mode : (z : State) → z.flags.oniguruma_mode ≡ in_mode → (q : Reading Text) →
        StartMode in_mode d s (named_start z q)
    name_in_mode z m (gives w u) = m
    name_in_mode z m (fails e) = tt

    target_in_mode : (z : State) → z.flags.oniguruma_mode ≡ in_mode → (q : Reading Reference) →
        StartMode in_mode d s (target_start z q)
    target_in_mode z m (gives r u) = (tt, m)
    target_in_mode z m (fails e) = tt

    backref_in_mode : (z : State) → z.flags.oniguruma_mode ≡ in_mode → (casei : Bool) (q : Reading Reference) →
        Holds (LeafRead in_mode d s) (leaf_outcome (backref_node casei) z q)
    backref_in_mode z m casei (gives r u) = open_leaf _ (at z u) m
    backref_in_mode z m casei (fails e) = tt

    call_in_mode : (z : State) → z.flags.oniguruma_mode ≡ in_mode → (q : Reading Call) →
        Holds (LeafRead in_mode d s) (leaf_outcome call_node z q)
    call_in_mode z m (gives c u) = open_leaf _ (at z u) m
    call_in_mode z m (fails e) = tt

    condition_in_mode : (z : State) → z.flags.oniguruma_mode ≡ in_mode → (t : Text) →
        StartMode in_mode d s (condition_start z t)
    condition_in_mode z m [] = tt
    condition_in_mode z m (c ∷ t) =
        cond_both (begins_target (c ∷ t)) _ _ (StartMode in_mode d s)
        (λ _. target_in_mode z m (condition_target (c ∷ t))) (λ _.
        cond_both (c == code "*") _ _ (StartMode in_mode d s)
        (λ _. choose_both (StartMode in_mode d s) (verb_at t) _ _ (λ p _. (tt, m)) tt) (λ _. m))

    repeater_in_mode : (z : State) → z.flags.oniguruma_mode ≡ in_mode → (t : Text) →
        StartMode in_mode d s (repeater_start z t)
    repeater_in_mode z m [] = tt
    repeater_in_mode z m (c ∷ t) = m

    question_in_mode : (z : State) → z.flags.oniguruma_mode ≡ in_mode → (t : Text) →
        StartMode in_mode d s (after_question z t)
    question_in_mode z m t =
        let Q = StartMode in_mode d s in
        choose_both Q (strip_word (codes "=") t) _ _ (λ _ _. m) (
        choose_both Q (strip_word (codes "!") t) _ _ (λ _ _. m) (
        choose_both Q (strip_word (codes "<=") t) _ _ (λ _ _. m) (
        choose_both Q (strip_word (codes "<!") t) _ _ (λ _ _. m) (
        choose_both Q (strip_word (codes "<") t) _ _ (λ u _. name_in_mode z m (group_name (code ">") t u)) (
        choose_both Q (strip_word (codes "'") t) _ _ (λ u _. name_in_mode z m (group_name (code "'") t u)) (
        choose_both Q (strip_word (codes "P<") t) _ _ (λ u _. name_in_mode z m (group_name (code ">") t u)) (
        choose_both Q (strip_word (codes "P=") t) _ _ (λ u _. backref_in_mode z m z.flags.casei (named_reference u)) (
        choose_both Q (strip_word (codes "P>") t) _ _ (λ u _. call_in_mode z m (named_call u)) (
        choose_both Q (strip_word (codes "~|") t) _ _ (λ _ _. m) (
        choose_both Q (strip_word (codes "~") t) _ _ (λ u _. repeater_in_mode z m u) (
        choose_both Q (strip_word (codes ">") t) _ _ (λ _ _. m) (
        choose_both Q (strip_word (codes "(DEFINE)") t) _ _ (λ _ _. m) (
        choose_both Q (strip_word (codes "(") t) _ _ (λ u _. condition_in_mode z m u)
        (flags_in_mode z.flags m (letters z.flags t) (letters_mode z.flags t)))))))))))))))

    group_in_mode : (z : State) → z.flags.oniguruma_mode ≡ in_mode → (t : Text) → StartMode in_mode d s (group_start z t)
    group_in_mode z m t =
        choose_both (StartMode in_mode d s) (strip_word (codes "?") t) _ _ (λ u _. question_in_mode z m u) (
        choose_both (StartMode in_mode d s) (strip_word (codes "*") t) _ _
        (λ u _. choose_both (StartMode in_mode d s) (verb_at u) _ _
        (λ p _. open_leaf (label.verb p.0) (at z p.1) m) tt) m)

  -- ---- leaves

  plain_leaf : (l : Leaf) (t : Text) → (IsLast d → IsPlain s.flags l) → LeafRead in_mode d s (leaf l) (at s t)
  plain_leaf l t h = record { is_leaf = tt; plain = h; stays = λ _. refl; mode = o }

  escape_in_mode : (q : Reading Escape) → IfGives (IsSuited s.flags) q →
      Holds (LeafRead in_mode d s) (leaf_outcome leaf_node s q)
  escape_in_mode (gives (escaped.backref r casei) u) h = plain_leaf _ u (λ _. h)
  escape_in_mode (gives (escaped.subroutine_call c) u) h = plain_leaf _ u (λ _. h)
  escape_in_mode (gives e u) h = plain_leaf _ u (λ _. (refl, h))
  escape_in_mode (fails e) h = tt

  class_in_mode : (q : Reading Text) → Holds (LeafRead in_mode d s) (leaf_outcome (λ w. delegate w s.flags.casei) s q)
  class_in_mode (gives w u) =
      plain_leaf (label.delegate w s.flags.casei) u (λ _. (refl, delegate_suits s.flags w s.flags.casei refl))
  class_in_mode (fails e) = tt

  leaf_in_mode : (c : ℕ) (t : Text) → Holds (LeafRead in_mode d s) (leaf_of s c t)
  leaf_in_mode c t =
      let Q = Holds (LeafRead in_mode d s) in
      cond_both (c == code ".") _ _ Q
      (λ _. plain_leaf (label.any s.flags.dotnl s.flags.crlf) t (λ _. (refl, dot_suits s.flags))) (λ _.
      cond_both (c == code "^") _ _ Q (λ _. plain_leaf (label.assertion _) t (λ _. (refl, start_suits s.flags))) (λ _.
      cond_both (c == code "$") _ _ Q (λ _. plain_leaf (label.assertion _) t (λ _. (refl, end_suits s.flags))) (λ _.
      cond_both (c == code "\\") _ _ Q
      (λ _. escape_in_mode (escape s.flags false t) (suited_escape s.flags t)) (λ _.
      cond_both (c == code "[") _ _ Q (λ _. class_in_mode (class s.flags t))
      (λ _. plain_leaf (label.literal (c ∷ []) s.flags.casei) t
      (λ _. (refl, literal_suits s.flags (c ∷ []) s.flags.casei refl)))))))

  pub start_mode : StartMode in_mode d s (atom_start d s)
  unfolding atom_start
  start_mode = by_text s.rest
    where
      may_open : nat_le max_depth (d + 1) ≡ false → d + 1 < max_depth
      may_open e = grind (arith, nat_tests)

      by_text : (t : Text) → StartMode in_mode d s (start_of d s t)
      by_text [] = tt
      by_text (c ∷ t) =
          cond_both (c == code "(") _ _ (StartMode in_mode d s)
          (λ _. cond_both (nat_le max_depth (d + 1)) _ _ (StartMode in_mode d s) (λ _. tt)
          (λ e. skipped_both (StartMode in_mode d s) (skipped (at s t)) _ _ (λ u _. group_in_mode (may_open e) s o u)
          (λ p _. tt))) (λ _.
          cond_both (begins_no_atom c) _ _ (StartMode in_mode d s) (λ _. tt) (λ _. leaf_in_mode c t))
