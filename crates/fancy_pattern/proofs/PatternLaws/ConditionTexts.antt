-- What comes before the body of a conditional: a condition on a group, a verb, or an alternation.
use Rattle.std.proofs.Common.{◌≡◌, ℕ, ◌&&◌, ◌||◌, ◌==◌, not, Bool, true, false, [], ◌∷◌, ◌++◌, codes, map, refl, sym}
use Rattle.std.proofs.Common.{ap, ◌∙◌, subst, IfSome, Option, Some, None, ⊎_elim, ℤ, arith, append_assoc}
use Rattle.std.proofs.Math.Bool.{and-false}
use Rattle.std.proofs.lemmas.Bool.{false≢true, or_parts, or_cases, and_parts}
use Rattle.std.proofs.lemmas.Bool.Decides.{nat_tests}
use Rattle.std.proofs.lemmas.List.{append_cancel_right}
use Rattle.std.specs.Cmp.Lexicographic.{bytes_decides}
use Rattle.std.specs.List.{list_all}
use Rattle.std.specs.Str.{bytes_eq}
use Prim.Native.Char.{code}
use Rattle.fancy_lex.specs.ErrorTable.{unknown_verb}
use Rattle.fancy_lex.specs.LayoutSteps.{is_layout}
use Rattle.fancy_lex.specs.Reading.{choose}
use Rattle.fancy_lex.specs.Text.{Text, strip_word}
use Rattle.fancy_lex.specs.declared.flags.Flags.{Flags}
use Rattle.fancy_lex.proofs.TextLemmas.{strip_word_is}
use Rattle.fancy_lex.specs.GroupReference.{begins_target}
use Rattle.fancy_grammar.specs.AtomStart.{atom_start, condition, body, error_start}
use Rattle.fancy_grammar.specs.Grammar.{atom, a_condition, a_body, inside}
use Rattle.fancy_grammar.specs.Label as label
use Rattle.fancy_grammar.specs.GroupInfo.{GroupInfo}
use Rattle.fancy_grammar.specs.Pattern.{Context, past_groups, deeper, written, flags_after, condition_text, verb_text}
use Rattle.fancy_grammar.specs.Pattern.{separated_if}
use Rattle.fancy_grammar.specs.PatternReference.{name_of}
use Rattle.fancy_grammar.specs.State as states
use Rattle.fancy_grammar.specs.State.{State}
use Rattle.fancy_grammar.specs.Tree.{Tree, leaf}
use Rattle.fancy_grammar.specs.Verb.{verb_at}
use Rattle.fancy_grammar.specs.declared.kinds.BacktrackingControlVerb.{BacktrackingControlVerb}
use Rattle.fancy_grammar.specs.declared.kinds.BacktrackingControlVerb.TheVariants.{Fail, Accept, Commit, Skip, Prune}
use Rattle.fancy_grammar.specs.declared.precedence.Precedence.TheVariants.{Whole}
use Rattle.fancy_grammar.proofs.PatternDepth.{MayOpen, Fits, FitsAsCondition}
use Rattle.fancy_grammar.proofs.Writable.{AreNodesWritable}
use Rattle.fancy_pattern.proofs.PatternLaws.Becomes.{info_numbers}
use Rattle.fancy_pattern.proofs.PatternLaws.Cases.{ReadsTree}
use Rattle.fancy_pattern.proofs.PatternLaws.Characters.{itself}
use Rattle.fancy_pattern.proofs.PatternLaws.Commented.{commented_whole}
use Rattle.fancy_pattern.proofs.PatternLaws.Conditionals.{Before}
use Rattle.fancy_pattern.proofs.PatternLaws.Conditions.{ConditionAt, condition_at}
use Rattle.fancy_pattern.proofs.PatternLaws.Groups.{question_at}
use Rattle.fancy_pattern.proofs.PatternLaws.Leaves.{is_metacharacter, some_verb, reads_spelled, begins_spelled, fail_read}
use Rattle.fancy_pattern.proofs.PatternLaws.Leaves.{accept_read}
use Rattle.fancy_pattern.proofs.PatternLaws.Leaves.{commit_read, skip_read, prune_read}
use Rattle.fancy_pattern.proofs.PatternLaws.Rules.{Clear, Stops, ends_close, WholeAt, Rest, no_more, lead, reads_branch}
use Rattle.fancy_pattern.proofs.PatternLaws.Rules.{reads_only}
use Rattle.fancy_grammar.proofs.ReadBack.ClearLemmas.{no_quantifier_is}
use Rattle.fancy_grammar.proofs.ReadBack.RuleLemmas.{st}
use Rattle.fancy_grammar.proofs.Unique.{alternation_unique, state_of}

-- ---- letters

abbrev is_letter : ℕ → Bool
is_letter c = not (is_metacharacter c) && not (is_layout true c)

not_not : (b : Bool) → not b ≡ true → b ≡ false
not_not false h = refl
not_not true h = absurd (false≢true h)

module _ (μ : GroupInfo) where
  letters_clear : (x : Bool) (w v : Text) (f : Flags) → f.ignore_space ≡ x → list_all is_letter w ≡ true → Clear x v →
      Clear x (w ++ v)
  letters_clear x [] v f e h c = c
  letters_clear x (d ∷ w) v f e h c =
      let (a, b) = and_parts (is_letter d) (list_all is_letter w) h in
      let (m, k) = and_parts (not (is_metacharacter d)) (not (is_layout true d)) a in
      let layout : is_layout f.ignore_space d ≡ false = ap (λ y. f.ignore_space && y) (not_not _ k) ∙ and-false _ in
      subst (λ x. Clear x (d ∷ (w ++ v))) e
      (begins_spelled f f.casei d (d ∷ []) (w ++ v) (itself refl (not_not _ m) layout)).clear

  letters_rest : (h : Context) (w v : Text) → list_all is_letter w ≡ true →
      Stops h.flags.ignore_space v →
      Rest μ h (w ++ v) h.flags v (map (λ c. leaf (label.literal (c ∷ []) h.flags.casei)) w)
  letters_rest h [] v e s = no_more μ h v s
  letters_rest h (c ∷ w) v e s =
      let (a, b) = and_parts (is_letter c) (list_all is_letter w) e in
      let (m, k) = and_parts (not (is_metacharacter c)) (not (is_layout true c)) a in
      let layout : is_layout h.flags.ignore_space c ≡ false
      = ap (λ y. h.flags.ignore_space && y) (not_not _ k) ∙ and-false _ in
      let spelled = itself refl (not_not _ m) layout in
      lead μ h (c ∷ (w ++ v)) (w ++ v) v h.flags (leaf (label.literal (c ∷ []) h.flags.casei)) _
      (begins_spelled h.flags h.flags.casei c (c ∷ []) (w ++ v) spelled)
      (letters_clear h.flags.ignore_space w v h.flags refl b s.clear) refl
      (reads_spelled μ h h.flags.casei c (c ∷ []) (w ++ v) spelled) (letters_rest (past_groups 0 h) w v b s)

  -- an alternation that is no such word does not continue such a word
  no_word : (h : Context) (w t z : Text) (g : Flags) (x : Tree) →
      list_all is_letter w ≡ true → (t ≡ w → ⊥) → WholeAt μ h (t ++ code ")" ∷ z) g (code ")" ∷ z) x →
      strip_word (w ++ codes ")") (t ++ code ")" ∷ z) ≡ None
  no_word h w t z g x letters other a = by_option (strip_word (w ++ codes ")") (t ++ code ")" ∷ z)) refl
    where
      by_option : (q : Option Text) → strip_word (w ++ codes ")") (t ++ code ")" ∷ z) ≡ q →
          strip_word (w ++ codes ")") (t ++ code ")" ∷ z) ≡ None
      by_option None e = e
      by_option (Some r) e =
          let is : t ++ code ")" ∷ z ≡ w ++ code ")" ∷ r
          = strip_word_is (w ++ codes ")") (t ++ code ")" ∷ z) r e ∙ append_assoc w (codes ")") r in
          let s = ends_close h.flags.ignore_space r in
          let b = reads_only μ h (w ++ code ")" ∷ r) (code ")" ∷ r) h.flags _
          (reads_branch μ h (w ++ code ")" ∷ r) (code ")" ∷ r) h.flags _
          (letters_rest h w (code ")" ∷ r) letters s.stops))
          s.no_bar in
          let same : st h.flags (code ")" ∷ r) ≡ st g (code ")" ∷ z)
          = state_of (alternation_unique b.derives a.derives (ap (st h.flags) (sym is))) in
          absurd (other (append_cancel_right t w (code ")" ∷ z)
          (is ∙ ap (λ (y : State). w ++ y.rest) same)))

-- ---- the target of a condition

module _ (μ : GroupInfo) (i : Context) (d : MayOpen i) where
  on_group : (s : Text) (n : ℕ) (level : Option ℤ) → ConditionAt μ i s n level →
      Before μ i s i.flags (leaf (label.backref_exists n level))
  on_group s n level c = record {
    node = c.node;
    becomes = c.becomes;
    leads = λ z v r f y. atom (c.starts z) (a_body y);
  }

  verb_is : (t z : Text) (b : BacktrackingControlVerb) → verb_at (t ++ z) ≡ some_verb b z →
      atom_start i.depth (st i.flags (codes "(?(*" ++ (t ++ z))) ≡ body (leaf (label.verb b)) (st i.flags z)
  unfolding begins_target
  verb_is t z b e =
      question_at i.depth i.flags (codes "(*" ++ (t ++ z)) d
      ∙ ap (λ o. choose o (λ p. body (leaf (label.verb p.0)) (st i.flags p.1))
      (error_start (unknown_verb (code "*" ∷ (t ++ z))))) e

  on_verb : (b : BacktrackingControlVerb) → Before μ i (verb_text b) i.flags (leaf (label.verb b))
  on_verb b = record {
    node = λ z. leaf (label.verb b);
    becomes = λ z. record { is = λ n u e. refl; count = refl; groups = tt };
    leads = λ z v r f y. atom (starts b z) (a_body y);
  }
    where
      starts : (b : BacktrackingControlVerb) (z : Text) →
          atom_start i.depth (st i.flags (codes "(?(" ++ (verb_text b ++ code ")" ∷ z)))
          ≡ body (leaf (label.verb b)) (st i.flags z)
      starts Fail z = verb_is (codes "FAIL)") z Fail (fail_read z)
      starts Accept z = verb_is (codes "ACCEPT)") z Accept (accept_read z)
      starts Commit z = verb_is (codes "COMMIT)") z Commit (commit_read z)
      starts Skip z = verb_is (codes "SKIP)") z Skip (skip_read z)
      starts Prune z = verb_is (codes "PRUNE)") z Prune (prune_read z)

  -- what begins neither `DEFINE` nor a target nor a verb is an alternation
  alternation_starts : (c : ℕ) (t : Text) → strip_word (codes "DEFINE)") (c ∷ t) ≡ None → begins_target (c ∷ t) ≡ false →
      (c == code "*") ≡ false → atom_start i.depth (st i.flags (codes "(?(" ++ c ∷ t)) ≡ condition (st i.flags (c ∷ t))
  alternation_starts c t e b m = question_at i.depth i.flags (code "(" ∷ c ∷ t) d ∙ rw (e, b, m) refl

  nothing_starts : (z : Text) →
      atom_start i.depth (st i.flags (codes "(?()" ++ z)) ≡ condition (st i.flags (code ")" ∷ z))
  unfolding begins_target
  nothing_starts z = question_at i.depth i.flags (codes "()" ++ z) d

  comment_starts : (z : Text) →
      atom_start i.depth (st i.flags (codes "(?((?#)" ++ z)) ≡ condition (st i.flags (codes "(?#)" ++ z))
  unfolding begins_target
  comment_starts z = question_at i.depth i.flags (codes "((?#)" ++ z) d

  module _ (g : Flags) (x : Tree) where
    abbrev WholeBefore : Text → Type 0
    WholeBefore s = (z : Text) → WholeAt μ (deeper i) (s ++ code ")" ∷ z) g (code ")" ∷ z) x

    as_alternation : (s : Text) (w : WholeBefore s) → ((z : Text) →
        atom_start i.depth (st i.flags (codes "(?(" ++ (s ++ code ")" ∷ z))) ≡ condition
        (st i.flags (s ++ code ")" ∷ z))) →
        Before μ i s g x
    as_alternation s w starts = record {
      node = λ z. (w z).tree;
      becomes = λ z. (w z).becomes;
      leads = λ z v r f y. atom (starts z) (a_condition (inside (w z).derives) y);
    }

    target_first : (c : ℕ) (t : Text) → begins_target (c ∷ t) ≡ true →
        ((c == code "(") ≡ false) × (states.ends (c ∷ t) ≡ false)
    unfolding begins_target
    target_first c t h = (grind (arith, nat_tests), grind (arith, nat_tests))

    word_first : (t : Text) → bytes_eq t (codes "DEFINE") ≡ true → t ≡ codes "DEFINE"
    word_first t h = (bytes_decides t (codes "DEFINE")).0 h

    commented_first : (c : ℕ) (t : Text) → (begins_target (c ∷ t) || bytes_eq (c ∷ t) (codes "DEFINE")) ≡ true →
        (z : Text) → ((c == code "(") ≡ false) × (states.ends (c ∷ (t ++ z)) ≡ false)
    commented_first c t h z =
        ⊎_elim (λ b. target_first c t b)
        (λ b. let first : c ≡ code "D" = ap (λ l. first_of l) (word_first (c ∷ t) b) in
        subst (λ c. ((c == code "(") ≡ false) × (states.ends (c ∷ (t ++ z)) ≡ false)) (sym first) (refl, refl))
        (or_cases (begins_target (c ∷ t)) (bytes_eq (c ∷ t) (codes "DEFINE")) h)
      where
        first_of : Text → ℕ
        first_of [] = 0
        first_of (c ∷ t) = c

    same_target : (c : ℕ) (t u : Text) → begins_target (c ∷ t) ≡ begins_target (c ∷ u)
    unfolding begins_target
    same_target c t u = refl

    pub on_alternation : (s : Text) →
        ((z : Text) → Clear i.flags.ignore_space (s ++ code ")" ∷ z)) → WholeBefore s → (b : Bool) →
        (begins_target s || bytes_eq s (codes "DEFINE")) ≡ b → Before μ i (separated_if b s) g x
    unfolding begins_target
    on_alternation [] k w true e = absurd (false≢true e)
    on_alternation [] k w false e = as_alternation [] w nothing_starts
    on_alternation (c ∷ t) k w true e =
        as_alternation (codes "(?#)" ++ c ∷ t)
        (λ z. let (a, b) = commented_first c t e (code ")" ∷ z) in
        commented_whole μ (deeper i) c (t ++ code ")" ∷ z) (code ")" ∷ z) g x a b (k z) (w z))
        (λ z. comment_starts ((c ∷ t) ++ code ")" ∷ z))
    on_alternation (c ∷ t) k w false e =
        let (a, b) = or_parts (begins_target (c ∷ t)) (bytes_eq (c ∷ t) (codes "DEFINE")) e in
        as_alternation (c ∷ t) w
        (λ z. alternation_starts c (t ++ code ")" ∷ z)
        (no_word μ (deeper i) (codes "DEFINE") (c ∷ t) z g x refl
        (λ q. false≢true (sym b ∙ (bytes_decides (c ∷ t) (codes "DEFINE")).1 q)) (w z))
        (same_target c (t ++ code ")" ∷ z) t ∙ a) (no_quantifier_is c (k z).no_quantifier).star)

-- ---- a condition of any kind

module _ (μ : GroupInfo) (f : Flags) (numbered : (k : ℕ) → IfSome (name_of μ k) (λ e. e.1 ≡ info_numbers μ e.0)) where
  pub before_of : (c : Tree) (i : Context) → AreNodesWritable f μ i.opened c →
      ReadsTree μ c (deeper i) → MayOpen i → FitsAsCondition c (Fits c Whole (deeper i)) →
      Before μ i (condition_text μ c (written μ c Whole (deeper i))) (flags_after c Whole i.flags) c
  before_of (leaf (label.backref_exists n level)) i k r d fits =
      on_group μ i d _ n level (condition_at μ i n d level (numbered n) k.0 k.1)
  before_of (leaf (label.verb b)) i k r d fits = on_verb μ i d b
  before_of c i k r d fits =
      on_alternation μ i d (flags_after c Whole i.flags) c (written μ c Whole (deeper i))
      (λ z. r.whole_clear fits (code ")" ∷ z) (ends_close i.flags.ignore_space z).stops.clear)
      (λ z. r.whole fits (code ")" ∷ z) (ends_close i.flags.ignore_space z)) _ refl
