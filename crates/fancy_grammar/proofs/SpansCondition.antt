-- A condition that is no alternation comes after `(?(`, before its closing parenthesis.
use Rattle.std.proofs.Common.{◌≡◌, ℕ, ◌+◌, Bool, ◌==◌, nat_le, true, [], ◌∷◌, ◌++◌, Option, Some, None, IfSome}
use Rattle.std.proofs.Common.{option_map, refl, sym, ap, ◌∙◌, subst, arith, codes, append_assoc}
use Rattle.std.specs.Option.{option_and_then}
use Rattle.std.proofs.lemmas.Bool.{cond_both}
use Rattle.std.proofs.lemmas.Str.{len_utf8_ascii}
use Rattle.std.proofs.lemmas.Bool.Decides.{nat_tests}
use Prim.Native.Char.{code}
use Rattle.fancy_lex.proofs.ReadingLemmas.{choose_both}
use Rattle.fancy_lex.proofs.ReferenceLaws.{IsCut, cut_is, takes_delimited_name}
use Rattle.fancy_lex.proofs.TakeLaws.{TakesSome}
use Rattle.fancy_lex.proofs.TextLemmas.{strip_is, strip_word_is}
use Rattle.fancy_lex.specs.Characters.{◌∈◌}
use Rattle.fancy_lex.specs.Delimited.{name_before, delimited_name, of_name}
use Rattle.fancy_lex.specs.Id.{nonempty_front}
use Rattle.fancy_lex.specs.LayoutSteps.{Skipped, rest, rest_of, failed as open_comment, layout, past_layout}
use Rattle.fancy_lex.specs.Reading.{Reading, gives, fails, choose}
use Rattle.fancy_lex.specs.Referred.{Reference, name_reading, reference_by_name, written_reference}
use Rattle.fancy_lex.specs.Text.{Text, EndsWith, bytes, reach_of, cut_at, strip, strip_word}
use Rattle.fancy_lex.specs.FlagLetters.{Letters, inline_flags, flag_group as scoped}
use Rattle.fancy_lex.specs.GroupName.{group_name}
use Rattle.fancy_lex.specs.GroupReference.{begins_target, condition_name, condition_target, with_close_paren}
use Rattle.fancy_lex.specs.LetterSteps.{letters}
use Rattle.fancy_grammar.specs.AtomStart.{AtomStart, nothing, read, of_kind, condition, body, absent_branch}
use Rattle.fancy_grammar.specs.AtomStart.{atom_start, start_of, error_start, group_start, after_question, condition_start}
use Rattle.fancy_grammar.specs.AtomStart.{repeater_start, flags_start, named_start, target_start, begins_no_atom}
use Rattle.fancy_grammar.specs.Depth.{max_depth}
use Rattle.fancy_grammar.specs.Label as label
use Rattle.fancy_grammar.specs.Label.{Leaf}
use Rattle.fancy_grammar.specs.Slices.{Slice}
use Rattle.fancy_grammar.specs.Spans.{alone, condition_text, condition_span}
use Rattle.fancy_grammar.specs.State.{State, at, skipped, after_skipped}
use Rattle.fancy_grammar.specs.Tree.{leaf}
use Rattle.fancy_grammar.specs.Verb.{verb_at}
use Rattle.fancy_grammar.specs.declared.kinds.BacktrackingControlVerb.{BacktrackingControlVerb}
use Rattle.fancy_grammar.specs.declared.kinds.BacktrackingControlVerb.TheVariants.{Fail, Accept, Commit, Skip, Prune}
use Rattle.fancy_grammar.proofs.Slices.{on, layout_slice, SkippedSlice}
use Rattle.fancy_grammar.proofs.SpansLemmas.{Lies, leaf_at, reaches}

-- ---- a condition's text ends with its parenthesis

abbrev Closes : Text → Text → Type 0
Closes t u = EndsWith t (code ")" ∷ u)

abbrev ClosesSome : {A : Type 0} → Text → Option (A × Text) → Type 0
ClosesSome t o = IfSome o (λ p. Closes t p.1)

abbrev ClosesIfGiven : {A : Type 0} → Text → Reading A → Type 0
ClosesIfGiven t (gives a u) = Closes t u
ClosesIfGiven t (fails e) = Unit {0}

closes_name : (t : Text) → ClosesSome t (name_before (code ")") t)
unfolding name_before
closes_name t = by_cut (cut_at (code ")") t) (cut_is (code ")") t)
  where
    by_cut : (o : Option (Text × Text)) → IsCut (code ")") t o → ClosesSome t (option_and_then nonempty_front o)
    by_cut None e = tt
    by_cut (Some ([], v)) e = tt
    by_cut (Some (c ∷ w, v)) e = (c ∷ w, e)

closes_with : (t : Text) (o : Option (Text × Text)) → TakesSome 3 t o → ClosesSome t (with_close_paren o)
closes_with t None h = tt
closes_with t (Some (w, u)) h = by_strip (strip (code ")") u) refl
  where
    by_strip : (o : Option Text) → strip (code ")") u ≡ o → ClosesSome t (option_map (λ v. (w, v)) o)
    by_strip None e = tt
    by_strip (Some v) e = (h.word, h.cut ∙ ap (λ z. h.word ++ z) (strip_is (code ")") u v e))

closes_condition_name : (t : Text) → ClosesSome t (condition_name t)
unfolding condition_name
closes_condition_name [] = tt
closes_condition_name (c ∷ t) =
    cond_both (c ∈ "'<") _ _ (ClosesSome (c ∷ t))
    (λ _. closes_with (c ∷ t) (delimited_name (c ∷ t)) (takes_delimited_name (c ∷ t))) (λ _. closes_name (c ∷ t))

closes_target : (t : Text) → ClosesIfGiven t (condition_target t)
unfolding condition_target reference_by_name
closes_target t = by_name (condition_name t) (closes_condition_name t)
  where
    by_written : (u : Text) → Closes t u → (a : Option Reference) →
        ClosesIfGiven t (name_reading (reach_of t) (option_map (λ r. (r, u)) a))
    by_written u h None = tt
    by_written u h (Some r) = h

    by_name : (o : Option (Text × Text)) → ClosesSome t o →
        ClosesIfGiven t (name_reading (reach_of t) (of_name (written_reference (reach_of t) true) o))
    by_name None h = tt
    by_name (Some (w, u)) h = by_written u h (written_reference (reach_of t) true w)

closes_word : (t : Text) (v : BacktrackingControlVerb) (w : Text) (o : Option (BacktrackingControlVerb × Text)) →
    ClosesSome t o → ClosesSome t (choose (strip_word (w ++ code ")" ∷ []) t) (λ u. Some (v, u)) o)
closes_word t v w o h =
    let word = w ++ code ")" ∷ [] in
    choose_both (ClosesSome t) (strip_word word t) _ _
    (λ u e. (w, strip_word_is word t u e ∙ append_assoc w (code ")" ∷ []) u)) h

closes_verb : (t : Text) → ClosesSome t (verb_at t)
unfolding verb_at
closes_verb t =
    closes_word t Fail (codes "F") _
    (closes_word t Fail (codes "FAIL") _ (closes_word t Accept (codes "ACCEPT") _ (closes_word t Commit (codes "COMMIT") _
    (closes_word t Skip (codes "SKIP") _ (closes_word t Prune (codes "PRUNE") None tt)))))

-- ---- the start of an atom

-- a condition that is no alternation is a leaf, and o is its text, which ends with its parenthesis
abbrev pub HasConditionText : Option Text → AtomStart → Type 0
HasConditionText o (body c v) = (w : Text) × (o ≡ Some w) × ((l : Leaf) × (c ≡ leaf l)) × Closes w v.rest
HasConditionText o _ = Unit {0}

module _ (o : Option Text) where
  has_text_condition : (s : State) (w : Text) → o ≡ Some w → HasConditionText o (condition_start s w)
  has_text_condition s [] e = tt
  has_text_condition s (c ∷ t) e =
      cond_both (begins_target (c ∷ t)) _ _ (HasConditionText o)
      (λ _. by_target (condition_target (c ∷ t)) (closes_target (c ∷ t))) (λ _.
      cond_both (c == code "*") _ _ (HasConditionText o)
      (λ _. choose_both (HasConditionText o) (verb_at t) _ _ (λ p i. (c ∷ t, e, (label.verb p.0, refl), by_verb p i))
      tt) (λ _. tt))
    where
      by_target : (r : Reading Reference) → ClosesIfGiven (c ∷ t) r → HasConditionText o (target_start s r)
      by_target (gives r u) h = (c ∷ t, e, (_, refl), h)
      by_target (fails k) h = tt

      by_verb : (p : _) → verb_at t ≡ Some p → Closes (c ∷ t) p.1
      by_verb p i = let h = subst (ClosesSome t) i (closes_verb t) in (c ∷ h.0, ap (λ z. c ∷ z) h.1)

  has_text_named : (s : State) (r : Reading Text) → HasConditionText o (named_start s r)
  has_text_named s (gives w u) = tt
  has_text_named s (fails k) = tt

  has_text_flags : (r : Reading Letters) → HasConditionText o (flags_start r)
  has_text_flags (gives (inline_flags f) u) = tt
  has_text_flags (gives (scoped f) u) = tt
  has_text_flags (fails k) = tt

  has_text_repeater : (s : State) (t : Text) → HasConditionText o (repeater_start s t)
  has_text_repeater s [] = tt
  has_text_repeater s (c ∷ t) = tt

  has_text_question : (s : State) (t : Text) → ((w : Text) → strip_word (codes "(") t ≡ Some w → o ≡ Some w) →
      HasConditionText o (after_question s t)
  has_text_question s t f =
      let P = HasConditionText o in
      choose_both P (strip_word (codes "=") t) _ _ (λ u e. tt) (
      choose_both P (strip_word (codes "!") t) _ _ (λ u e. tt) (
      choose_both P (strip_word (codes "<=") t) _ _ (λ u e. tt) (
      choose_both P (strip_word (codes "<!") t) _ _ (λ u e. tt) (
      choose_both P (strip_word (codes "<") t) _ _ (λ u e. has_text_named s (group_name (code ">") t u)) (
      choose_both P (strip_word (codes "'") t) _ _ (λ u e. has_text_named s (group_name (code "'") t u)) (
      choose_both P (strip_word (codes "P<") t) _ _ (λ u e. has_text_named s (group_name (code ">") t u)) (
      choose_both P (strip_word (codes "P=") t) _ _ (λ u e. tt) (
      choose_both P (strip_word (codes "P>") t) _ _ (λ u e. tt) (
      choose_both P (strip_word (codes "~|") t) _ _ (λ u e. tt) (
      choose_both P (strip_word (codes "~") t) _ _ (λ u e. has_text_repeater s u) (
      choose_both P (strip_word (codes ">") t) _ _ (λ u e. tt) (
      choose_both P (strip_word (codes "(DEFINE)") t) _ _ (λ u e. tt) (
      choose_both P (strip_word (codes "(") t) _ _ (λ u e. has_text_condition s u (f u e))
      (has_text_flags (letters s.flags t)))))))))))))))

has_text_group : (s : State) (u : Text) → HasConditionText (strip_word (codes "?(") u) (group_start s u)
has_text_group s u =
    let P = HasConditionText (strip_word (codes "?(") u) in
    choose_both P (strip_word (codes "?") u) _ _ (λ t e. has_text_question _ s t (λ w i. both t w e i)) (
    choose_both P (strip_word (codes "*") u) _ _ (λ t e. choose_both P (verb_at t) _ _ (λ p i. tt) tt) tt)
  where
    both : (t w : Text) → strip_word (codes "?") u ≡ Some t → strip_word (codes "(") t ≡ Some w →
        strip_word (codes "?(") u ≡ Some w
    both t w e i = ap (strip_word (codes "?("))
        (strip_word_is (codes "?") u t e ∙ ap (λ z. code "?" ∷ z) (strip_word_is (codes "(") t w i))

-- ---- where it is

pub condition_there : (d : ℕ) (s : State) → HasConditionText (condition_text s) (atom_start d s)
unfolding atom_start
condition_there d s = by_text s.rest refl
  where
    P : AtomStart → Type 0
    P = HasConditionText (condition_text s)

    by_layout : (t : Text) → s.rest ≡ code "(" ∷ t → (k : Skipped) → layout s.flags.ignore_space t ≡ k →
        P (after_skipped k (group_start s) error_start)
    by_layout t e (rest u) l =
        let text : condition_text s ≡ strip_word (codes "?(") u =
        ap (λ z. option_and_then (strip_word (codes "?("))
        (option_and_then (λ v. rest_of (layout s.flags.ignore_space v)) (strip (code "(") z))) e
        ∙ ap (λ k. option_and_then (strip_word (codes "?(")) (rest_of k)) l in
        subst (λ o. HasConditionText o (group_start s u)) (sym text) (has_text_group s u)
    by_layout t e (open_comment p) l = tt

    by_text : (t : Text) → s.rest ≡ t → P (start_of d s t)
    by_text [] e = tt
    by_text (c ∷ t) e =
        cond_both (c == code "(") _ _ P (λ i.
        cond_both (nat_le max_depth (d + 1)) _ _ P (λ _. tt)
        (λ _. by_layout t (e ∙ ap (λ b. b ∷ t) (is_paren i)) (skipped (at s t)) refl)) (λ _.
        cond_both (begins_no_atom c) _ _ P (λ _. tt) (λ _. tt))
      where
        is_paren : (c == code "(") ≡ true → c ≡ code "("
        is_paren i = grind (arith, nat_tests)

pub condition_slice : (s : State) (w : Text) → condition_text s ≡ Some w → Slice s.rest w
condition_slice s w = by_paren (strip (code "(") s.rest) refl
  where
    by_layout : (t : Text) → Slice s.rest t → (k : Skipped) → SkippedSlice t k →
        option_and_then (strip_word (codes "?(")) (rest_of k) ≡ Some w → Slice s.rest w
    by_layout t a (rest u) b e = on (on a b) (record { word = codes "?("; cut = strip_word_is (codes "?(") u w e })
    by_layout t a (open_comment p) b e = cc

    by_paren : (o : Option Text) → strip (code "(") s.rest ≡ o → option_and_then (strip_word (codes "?("))
        (option_and_then (past_layout s.flags.ignore_space) o) ≡ Some w → Slice s.rest w
    by_paren None i e = cc
    by_paren (Some t) i e =
        by_layout t (record { word = code "(" ∷ []; cut = strip_is (code "(") s.rest t i })
        (layout s.flags.ignore_space t) (layout_slice s.flags.ignore_space t) e

module _ (named : Bool) where
  abbrev pub ConditionLies : State → AtomStart → Type 0
  ConditionLies s (body c t) = Lies named s.rest t.rest c (alone (condition_span s t))
  ConditionLies s _ = Unit {0}

  pub condition_lies : (d : ℕ) (s : State) → ConditionLies s (atom_start d s)
  unfolding bytes
  condition_lies d s = by_start (atom_start d s) (condition_there d s)
    where
      positioned : (w : Text) (v : State) → condition_text s ≡ Some w →
          reaches w (code ")" ∷ v.rest) ≡ condition_span s v
      positioned w v e =
          let start = ap (λ o. choose o reach_of (reach_of s.rest)) (sym e) in
          let end : reach_of (code ")" ∷ v.rest) ≡ reach_of v.rest + 1 =
          omega (arith, len_utf8_ascii (code ")") (omega arith)) in
          λ i. record { start = start i; end = end i }

      by_start : (k : AtomStart) → HasConditionText (condition_text s) k → ConditionLies s k
      by_start (body c v) (w, i, (l, j), h) =
          subst (λ p. Lies named s.rest v.rest c (alone p)) (positioned w v i)
          (subst (λ r. Lies named s.rest v.rest r (alone (reaches w (code ")" ∷ v.rest)))) (sym j)
          (leaf_at (condition_slice s w i) (record { word = h.0; cut = h.1 })
          (record { word = code ")" ∷ []; cut = refl })))
      by_start nothing h = tt
      by_start (read q) h = tt
      by_start (of_kind g v) h = tt
      by_start (condition v) h = tt
      by_start (absent_branch v) h = tt
