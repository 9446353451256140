-- What the tree of a text does not hold lies in the text, one part after another, with segments between them.
use Rattle.std.proofs.Common.{◌≡◌, ℕ, zero, suc, ◌+◌, ◌<◌, ◌==◌, nat_lt, Bool, true, false, if◌then◌else◌, List, [], ◌∷◌}
use Rattle.std.proofs.Common.{◌++◌, Option, Some, None, chars, codes, refl, sym, ap, ◌∙◌, subst, arith, append_assoc, append-nil}
use Rattle.std.proofs.Common.{◌&&◌, ◌||◌, not, length, ◌⊎◌, inl, inr}
use Rattle.std.specs.Option.{option_and_then}
use Rattle.std.specs.List.{AllByRecursion}
use Rattle.std.specs.Str.{IsUtf8}
use Rattle.std.proofs.lemmas.Bool.{cond_both, false≢true}
use Rattle.std.proofs.lemmas.Bool.Decides.{nat_tests}
use Prim.Native.Char.{code}
use Rattle.fancy_lex.proofs.CountLaws.{takes_counts}
use Rattle.fancy_lex.proofs.ReadingLemmas.{choose_both}
use Rattle.fancy_lex.proofs.TakeLaws.{TakesSome, takes_bytes}
use Rattle.fancy_lex.proofs.TextLemmas.{strip_is}
use Rattle.fancy_lex.specs.ErrorTable.{quantifier_too_deep, not_repeatable}
use Rattle.fancy_lex.specs.LayoutSteps.{Skipped, rest, rest_of, failed as open_comment}
use Rattle.fancy_lex.specs.Quantifier.{counts}
use Rattle.fancy_lex.specs.Reading.{choose}
use Rattle.fancy_lex.specs.Text.{Text, bytes, reach_of, strip}
use Rattle.fancy_lex.specs.declared.counts.Counts.{Counts}
use Rattle.fancy_lex.specs.declared.flags.Flags.{Flags}
use Rattle.fancy_grammar.specs.AtomStart.{AtomStart, atom_start, read, of_kind}
use Rattle.fancy_grammar.specs.Depth.{max_depth}
use Rattle.fancy_grammar.specs.Grammar.{Alternation, alternation, Branches, last, more, branch_error, Branch, branch}
use Rattle.fancy_grammar.specs.Grammar.{Pieces, stop, next, piece_error, Piece, piece, layout_error, Atom, atom, AtomOf}
use Rattle.fancy_grammar.specs.Grammar.{a_nothing, a_read, a_group, a_condition, condition_error, a_body, two_branches}
use Rattle.fancy_grammar.specs.Grammar.{one_branch, absent_error, Inside, inside, Body, the_body, Whole, whole, ended}
use Rattle.fancy_grammar.specs.Grammar.{closed, conditional_after, branches_of, is_condition, clear_or_stopper}
use Rattle.fancy_grammar.specs.GroupKind.{GroupKind, capture, flag_group, look, atomic, define, repeater, group_node}
use Rattle.fancy_grammar.specs.Items.{openings}
use Rattle.fancy_grammar.specs.Join.{is_empty, join, choice, one_or, solid}
use Rattle.fancy_grammar.specs.Segments.{HasEveryByte, OpensAt, a_bar, a_closing, a_condition as condition_piece, a_leaf}
use Rattle.fancy_grammar.specs.Segments.{a_separator, an_opening, counts_of_node, operators_of_node}
use Rattle.fancy_grammar.specs.Quantified.{quants, adjacent, max_adjacent, is_unmoved, quant, with_counts, is_swapped}
use Rattle.fancy_grammar.specs.Quantified.{suffix, after_lazy, may_be_possessive, is_repeatable, is_dropped}
use Rattle.fancy_grammar.specs.Quantified.{Suffix, quantified}
use Rattle.fancy_grammar.specs.Ranks.{only_named}
use Rattle.fancy_grammar.specs.Slices.{Slice}
use Rattle.fancy_grammar.specs.Spans.{IsCutOut, condition_span, condition_text, end_of, if_done}
use Rattle.fancy_grammar.specs.State.{State, at, skipped, after_skipped, Outcome, done, failed, and_then, mapped}
use Rattle.fancy_grammar.specs.Tree.{Tree, leaf, over, row, empty, concat, conditional, expression}
use Rattle.fancy_grammar.specs.Trivia.{Trivium, Passed, part, flags, opening, closing, IsTriviaOf, IsPartOf, AreInOrder}
use Rattle.fancy_grammar.specs.Trivia.{IsCounts, IsOperators, of_counts, of_operators, inner_at, inner_of_counts}
use Rattle.fancy_grammar.specs.Trivia.{comments_at, flags_of_atom, opening_of, closing_of, quant_trivia, adjacent_trivia}
use Rattle.fancy_grammar.specs.Trivia.{quants_trivia, alternation_trivia, branches_trivia, branch_trivia, pieces_trivia}
use Rattle.fancy_grammar.specs.Trivia.{piece_trivia, atom_trivia, atom_of_trivia, inside_trivia, body_trivia, whole_trivia}
use Rattle.fancy_grammar.specs.Trivia.{with_dropped, filled, layout_end, counted_trivia, leaves_condition}
use Rattle.fancy_grammar.proofs.AtomStartLaws.{IsLeaf, StartReads, start_reads}
use Rattle.fancy_grammar.proofs.OutcomeLemmas.{Holds, after_keeps, skipped_both}
use Rattle.fancy_grammar.proofs.Slices.{Reads, one}
use Rattle.fancy_grammar.proofs.SpansCondition.{HasConditionText, condition_slice, condition_there}
use Rattle.fancy_grammar.proofs.StartLaws.{HasStart, HasText, before_condition, condition_shorter, counts_inner, has_start, is_loud, start_inner}
use Rattle.fancy_grammar.proofs.TriviaLemmas.{AllowsMore, Gap, InToken, Passes, PassesFrom, a_gap, allowed, cut_slice, dropped_passes}
use Rattle.fancy_grammar.proofs.TriviaLemmas.{dropped_with, extended, filled_passes, followed, layout_passes, mapped_from}
use Rattle.fancy_grammar.proofs.TriviaLemmas.{no_comment, no_gap, nothing, nothing_dropped, on_from, one_with, parts_cut}
use Rattle.fancy_grammar.proofs.TriviaLemmas.{returned_are_parts, returned_fill, returned_in_order, separated, token_with}

-- ---- quantifiers

-- a word that is empty, or the operators of a quantifier
abbrev IsSuffix : Text → Type 0
IsSuffix w = (w ≡ []) ⊎ IsOperators w

-- what is read from the state is layout, and such a word
abbrev EndsPastLayout : State → Outcome Suffix → Type 0
EndsPastLayout s o =
    Holds (λ _ (v : State). (t : Text) × (skipped s ≡ rest t) × (k : Slice t v.rest) × IsSuffix k.word) o

-- the operators follow the layout
suffix_ends : (s : State) (c : Counts) → EndsPastLayout s (suffix s c)
suffix_ends s c =
    skipped_both W (skipped s) _ _ (λ t e.
    choose_both W (strip (code "?") t) _ _
    (λ u i. after_operator true t u e (codes "?") (strip_is (code "?") t u i) (inr (inl refl)) (inr (inr (inr refl))))
    (after_operator false t t e [] refl (inl refl) (inr (inr (inl refl))))) (λ p e. tt)
  where
    W : Outcome Suffix → Type 0
    W = EndsPastLayout s

    after_operator : (lazy : Bool) (t u : Text) → skipped s ≡ rest t → (w : Text) → t ≡ w ++ u → IsSuffix w →
        IsSuffix (w ++ codes "+") → W (after_lazy s c lazy u)
    after_operator lazy t u e w cut alone both =
        cond_both (may_be_possessive s.flags c) _ _ W
        (λ _. choose_both W (strip (code "+") u) _ _ (λ v i. (
          t,
          e,
          cut_slice (w ++ codes "+")
              (cut ∙ ap (λ z. w ++ z) (strip_is (code "+") u v i) ∙ sym (append_assoc w (codes "+") v)),
          both,
        ))
        (t, e, cut_slice w cut, alone)) (λ _. (t, e, cut_slice w cut, alone))

-- there may be any segments, or only separators
abbrev some : {A : Type 0} → A → Bool
some a = true

abbrev none : {A : Type 0} → A → Bool
none a = false

always : (b : Bool) → AllowsMore false b
always b h = refl

-- the operators of a quantifier that the tree holds: only comments before them are added
suffix_passes : (s : State) (c : Counts) (p : List Passed) → PassesFrom some s.rest p (p ++ comments_at s) (suffix s c)
suffix_passes s c p = by_outcome (suffix s c) (suffix_ends s c)
  where
    operators_gap : {t u : Text} (k : Slice t u) → IsSuffix k.word → Gap true t u
    operators_gap {u} k (inl e) =
        subst (λ z. Gap true z u) (sym (k.cut ∙ ap (λ w. w ++ u) e)) no_gap
    operators_gap k (inr h) = a_gap k.word refl k.cut (operators_of_node h)

    by_outcome : (o : Outcome Suffix) → EndsPastLayout s o → PassesFrom some s.rest p (p ++ comments_at s) o
    by_outcome (done m v) (t, e, h, i) =
        extended (allowed true (always true) (layout_passes s t e p)) (operators_gap h i)
    by_outcome (failed e) h = tt

-- the operators of a quantifier that is ignored: the comments before them are added, and they are dropped
ignored_passes : (s : State) (c : Counts) (p : List Passed) →
    (let q = p ++ comments_at s in
    PassesFrom none s.rest p (if_done (suffix s c) (λ m v. with_dropped (layout_end s) (reach_of v.rest) q) q) (suffix s c))
ignored_passes s c p = by_outcome (suffix s c) (suffix_ends s c)
  where
    q : List Passed
    q = p ++ comments_at s

    by_outcome : (o : Outcome Suffix) → EndsPastLayout s o →
        PassesFrom none s.rest p (if_done o (λ m v. with_dropped (layout_end s) (reach_of v.rest) q) q) o
    by_outcome (done m v) (t, e, h, i) =
        let ends : layout_end s ≡ reach_of t = ap (λ j. choose (rest_of j) reach_of (reach_of s.rest)) e in
        subst (λ n. Passes false s.rest v.rest p (with_dropped n (reach_of v.rest) q)) (sym ends)
        (by_operators (layout_passes s t e p) h i)
      where
        by_operators : {t : Text} → Passes false s.rest t p q → (h : Slice t v.rest) → IsSuffix h.word →
            Passes false s.rest v.rest p (with_dropped (reach_of t) (reach_of v.rest) q)
        by_operators x h (inl i) = nothing_dropped x h i
        by_operators x h (inr i) = dropped_passes x h (of_operators i)
    by_outcome (failed e) h = tt

-- what a quantifier passes after the tree a; if only separators may be there, nothing else may be in the text of a
abbrev QuantFrom : Tree → Text → List Passed → List Passed → Outcome Tree → Type 0
QuantFrom a t p m o = Holds (λ b (v : State). Passes (is_loud b) t v.rest p m × AllowsMore (is_loud a) (is_loud b)) o

quantified_loud : (f : Flags) (c : Counts) (m : Suffix) (a : Tree) → is_loud (quantified f c m a) ≡ true
quantified_loud f c m a =
    cond_both (is_swapped f c) _ _ (λ r. is_loud r ≡ true) (λ _. refl)
    (λ _. cond_both m.possessive _ _ (λ r. is_loud r ≡ true) (λ _. refl) (λ _. refl))

-- a quantifier, if one follows the layout
quant_passes : (left : ℕ) (a : Tree) (s : State) (p : List Passed) →
    QuantFrom a s.rest p (quant_trivia a s p) (quant left a s)
unfolding quant
quant_passes left a s p = by_layout (skipped s) refl
  where
    q : List Passed
    q = p ++ comments_at s

    -- the same tree, and only separators
    alone : (m : List Passed) (o : Outcome Suffix) → PassesFrom none s.rest p m o →
        QuantFrom a s.rest p m (mapped (λ x. a) o)
    alone m (done x v) h = (allowed (is_loud a) (always (is_loud a)) h, λ e. e)
    alone m (failed e) h = tt

    -- the tree under the quantifier
    under : (c : Counts) (m : List Passed) (o : Outcome Suffix) → PassesFrom some s.rest p m o →
        QuantFrom a s.rest p m (mapped (λ x. quantified s.flags c x a) o)
    under c m (done x v) h =
        let loud = quantified_loud s.flags c x a in
        (subst (λ b. Passes b s.rest v.rest p m) (sym loud) h, λ e. absurd (false≢true (sym e ∙ loud)))
    under c m (failed e) h = tt

    by_counts : (v : Text) (o : Option (Counts × Text)) → Passes false s.rest v p q → TakesSome 1 v o →
        counts s.flags.ignore_space v ≡ o →
        QuantFrom a s.rest p (choose o (counted_trivia v a s q) q) (with_counts left a (at s v) o)
    by_counts v None h i e = (allowed (is_loud a) (always (is_loud a)) h, λ e. e)
    by_counts v (Some (c, u)) h i e = by_repeatable (is_repeatable s.flags a)
      where
        o : Outcome Suffix
        o = suffix (at s u) c

        read : Slice v u
        read = record { word = i.word; cut = i.cut }

        less : bytes u < bytes v
        less = omega (arith, takes_bytes i)

        are_counts : IsCounts i.word u
        are_counts = (s.flags.ignore_space, c, ap (counts s.flags.ignore_space) (sym i.cut) ∙ e)

        -- the comments in the counts
        inner : List Passed
        inner = inner_of_counts c v u

        in_counts : InToken v u inner
        in_counts = counts_inner c v u read

        -- if the tree holds the quantifier
        m : List Passed
        m = (q ++ inner) ++ comments_at (at s u)

        held : Passes true s.rest u p (q ++ inner)
        held = token_with i.word refl (allowed true (always true) h) i.cut (counts_of_node are_counts) in_counts no_gap refl

        -- if it is ignored: up to the end of the counts
        before : List Passed
        before = with_dropped (reach_of v) (reach_of u) q ++ inner

        dropped_counts : Passes false s.rest u p before
        dropped_counts = dropped_with h read (of_counts are_counts) less in_counts

        -- and up to the end of the operators
        ignored : List Passed
        ignored =
            let k = before ++ comments_at (at s u) in
            if_done o (λ _ w. with_dropped (layout_end (at s u)) (reach_of w.rest) k) k

        by_repeatable : (b : Bool) →
            QuantFrom a s.rest p (if b then m else ignored)
            (if b then mapped (λ x. quantified s.flags c x a) o
            else if is_dropped s.flags left a u then mapped (λ x. a) o else failed (not_repeatable u))
        by_repeatable true =
            under c m o (on_from some m held (λ x e. e) o (suffix_passes (at s u) c (q ++ inner)))
        by_repeatable false =
            cond_both (is_dropped s.flags left a u) _ _ (QuantFrom a s.rest p ignored)
            (λ _. alone ignored o (on_from none ignored dropped_counts (λ x e. e) o (ignored_passes (at s u) c before)))
            (λ _. tt)

    by_layout : (j : Skipped) → skipped s ≡ j →
        QuantFrom a s.rest p (choose (option_and_then (counts s.flags.ignore_space) (rest_of j))
        (counted_trivia (choose (rest_of j) (λ t. t) s.rest) a s q) q)
        (after_skipped j (λ v. with_counts left a (at s v) (counts s.flags.ignore_space v)) failed)
    by_layout (rest v) e =
        by_counts v (counts s.flags.ignore_space v) (layout_passes s v e p) (takes_counts s.flags.ignore_space v) refl
    by_layout (open_comment r) e = tt

-- more quantifiers after those of b
then_quants : (a b : Tree) {t u : Text} {p q : List Passed} (m : List Passed) (o : Outcome Tree) →
    Passes (is_loud b) t u p q → AllowsMore (is_loud a) (is_loud b) → QuantFrom b u q m o → QuantFrom a t p m o
then_quants a b m (done c v) h g (i, j) = (followed (allowed (is_loud c) j h) i, λ e. g (j e))
then_quants a b m (failed e) h g i = tt

adjacent_passes : (k d : ℕ) (a : Tree) (s : State) (p : List Passed) →
    QuantFrom a s.rest p (adjacent_trivia k a s p) (adjacent k d a s)
unfolding adjacent
adjacent_passes zero d a s p = by_first (quant (bytes s.rest) a s) (quant_passes (bytes s.rest) a s p)
  where
    by_first : (o : Outcome Tree) → QuantFrom a s.rest p (quant_trivia a s p) o →
        QuantFrom a s.rest p (quant_trivia a s p)
        (and_then o (λ b t. if is_unmoved s t then done b t else failed (quantifier_too_deep t.rest)))
    by_first (done b v) h = cond_both (is_unmoved s v) _ _ (QuantFrom a s.rest p (quant_trivia a s p)) (λ _. h) (λ _. tt)
    by_first (failed e) h = tt
adjacent_passes (suc k) d a s p =
    by_first (λ b v. adjacent_passes k (d + 1) b v (quant_trivia a s p)) (quant (bytes s.rest) a s)
    (quant_passes (bytes s.rest) a s p)
  where
    q : List Passed
    q = quant_trivia a s p

    GoesOn : Tree → State → Type 0
    GoesOn b v = QuantFrom b v.rest q (adjacent_trivia k b v q) (adjacent k (d + 1) b v)

    by_tests : (c e : Bool) (b : Tree) (v : State) → Passes (is_loud b) s.rest v.rest p q →
        AllowsMore (is_loud a) (is_loud b) → GoesOn b v →
        QuantFrom a s.rest p (if c then q else adjacent_trivia k b v q)
        (if c then done b v else if e then adjacent k (d + 1) b v else failed (quantifier_too_deep v.rest))
    by_tests true e b v h g i = (h, g)
    by_tests false true b v h g i = then_quants a b (adjacent_trivia k b v q) (adjacent k (d + 1) b v) h g i
    by_tests false false b v h g i = tt

    by_first : ((b : Tree) (v : State) → GoesOn b v) → (o : Outcome Tree) → QuantFrom a s.rest p q o →
        QuantFrom a s.rest p (if_done o (λ b v. if is_unmoved s v then q else adjacent_trivia k b v q) q)
        (and_then o (λ b v. if is_unmoved s v then done b v
        else if nat_lt (d + 1) max_depth then adjacent k (d + 1) b v else failed (quantifier_too_deep v.rest)))
    by_first go_on (done b v) (h, g) = by_tests (is_unmoved s v) (nat_lt (d + 1) max_depth) b v h g (go_on b v)
    by_first go_on (failed e) h = tt

quants_passes : (d left : ℕ) (a : Tree) (s : State) (p : List Passed) →
    QuantFrom a s.rest p (quants_trivia left (done a s) p) (quants d left a s)
quants_passes d left a s p = by_first (quant left a s) (quant_passes left a s p)
  where
    q : List Passed
    q = quant_trivia a s p

    by_mode : (c : Bool) (b : Tree) (v : State) → Passes (is_loud b) s.rest v.rest p q →
        AllowsMore (is_loud a) (is_loud b) →
        QuantFrom a s.rest p (if c then adjacent_trivia max_adjacent b v q else q)
        (if c then adjacent max_adjacent d b v else done b v)
    by_mode true b v h g =
        then_quants a b (adjacent_trivia max_adjacent b v q) (adjacent max_adjacent d b v) h g
        (adjacent_passes max_adjacent d b v q)
    by_mode false b v h g = (h, g)

    by_first : (o : Outcome Tree) → QuantFrom a s.rest p q o →
        QuantFrom a s.rest p
        (if_done o (λ b v. if v.flags.oniguruma_mode then adjacent_trivia max_adjacent b v q else q) q)
        (and_then o (λ b v. if v.flags.oniguruma_mode then adjacent max_adjacent d b v else done b v))
    by_first (done b v) (h, g) = by_mode v.flags.oniguruma_mode b v h g
    by_first (failed e) h = tt

-- ---- several trees

-- whether one of them leaves other text than separators
abbrev any_loud : List Tree → Bool
any_loud [] = false
any_loud (r ∷ rs) = is_loud r || any_loud rs

either_quiet : (x y : Bool) → (x || y) ≡ false → (x ≡ false) × (y ≡ false)
either_quiet true y e = absurd (false≢true (sym e))
either_quiet false y e = (refl, e)

both_quiet : (x y : Bool) → x ≡ false → y ≡ false → (x || y) ≡ false
both_quiet true y e h = absurd (false≢true (sym e))
both_quiet false y e h = h

empty_quiet : (r : Tree) → is_empty r ≡ true → is_loud r ≡ false
empty_quiet empty e = refl
empty_quiet (leaf l) e = absurd (false≢true e)
empty_quiet (over w r) e = absurd (false≢true e)
empty_quiet (row k rs) e = absurd (false≢true e)

none_quiet : (rs : List Tree) → solid rs ≡ [] → any_loud rs ≡ false
none_quiet [] e = refl
none_quiet (r ∷ rs) e = by_test (is_empty r) refl e (λ h. none_quiet rs h)
  where
    by_test : (b : Bool) → is_empty r ≡ b → (if b then solid rs else r ∷ solid rs) ≡ [] →
        (solid rs ≡ [] → any_loud rs ≡ false) → (is_loud r || any_loud rs) ≡ false
    by_test true i e others = both_quiet (is_loud r) (any_loud rs) (empty_quiet r i) (others e)
    by_test false i e others = absurd cc

one_quiet : (rs : List Tree) (x : Tree) → solid rs ≡ x ∷ [] → is_loud x ≡ false → any_loud rs ≡ false
one_quiet [] x e h = absurd cc
one_quiet (r ∷ rs) x e h = by_test (is_empty r) refl e (λ k. one_quiet rs x k h)
  where
    by_test : (b : Bool) → is_empty r ≡ b → (if b then solid rs else r ∷ solid rs) ≡ x ∷ [] →
        (solid rs ≡ x ∷ [] → any_loud rs ≡ false) → (is_loud r || any_loud rs) ≡ false
    by_test true i e others = both_quiet (is_loud r) (any_loud rs) (empty_quiet r i) (others e)
    by_test false i e others =
        let same : r ≡ x = cc in
        let none : solid rs ≡ [] = cc in
        both_quiet (is_loud r) (any_loud rs) (ap is_loud same ∙ h) (none_quiet rs none)

-- a branch of these pieces
joined : (rs : List Tree) → AllowsMore (any_loud rs) (is_loud (join rs))
joined rs = by_solid (solid rs) refl
  where
    by_solid : (l : List Tree) → solid rs ≡ l → AllowsMore (any_loud rs) (is_loud (one_or concat l))
    by_solid [] e h = none_quiet rs e
    by_solid (x ∷ []) e h = one_quiet rs x e h
    by_solid (x ∷ y ∷ l) e h = absurd (false≢true (sym h))

both_empty : (x y : Bool) → not (x && y) ≡ false → (x ≡ true) × (y ≡ true)
both_empty true true e = (refl, refl)
both_empty true false e = absurd (false≢true (sym e))
both_empty false y e = absurd (false≢true (sym e))

-- a choice among these branches
chosen : (rs : List Tree) → AllowsMore (any_loud rs) (is_loud (choice rs))
chosen [] h = refl
chosen (x ∷ []) h = both_quiet (is_loud x) false h refl
chosen (x ∷ y ∷ []) h =
    let e = both_empty (is_empty x) (is_empty y) h in
    both_quiet (is_loud x) (is_loud y || false) (empty_quiet x e.0)
    (both_quiet (is_loud y) false (empty_quiet y e.1) refl)
chosen (x ∷ y ∷ z ∷ l) h = absurd (false≢true (both_empty (is_empty x) false h).1)

-- ---- groups

module _ (d : ℕ) (s t : State) (k : Slice s.rest t.rest) (p : List Passed) where
  in_start : InToken s.rest t.rest (inner_at s (reach_of t.rest))
  in_start = start_inner s t.rest k

  abbrev l : List Passed
  l = inner_at s (reach_of t.rest)

  -- the opening of an atom that has a node
  opened : OpensAt s (atom_start d s) t.rest → Passes true s.rest t.rest p (p ++ inner_at s (reach_of t.rest))
  opened e = token_with k.word refl (nothing no_gap) k.cut (an_opening d s e k.cut) in_start no_gap refl

  -- a group whose contents are r
  opening_passes : (h : GroupKind) (r : Tree) → atom_start d s ≡ of_kind h t → HasStart s (of_kind h t) →
      Passes (is_loud (group_node h (reach_of s.rest) r)) s.rest t.rest p
      ((p ++ opening_of h s t) ++ inner_at s (reach_of t.rest))
  opening_passes h r e i = by_kind h i
    where
      opens : OpensAt s (atom_start d s) t.rest
      opens = subst (λ x. OpensAt s x t.rest) (sym e) refl

      -- a part of the list
      listed : (b unnamed : Bool) → HasText (opening s.flags t.flags) s t → Passes b s.rest t.rest p
          ((p ++ part (reach_of s.rest) (reach_of t.rest) (opening s.flags t.flags) unnamed ∷ []) ++ l)
      listed b unnamed i =
          one_with (opening s.flags t.flags) unnamed k.word (nothing no_gap) k.cut refl (i k.word k.cut)
          (λ n. an_opening d s opens k.cut) in_start no_gap (append_assoc p _ l)

      alone : Passes true s.rest t.rest p ((p ++ []) ++ l)
      alone = subst (λ z. Passes true s.rest t.rest p (z ++ l)) (sym (append-nil p)) (opened opens)

      by_kind : (h : GroupKind) → HasStart s (of_kind h t) →
          Passes (is_loud (group_node h (reach_of s.rest) r)) s.rest t.rest p ((p ++ opening_of h s t) ++ l)
      by_kind flag_group i = listed (is_loud r) false i
      by_kind (capture None) i = listed true true i
      by_kind (capture (Some name)) i = alone
      by_kind (look x) i = alone
      by_kind atomic i = alone
      by_kind define i = alone
      by_kind repeater i = alone

-- up to the closing parenthesis
abbrev PassesInside : Text → List Passed → List Passed → Outcome Tree → Type 0
PassesInside t p m o = Holds (λ r (v : State). Passes (is_loud r) t (code ")" ∷ v.rest) p m) o

closed_passes : {t : Text} {p m : List Passed} (r : Tree) (s : State) → Passes (is_loud r) t s.rest p m →
    PassesInside t p m (closed r s)
closed_passes {t} {p} {m} r s h =
    choose_both (PassesInside t p m) (strip (code ")") s.rest) _ _
    (λ u e. subst (λ v. Passes (is_loud r) t v p m) (strip_is (code ")") s.rest u e) h) tt

paren_bytes : (t : Text) → bytes (code ")" ∷ t) ≡ bytes t + 1
unfolding bytes
paren_bytes t = omega arith

-- the parenthesis
paren_gap : (b : Bool) (v : Text) → Gap b (code ")" ∷ v) v
paren_gap b v = separated b (code ")" ∷ []) refl (a_closing refl)

module _ (t : Text) (p m : List Passed) where
  no_closing : (b : Bool) (v : State) → Passes b t (code ")" ∷ v.rest) p m → Passes b t v.rest p (m ++ [])
  no_closing b v i = subst (Passes b t v.rest p) (sym (append-nil m)) (extended i (paren_gap b v.rest))

  one_closing : (b : Bool) (v : State) (n : Bool) → Passes b t (code ")" ∷ v.rest) p m →
      Passes b t v.rest p (m ++ part (reach_of v.rest + 1) (reach_of v.rest) closing n ∷ [])
  one_closing b v n i =
      one_with closing n (code ")" ∷ []) i refl refl refl (λ e. a_separator (a_closing refl))
      (no_comment (one (code ")") v.rest)) no_gap
      (ap (λ k. m ++ part k (reach_of v.rest) closing n ∷ []) (ap (λ k. k + 1) (sym (paren_bytes v.rest))))

  past_paren : (o : Outcome Tree) → PassesInside t p m o → PassesFrom is_loud t p m o
  past_paren (done r v) h = extended h (paren_gap (is_loud r) v.rest)
  past_paren (failed e) h = tt

  closing_passes : (h : GroupKind) (reach : ℕ) (r : Tree) (v : State) →
      Passes (is_loud (group_node h reach r)) t (code ")" ∷ v.rest) p m →
      Passes (is_loud (group_node h reach r)) t v.rest p (m ++ closing_of h (reach_of v.rest))
  closing_passes flag_group reach r v i = one_closing (is_loud r) v false i
  closing_passes (capture None) reach r v i = one_closing true v true i
  closing_passes (capture (Some name)) reach r v i = no_closing true v i
  closing_passes (look l) reach r v i = no_closing true v i
  closing_passes atomic reach r v i = no_closing true v i
  closing_passes define reach r v i = no_closing true v i
  closing_passes repeater reach r v i = no_closing true v i

-- the node of a group holds what its contents hold
group_allows : (h : GroupKind) (reach : ℕ) (r : Tree) → AllowsMore (is_loud r) (is_loud (group_node h reach r))
group_allows flag_group reach r e = e
group_allows (capture name) reach r e = absurd (false≢true (sym e))
group_allows (look l) reach r e = absurd (false≢true (sym e))
group_allows atomic reach r e = absurd (false≢true (sym e))
group_allows define reach r e = absurd (false≢true (sym e))
group_allows repeater reach r e = absurd (false≢true (sym e))

-- ---- the productions

-- an atom that is read at once: a leaf, or inline flags
read_passes : (d : ℕ) (s : State) (o : Outcome Tree) (p : List Passed) → atom_start d s ≡ read o → Reads (IsLeaf s) s o →
    HasStart s (read o) → PassesFrom is_loud s.rest p ((p ++ flags_of_atom s o) ++ inner_at s (end_of o)) o
read_passes d s (failed e) p y h i = tt
read_passes d s (done r t) p y h i = by_test (is_empty r) refl
  where
    k : Slice s.rest t.rest
    k = h.span.slice

    l : List Passed
    l = inner_at s (reach_of t.rest)

    by_test : (b : Bool) → is_empty r ≡ b → Passes (is_loud r) s.rest t.rest p
        ((p ++ (if b then part (reach_of s.rest) (reach_of t.rest) (flags s.flags t.flags) false ∷ [] else [])) ++ l)
    by_test true e =
        one_with (flags s.flags t.flags) false k.word (nothing no_gap) k.cut refl (i.0 e k.word k.cut)
        (λ n. absurd (false≢true n)) (start_inner s t.rest k) no_gap (append_assoc p _ l)
    by_test false e =
        token_with k.word (i.1 e) (nothing no_gap) k.cut (a_leaf d s t r y e k.cut refl) (start_inner s t.rest k) no_gap
        (ap (λ z. z ++ l) (append-nil p))

-- the body of a conditional: what it leaves is the condition, or a node
abbrev LeavesBody : Bool → Tree → Outcome Tree → Type 0
LeavesBody b c o = Holds (λ r v. (b ≡ true → r ≡ c) × (b ≡ false → is_loud r ≡ true)) o

body_leaves : {d : ℕ} {c : Tree} {s : State} {o : Outcome Tree} (b : Body d c s o) → LeavesBody (leaves_condition b) c o
body_leaves {c} {s} (the_body {q} a) = by_outcome q
  where
    by_empty : (x y : Bool) (t f : Tree) →
        (let r = if x && y then c else conditional c t f in
        ((x && y) ≡ true → r ≡ c) × ((x && y) ≡ false → is_loud r ≡ true))
    by_empty true true t f = (λ i. refl, λ i. absurd (false≢true (sym i)))
    by_empty true false t f = (λ i. absurd (false≢true i), λ i. refl)
    by_empty false y t f = (λ i. absurd (false≢true i), λ i. refl)

    by_outcome : (q : Outcome Tree) →
        LeavesBody (if_done q (λ r v. is_empty (branches_of r).0 && is_empty (branches_of r).1) false) c
        (and_then q (conditional_after c (bytes s.rest)))
    by_outcome (failed e) = tt
    by_outcome (done r v) =
        let x = is_empty (branches_of r).0 in
        let y = is_empty (branches_of r).1 in
        let W = LeavesBody (x && y) c in
        cond_both (bytes v.rest == bytes s.rest && not (is_condition c)) _ _ W (λ _. tt)
        (λ _. choose_both W (strip (code ")") v.rest) _ _
        (λ u e. by_empty x y (branches_of r).0 (branches_of r).1) tt)

-- the parts of a body whose condition alone is left, with all that is around them
filled_body : {t z : Text} {p q : List Passed} (c : Tree) (l : List Passed) (o : Outcome Tree) →
    Passes (is_loud c) t (code ")" ∷ z) p q → LeavesBody true c o → PassesFrom none z [] l o →
    PassesFrom is_loud t p (filled (reach_of z + 1) (end_of o) l q) o
filled_body {t} {z} {p} {q} c l (done r v) h i g =
    let all = filled_passes h (followed (nothing (paren_gap false z)) g) in
    subst (λ n. Passes (is_loud r) t v.rest p (filled n (reach_of v.rest) l q)) (ap (λ n. n + 1) (paren_bytes z))
    (subst (λ x. Passes (is_loud x) t v.rest p (filled (reach_of (code ")" ∷ z)) (reach_of v.rest) l q)) (sym (i.0 refl))
    all)
filled_body c l (failed e) h i g = tt

-- a body that leaves a node
held_body : {t z : Text} {p q : List Passed} (c : Tree) (m : List Passed) (o : Outcome Tree) → Passes true t z p q →
    LeavesBody false c o → PassesFrom some z q m o → PassesFrom is_loud t p m o
held_body {t} {p} c m (done r v) h i g =
    subst (λ b. Passes b t v.rest p m) (sym (i.1 refl)) (followed h g)
held_body c m (failed e) h i g = tt

-- the body, after the condition c that is read from t on: alone, up to its parenthesis, or in a node, past it
after_condition : {t z : Text} {p m n : List Passed} (x : Bool) (c : Tree) (o : Outcome Tree)
    (f : List Passed → List Passed) → Passes (is_loud c) t (code ")" ∷ z) p m → Passes true t z p n → LeavesBody x c o →
    ((p : List Passed) → PassesFrom (λ r. not x) z p (f p) o) →
    PassesFrom is_loud t p (if x then filled (reach_of z + 1) (end_of o) (f []) m else f n) o
after_condition true c o f first held l g = filled_body c (f []) o first l (g [])
after_condition {n} false c o f first held l g = held_body c (f n) o held l (g n)

stopper_loud : (a : Tree) → is_loud (clear_or_stopper a) ≡ true
stopper_loud a = cond_both (is_empty a) _ _ (λ r. is_loud r ≡ true) (λ _. refl) (λ _. refl)

-- whatever was read
to_true : (b : Bool) → AllowsMore b true
to_true b e = absurd (false≢true (sym e))

-- the second branch of an absent expression, and the parenthesis
second_passes : {u : Text} {p' : List Passed} (t : Text) (p m : List Passed) (a : Tree) → Passes true t u p p' →
    (q : Outcome Tree) → PassesFrom is_loud u p' m q → PassesFrom is_loud t p m (and_then q (λ r. closed (expression a r)))
second_passes t p m a first (done r w) g =
    past_paren t p m (closed (expression a r) w)
    (closed_passes (expression a r) w (followed first (allowed true (to_true (is_loud r)) g)))
second_passes t p m a first (failed e) g = tt

-- more trees after the first
then_branches : {u : Text} {p' : List Passed} (t : Text) (p m : List Passed) (r : Tree) (q : Outcome (List Tree)) →
    Passes (is_loud r) t u p p' → PassesFrom any_loud u p' m q → PassesFrom any_loud t p m (mapped (r ∷◌) q)
then_branches t p m r (done rs v) h g =
    let both = either_quiet (is_loud r) (any_loud rs) in
    followed (allowed (is_loud r || any_loud rs) (λ e. (both e).0) h)
    (allowed (is_loud r || any_loud rs) (λ e. (both e).1) g)
then_branches t p m r (failed e) h g = tt

mutual
  alternation_passes : {d : ℕ} {s : State} {o : Outcome Tree} (a : Alternation d s o) (p : List Passed) →
      PassesFrom is_loud s.rest p (alternation_trivia a p) o
  alternation_passes {s} (alternation {q} b) p =
      mapped_from s.rest p (branches_trivia b p) is_loud any_loud choice q chosen (branches_passes b p)

  branches_passes : {d : ℕ} {s : State} {o : Outcome (List Tree)} (a : Branches d s o) (p : List Passed) →
      PassesFrom any_loud s.rest p (branches_trivia a p) o
  branches_passes (last {r} b e) p =
      allowed (is_loud r || false) (λ h. (either_quiet (is_loud r) false h).0) (branch_passes b p)
  branches_passes {s} (more {t} {u} {r} {q} b e m) p =
      let others = branches_trivia m (branch_trivia b p) in
      let bar = separated (is_loud r) (code "|" ∷ []) (strip_is (code "|") t.rest u e) (a_bar refl) in
      then_branches s.rest p others r q (extended (branch_passes b p) bar) (branches_passes m (branch_trivia b p))
  branches_passes (branch_error b) p = tt

  branch_passes : {d : ℕ} {s : State} {o : Outcome Tree} (a : Branch d s o) (p : List Passed) →
      PassesFrom is_loud s.rest p (branch_trivia a p) o
  branch_passes {s} (branch {q} b) p =
      mapped_from s.rest p (pieces_trivia b p) is_loud any_loud join q joined (pieces_passes b p)

  pieces_passes : {d : ℕ} {s : State} {o : Outcome (List Tree)} (a : Pieces d s o) (p : List Passed) →
      PassesFrom any_loud s.rest p (pieces_trivia a p) o
  pieces_passes {s} (stop e) p = nothing no_gap
  pieces_passes {s} (next {r} {q} e a m) p =
      then_branches s.rest p (pieces_trivia m (piece_trivia a p)) r q (piece_passes a p)
      (pieces_passes m (piece_trivia a p))
  pieces_passes (piece_error e a) p = tt

  piece_passes : {d : ℕ} {s : State} {o : Outcome Tree} (a : Piece d s o) (p : List Passed) →
      PassesFrom is_loud s.rest p (piece_trivia a p) o
  piece_passes {d} {s} (piece {u} {q} l a) p =
      by_atom q (on_from is_loud m (layout_passes s u l p) (λ r. always (is_loud r)) q (atom_passes a (p ++ comments_at s)))
    where
      m : List Passed
      m = atom_trivia a (p ++ comments_at s)

      by_quants : (r : Tree) (v : State) (k : List Passed) (o : Outcome Tree) → Passes (is_loud r) s.rest v.rest p m →
          QuantFrom r v.rest m k o → PassesFrom is_loud s.rest p k o
      by_quants r v k (done b w) h (i, g) = followed (allowed (is_loud b) g h) i
      by_quants r v k (failed e) h i = tt

      by_atom : (q : Outcome Tree) → PassesFrom is_loud s.rest p m q →
          PassesFrom is_loud s.rest p (quants_trivia (bytes s.rest) q m) (and_then q (quants d (bytes s.rest)))
      by_atom (done r v) h =
          by_quants r v (quants_trivia (bytes s.rest) (done r v) m) (quants d (bytes s.rest) r v) h
          (quants_passes d (bytes s.rest) r v m)
      by_atom (failed e) h = tt
  piece_passes (layout_error l) p = tt

  atom_passes : {d : ℕ} {s : State} {o : Outcome Tree} (a : Atom d s o) (p : List Passed) →
      PassesFrom is_loud s.rest p (atom_trivia a p) o
  atom_passes {d} {s} (atom {k} {q} e a) p =
      let read_start = subst (StartReads s) e (start_reads d s) in
      let has = subst (HasStart s) e (has_start d s) in
      let there = subst (HasConditionText (condition_text s)) e (condition_there d s) in
      after_keeps (PassesFrom is_loud s.rest p (atom_of_trivia a p)) (λ r t f i. i) k s.flags q
      (of_passes a p e read_start has there)

  of_passes : {k : AtomStart} {d : ℕ} {s : State} {o : Outcome Tree} (a : AtomOf k d s o) (p : List Passed) →
      atom_start d s ≡ k → StartReads s k → HasStart s k → HasConditionText (condition_text s) k →
      PassesFrom is_loud s.rest p (atom_of_trivia a p) o
  of_passes a_nothing p e h z x = nothing no_gap
  of_passes {d} {s} {o} a_read p e h z x = read_passes d s o p e h z
  of_passes {d} {s} (a_group {t} {h = kind} {q} i) p e h z x =
      by_contents q (inside_passes i before)
    where
      before : List Passed
      before = (p ++ opening_of kind s t) ++ inner_at s (reach_of t.rest)

      m : List Passed
      m = inside_trivia i before

      by_contents : (q : Outcome Tree) → PassesInside t.rest before m q →
          (let o = mapped (group_node kind (reach_of s.rest)) q in
          PassesFrom is_loud s.rest p (m ++ closing_of kind (end_of o)) o)
      by_contents (done r v) g =
          closing_passes s.rest p m kind (reach_of s.rest) r v
          (followed (opening_passes d s t h.0 p kind r e z)
          (allowed (is_loud (group_node kind (reach_of s.rest) r)) (group_allows kind (reach_of s.rest) r) g))
      by_contents (failed e) g = tt
  of_passes {d} {s} {o} (a_condition {t} {v} {c} i b) p e h z x =
      let inner = inner_at s (reach_of t.rest) in
      let k = p ++ inner in
      let q = with_dropped (reach_of s.rest) (reach_of t.rest) p ++ inner in
      let opens = subst (λ x. OpensAt s x t.rest) (sym e) refl in
      let dropped_opening =
      dropped_with (nothing no_gap) h.0 (z h.0.word h.0.cut) (omega (arith, h.1)) (start_inner s t.rest h.0) in
      after_condition (leaves_condition b) c o (body_trivia b) (followed dropped_opening (inside_passes i q))
      (extended (followed (opened d s t h.0 p opens) (allowed true (to_true (is_loud c)) (inside_passes i k)))
      (paren_gap true v.rest))
      (body_leaves b) (λ p. body_passes b p)
  of_passes (condition_error i) p e h z x = tt
  of_passes {d} {s} {o} (a_body {t} {c} b) p e h z (u, there, l, (w, ends)) =
      after_condition (leaves_condition b) c o (body_trivia b)
      (subst (λ x. Passes x s.rest (code ")" ∷ t.rest) p (with_dropped (reach_of s.rest) start p ++ inner_at s start))
      (sym z) first)
      held (body_leaves b) (λ p. body_passes b p)
    where
      start : ℕ
      start = (condition_span s t).start

      here : start ≡ reach_of u
      here = ap (λ o. choose o reach_of (reach_of s.rest)) there

      before : Slice s.rest u
      before = condition_slice s u there

      inner : InToken s.rest u (inner_at s start)
      inner = subst (λ n. InToken s.rest u (inner_at s n)) (sym here) (start_inner s u before)

      -- the condition
      leaf_gap : Gap true u (code ")" ∷ t.rest)
      leaf_gap = a_gap w refl ends (condition_piece d s t c e (there ∙ ap (λ z. Some z) ends) refl)

      longer : bytes u < bytes s.rest
      longer = condition_shorter s u there

      first : Passes true s.rest (code ")" ∷ t.rest) p (with_dropped (reach_of s.rest) start p ++ inner_at s start)
      first =
          subst (λ n. Passes true s.rest (code ")" ∷ t.rest) p (with_dropped (reach_of s.rest) n p ++ inner_at s start))
          (sym here) (extended (dropped_with (nothing no_gap) before (before_condition s u there before.word before.cut)
          longer inner) leaf_gap)

      held : Passes true s.rest t.rest p (p ++ inner_at s start)
      held =
          extended (extended (token_with before.word refl (nothing no_gap) before.cut
          (an_opening d s (subst (λ x. OpensAt s x u) (sym e) there) before.cut) inner no_gap refl) leaf_gap)
          (paren_gap true t.rest)
  of_passes {d} {s} (two_branches {t} {v} {u} {a} {q} b f m) p e h z x =
      let k = p ++ inner_at s (reach_of t.rest) in
      let opens = subst (λ x. OpensAt s x t.rest) (sym e) refl in
      let first =
      extended (followed (opened d s t h.0 p opens) (allowed true (to_true (is_loud a)) (branch_passes b k)))
      (separated true (code "|" ∷ []) (strip_is (code "|") v.rest u f) (a_bar refl)) in
      second_passes s.rest p (branch_trivia m (branch_trivia b k)) a first q (branch_passes m (branch_trivia b k))
  of_passes {d} {s} (one_branch {t} {v} {a} b f) p e h z x =
      let k = p ++ inner_at s (reach_of t.rest) in
      let read =
      followed (opened d s t h.0 p (subst (λ x. OpensAt s x t.rest) (sym e) refl))
      (allowed true (to_true (is_loud a)) (branch_passes b k)) in
      past_paren s.rest p (branch_trivia b k) (closed (clear_or_stopper a) v)
      (closed_passes (clear_or_stopper a) v
      (subst (λ x. Passes x s.rest v.rest p (branch_trivia b k)) (sym (stopper_loud a)) read))
  of_passes (absent_error b) p e h z x = tt

  inside_passes : {d : ℕ} {s : State} {o : Outcome Tree} (a : Inside d s o) (p : List Passed) →
      PassesInside s.rest p (inside_trivia a p) o
  inside_passes {s} (inside {q} a) p = by_contents q (alternation_passes a p)
    where
      by_contents : (q : Outcome Tree) → PassesFrom is_loud s.rest p (alternation_trivia a p) q →
          PassesInside s.rest p (alternation_trivia a p) (and_then q closed)
      by_contents (done r v) h = closed_passes r v h
      by_contents (failed e) h = tt

  -- if only the condition is left, there are only separators
  body_passes : {d : ℕ} {c : Tree} {s : State} {o : Outcome Tree} (a : Body d c s o) (p : List Passed) →
      PassesFrom (λ r. not (leaves_condition a)) s.rest p (body_trivia a p) o
  body_passes {c} {s} (the_body {q} a) p = by_contents q (alternation_passes a p)
    where
      m : List Passed
      m = alternation_trivia a p

      by_contents : (q : Outcome Tree) → PassesFrom is_loud s.rest p m q →
          PassesFrom (λ r. not (if_done q (λ r v. is_empty (branches_of r).0 && is_empty (branches_of r).1) false))
          s.rest p m (and_then q (conditional_after c (bytes s.rest)))
      by_contents (failed e) h = tt
      by_contents (done r v) h =
          let W : Outcome Tree → Type 0 = PassesFrom (λ z. is_loud r) s.rest p m in
          cond_both (bytes v.rest == bytes s.rest && not (is_condition c)) _ _ W (λ _. tt)
          (λ _. choose_both W (strip (code ")") v.rest) _ _
          (λ u e. extended h (separated (is_loud r) (code ")" ∷ []) (strip_is (code ")") v.rest u e) (a_closing refl))) tt)

ends_empty : (t : Text) → (length t == 0) ≡ true → t ≡ []
ends_empty [] e = refl
ends_empty (c ∷ t) e = let n : length (c ∷ t) ≡ 0 = grind (arith, nat_tests) in absurd (omega (arith, n))

whole_passes : {f : Flags} {text : Text} {r : Tree} {t : State} (a : Whole f text (done r t)) →
    Passes (is_loud r) text t.rest [] (whole_trivia a) × (t.rest ≡ [])
whole_passes a = by_whole a
  where
    by_whole : {f : Flags} {text : Text} {o : Outcome Tree} (a : Whole f text o) →
        Holds (λ r (t : State). Passes (is_loud r) text t.rest [] (whole_trivia a) × (t.rest ≡ [])) o
    by_whole {text} (whole {q} a) = by_contents q (alternation_passes a [])
      where
        m : List Passed
        m = alternation_trivia a []

        P : Outcome Tree → Type 0
        P o = Holds (λ r (t : State). Passes (is_loud r) text t.rest [] m × (t.rest ≡ [])) o

        by_contents : (q : Outcome Tree) → PassesFrom is_loud text [] m q → P (and_then q ended)
        by_contents (done r t) h =
            cond_both (length t.rest == 0) _ _ P (λ e. (h, ends_empty t.rest e)) (λ _. tt)
        by_contents (failed e) h = tt

-- ---- the trivia of a text

-- they are in the text, one after another
pub trivia_in_order : {f : Flags} {text : Text} (l : List Trivium) → IsTriviaOf f text l → AreInOrder 0 (bytes text) l
trivia_in_order {f} {text} l (r, t, a, e) =
    subst (AreInOrder 0 (bytes text)) (sym e)
    (returned_in_order text (only_named f (openings r)) (whole_trivia a) (whole_passes a).0)

-- each is a part of it
pub trivia_are_parts : {f : Flags} {text : Text} (l : List Trivium) → IsTriviaOf f text l →
    AllByRecursion (IsPartOf text) l
trivia_are_parts {f} {text} l (r, t, a, e) =
    subst (AllByRecursion (IsPartOf text)) (sym e)
    (returned_are_parts text (only_named f (openings r)) (whole_trivia a) (whole_passes a).0)

-- with segments between them they are the whole text
pub trivia_fill : {f : Flags} {text : Text} (l : List Trivium) → IsTriviaOf f text l → HasEveryByte text l
trivia_fill {f} {text} l (r, t, a, e) =
    let h = whole_passes a in
    subst (HasEveryByte text) (sym e) (returned_fill text (only_named f (openings r)) (whole_trivia a) h.0 h.1)

-- each begins and ends at a character boundary
pub trivia_cut : {f : Flags} {re : List ℕ} (l : List Trivium) → IsUtf8 re → IsTriviaOf f (chars re) l →
    AllByRecursion (λ x. IsCutOut re x.span) l
trivia_cut l valid h = parts_cut l valid (trivia_are_parts l h)
