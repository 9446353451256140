-- A step that finds no atom, where a condition begins, and the quantifiers of the last tree.
use Rattle.std.proofs.Common.{List, [], ◌∷◌, ◌++◌}
use Rattle.std.proofs.Common.{◌≡◌, ℕ, ◌<◌, ◌≤◌, false, Result, Ok, Err, Some, sym, ◌∙◌, subst, ap, arith, ⊎_elim}
use Rattle.std.proofs.Math.Nat.{eq-or-lt_of_le}
use Rattle.fancy_lex.specs.Reading.{choose}
use Rattle.fancy_lex.specs.Text.{Text, bytes, reach_of}
use Rattle.fancy_lex.specs.declared.error.ReadError.{ReadError}
use Rattle.fancy_grammar.specs.AtomStart.{nothing, atom_start}
use Rattle.fancy_grammar.specs.Quantified.{quants}
use Rattle.fancy_grammar.specs.Spans.{condition_text, condition_span}
use Rattle.fancy_grammar.specs.State.{ends, State, at, Outcome, done}
use Rattle.fancy_grammar.specs.Tree.{Tree, empty}
use Rattle.fancy_grammar.proofs.AtomStartLemmas.{nothing_repeats}
use Rattle.fancy_grammar.proofs.SpansCondition.{HasConditionText, condition_there}
use Rattle.fancy_syntax.specs.Machine.{TurnsLast}
use Rattle.fancy_syntax.specs.Parsed.{Turns, HasConditionAt, view_start}
use Rattle.fancy_syntax.specs.declared.grammar.atom_start.AtomStart as declared
use Rattle.fancy_syntax.specs.declared.grammar.atom_start.AtomStart.TheVariants as start

-- if there is no atom and the branch does not end, no piece is read
nothing_stops : (d : ℕ) (s : State) (u : Text) (a : Tree) (v : State) → atom_start d (at s u) ≡ nothing →
    ends u ≡ false → quants d (bytes u) empty (at s u) ≡ done a v → ⊥
nothing_stops d s u a v e h g = let p = nothing_repeats d s u e h in cc

-- after the layout before a piece, nothing is read only if there was layout
pub nothing_shorter : (d k l m left : ℕ) (s : State) (u : Text) (a : Tree) (v : State) →
    atom_start d (at s u) ≡ nothing → ends s.rest ≡ false →
    left ≡ bytes s.rest → quants d left empty (at s u) ≡ done a v → l ≤ m → (l ≡ m → u ≡ s.rest) → k ≤ l → k < m
nothing_shorter d k l m left s u a v e h b g i same within =
    ⊎_elim stops (λ j. omega (arith, within, j)) (eq-or-lt_of_le i)
  where
    stops : l ≡ m → k < m
    stops j =
        let at_start : left ≡ bytes u = b ∙ ap bytes (sym (same j)) in
        absurd (nothing_stops d s u a v e (ap ends (same j) ∙ h)
        (subst (λ x. quants d x empty (at s u) ≡ done a v) at_start g))

-- a condition that is no alternation begins at its text
pub condition_begins : (d : ℕ) (s t : State) (a : declared.AtomStart) → atom_start d s ≡ view_start a t →
    ((w : Text) → condition_text s ≡ Some w → HasConditionAt a (reach_of w)) →
    HasConditionAt a (condition_span s t).start
condition_begins d s t (start.Body c position) seen f =
    let (w, is, _, _) = subst (HasConditionText (condition_text s)) seen (condition_there d s) in
    f w is ∙ ap (λ o. choose o reach_of (reach_of s.rest)) (sym is)
condition_begins d s t _ seen f = tt

-- a tree turns as the last of all does, if it is put in its place
pub turns_last : (r : Result (Unit {0}) ReadError) (all below : List Tree) (t : Tree) (s : State) (o : Outcome Tree) →
    all ≡ below ++ t ∷ [] → Turns r t s o → TurnsLast r all below s o
turns_last (Ok u) all below t s o h k = (t, h, k)
turns_last (Err e) all below t s o h k = k
