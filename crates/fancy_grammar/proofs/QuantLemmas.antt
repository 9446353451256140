-- How one adjacent quantifier is read.
use Rattle.std.proofs.Common.{◌≡◌, ◌≢◌, ◌<◌, ℕ, zero, suc, ◌+◌, true, false, true≢false, ◌==◌, refl, sym, subst, arith}
use Rattle.std.proofs.Common.{tests, rules}
use Rattle.std.proofs.lemmas.Bool.Decides.{nat_tests}
use Rattle.fancy_lex.specs.Located.{Located}
use Rattle.fancy_lex.specs.ErrorTable.{quantifier_too_deep}
use Rattle.fancy_lex.specs.Text.{bytes}
use Rattle.fancy_grammar.specs.Depth.{max_depth}
use Rattle.fancy_grammar.specs.Quantified.{quant, adjacent, may_count, is_unmoved}
use Rattle.fancy_grammar.specs.State.{State, Outcome, done, failed}
use Rattle.fancy_grammar.specs.Tree.{Tree}

-- an error
pub adjacent_error : (k d : ℕ) (a : Tree) (s : State) {f : Located} → quant (bytes s.rest) a s ≡ failed f →
    adjacent k d a s ≡ failed f
unfolding adjacent
adjacent_error zero d a s e = rw e refl
adjacent_error (suc k) d a s e = rw e refl

-- no byte was read
pub adjacent_ends : (k d : ℕ) (a : Tree) (s : State) {b : Tree} {t : State} → quant (bytes s.rest) a s ≡ done b t →
    is_unmoved s t ≡ true →
    adjacent k d a s ≡ done b t
unfolding adjacent
adjacent_ends zero d a s e u = rw (e, u) refl
adjacent_ends (suc k) d a s e u = rw (e, u) refl

-- one quantifier too many
pub adjacent_stops : (k d : ℕ) (a : Tree) (s : State) {b : Tree} {t : State} → quant (bytes s.rest) a s ≡ done b t →
    is_unmoved s t ≡ false →
    may_count k d ≡ false → adjacent k d a s ≡ failed (quantifier_too_deep t.rest)
unfolding adjacent
adjacent_stops zero d a s e u c = rw (e, u) refl
adjacent_stops (suc k) d a s e u c = rw (e, u, c) refl

-- one more quantifier
pub adjacent_counts : (k j d : ℕ) (a : Tree) (s : State) {b : Tree} {t : State} →
    quant (bytes s.rest) a s ≡ done b t → is_unmoved s t ≡ false →
    may_count k d ≡ true → k ≡ j + 1 → adjacent k d a s ≡ adjacent j (d + 1) b t
unfolding adjacent
adjacent_counts zero j d a s e u c i = absurd (true≢false (sym c))
adjacent_counts (suc k) j d a s e u c i = let same : k ≡ j = omega arith in rw (e, u, c, same) refl

pub some_may_count : (k d : ℕ) → may_count k d ≡ true → (0 < k) × (d + 1 < max_depth)
some_may_count zero d e = absurd (true≢false (sym e))
some_may_count (suc k) d e = (omega arith, grind (arith, nat_tests))

pub unmoved_is : (m l k : ℕ) → m ≡ k → l ≡ k → (m == l) ≡ true
unmoved_is m l k e i = search (tests, rules)

pub moved_is : (m l k j : ℕ) → m ≡ k → l ≡ j → k ≢ j → (m == l) ≡ false
moved_is m l k j e i h = search (tests, rules)

-- the same reading, if the number of bytes left is known
pub from_start : (left : ℕ) (a : Tree) (s : State) (o : Outcome Tree) → left ≡ bytes s.rest → quant left a s ≡ o →
    quant (bytes s.rest) a s ≡ o
from_start left a s o i e = subst (λ m. quant m a s ≡ o) i e
