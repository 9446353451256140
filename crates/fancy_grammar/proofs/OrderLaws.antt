-- What follows if the reaches of items descend, and where the first error is.
use Rattle.std.proofs.Common.{◌≡◌, ℕ, ◌+◌, ◌≤◌, Option, Some, Bool, List, [], ◌∷◌, length, subst, arith, if◌then◌else◌}
use Rattle.std.specs.List.{AllByRecursion}
use Rattle.fancy_lex.specs.Located.{Located}
use Rattle.fancy_lex.specs.Text.{Text}
use Rattle.fancy_grammar.specs.Meaning.{Meaning, number, unresolved, invalid, refers_to, error_or}
use Rattle.fancy_grammar.specs.Ranks.{is_counted}
use Rattle.fancy_grammar.specs.Items.{Item, opening, reference, openings_in, meanings_in, role_of, target_of}
use Rattle.fancy_grammar.specs.Resolved.{first_error}
use Rattle.fancy_grammar.proofs.Ordered.{DescendingReaches, reach_of_item}

pub bounds : (high low : ℕ) (l : List Item) → DescendingReaches high low l → low ≤ high
bounds high low [] a = a
bounds high low (i ∷ l) a = omega (arith, a.0, bounds (reach_of_item i) low l a.1)

-- each has a reach of its own
pub openings_fit : (high low : ℕ) (l : List Item) → DescendingReaches high low l → low + length (openings_in l) ≤ high
openings_fit high low [] a = omega (arith, a)
openings_fit high low (opening o ∷ l) a = omega (arith, a.0, openings_fit o.reach low l a.1)
openings_fit high low (reference r reach ∷ l) a = omega (arith, a.0, openings_fit reach low l a.1)

-- the first error is at a reference
error_here : (P : ℕ → Type 0) (m : Meaning) (reach : ℕ) (other : Option Located) (x : Located) → P reach →
    (other ≡ Some x → P x.reach) → error_or m reach other ≡ Some x → P x.reach
error_here P (number n) reach other x h i e = i e
error_here P unresolved reach other x h i e = i e
error_here P (invalid k) reach other x h i e =
    let same : record { reach = reach; kind = k } ≡ x = cc in subst (λ (y : Located). P y.reach) same h

pub error_reach : (P : ℕ → Type 0) (named : Bool) (numbers_of : Text → List ℕ) (c : ℕ) (l : List Item) (x : Located) →
    AllByRecursion (λ i. P (reach_of_item i)) l → first_error (meanings_in named numbers_of c l) ≡ Some x → P x.reach
error_reach P named u c [] x a e = absurd cc
error_reach P named u c (opening o ∷ l) x a e =
    error_reach P named u (if is_counted named o.name then c + 1 else c) l x a.1 e
error_reach P named u c (reference r reach ∷ l) x a e =
    error_here P (refers_to u c (role_of r) (target_of r)) reach (first_error (meanings_in named u c l)) x a.0
    (error_reach P named u c l x a.1) e
