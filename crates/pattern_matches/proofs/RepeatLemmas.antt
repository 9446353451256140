-- Repeats of exactly one turn, and of none.
use Rattle.std.proofs.Common.{◌≡◌, ℕ, zero, suc, ◌≤◌, Bool, refl, subst, arith}
use Rattle.fancy_grammar.specs.Tree.{Tree, empty, repeat}
use Rattle.pattern_matches.specs.Parts.{Position, Parts, Times}
use Rattle.pattern_matches.specs.Matches.{Matches}
use Rattle.pattern_matches.specs.SameMatches.{SameMatches}

one_turn : (P : Parts) (p q : Position) → P p q → Times P 1 p q
one_turn P p q k = record { middle = q; first = k; second = refl }

single : (P : Parts) (n : ℕ) (p q : Position) → 1 ≤ n → n ≤ 1 → Times P n p q → P p q
single P zero p q low high k = absurd (omega arith)
single P (suc zero) p q low high k = subst (λ x. P p x) k.second k.first
single P (suc (suc n)) p q low high k = absurd (omega arith)

-- a repeat of exactly one turn is its operand
pub once : (u : Bool) (t : Tree) (greedy : Bool) → SameMatches u (repeat t 1 1 greedy) t
once u t greedy = record {
  there = λ s p q k. single (Matches u s t) k.count p q k.enough (k.few (omega arith)) k.turns;
  back = λ s p q k.
      record { count = 1; enough = omega arith; few = λ h. omega arith; turns = one_turn (Matches u s t) p q k };
}

no_turn : (P : Parts) (n : ℕ) (p q : Position) → n ≤ 0 → Times P n p q → p ≡ q
no_turn P zero p q high k = k
no_turn P (suc n) p q high k = absurd (omega arith)

-- a repeat of no turn is empty
pub never : (u : Bool) (t : Tree) (greedy : Bool) → SameMatches u (repeat t 0 0 greedy) empty
never u t greedy = record {
  there = λ s p q k. no_turn (Matches u s t) k.count p q (k.few (omega arith)) k.turns;
  back = λ s p q k. record { count = 0; enough = omega arith; few = λ h. omega arith; turns = k };
}

-- a lazy repeat matches what the greedy one matches
pub greed : (u : Bool) (t : Tree) (lo hi : ℕ) (greedy other : Bool) →
    SameMatches u (repeat t lo hi greedy) (repeat t lo hi other)
greed u t lo hi greedy other = record { there = λ s p q k. k; back = λ s p q k. k }
