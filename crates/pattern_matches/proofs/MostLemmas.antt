-- How many characters a part that a tree matches has at most.
use Rattle.std.proofs.Common.{◌≡◌, ℕ, zero, suc, ◌+◌, ◌*◌, ◌<◌, ◌≤◌, Bool, true, false, length, Option, Some, None}
use Rattle.std.proofs.Common.{nat_lt, ◌==◌, ◌||◌, if◌then◌else◌, ◌⊎◌, inl, inr, ⊎_elim, refl, ap, subst, eqb-true, arith}
use Rattle.std.proofs.Math.Nat.{suc-mul, zero-mul, mul-zero, mul-le-mul_right}
use Rattle.std.proofs.lemmas.Bool.{ltb-true}
use Rattle.fancy_grammar.specs.Label as label
use Rattle.fancy_grammar.specs.Label.{Leaf, Wrap, Row}
use Rattle.fancy_grammar.specs.Tree.{Tree, Trees, leaf, over, row, no_trees, more_trees}
use Rattle.fancy_lex.specs.Quantifier.{most}
use Rattle.pattern_matches.specs.Parts.{Position, Parts, One, one, Then, Times, Repeated}
use Rattle.pattern_matches.specs.Matches.{Assertions, Matches, RowMatches, LeafMatches, WrapMatches, NoneMatch, MoreMatch}
use Rattle.pattern_matches.specs.Lengths.{HasAtMost, leaf_most, turns_most, wrap_most, row_most, max_length, max_lengths}

-- at most so many, if there is a limit
HasMost : Option ℕ → Position → Position → Type 0
HasMost (Some n) p q = HasAtMost n p q
HasMost None p q = Unit {0}

nothing : (p q : Position) → p ≡ q → HasAtMost 0 p q
nothing p q h = let e = ap (λ x. length x.before) h in omega arith

one_most : (Has : ℕ → Type 0) (p q : Position) → One Has p q → HasAtMost 1 p q
one_most Has p q (one h) = omega arith

leaf_has : (u : Bool) (s : Assertions) (l : Leaf) (p q : Position) → LeafMatches u s l p q → HasMost (leaf_most l) p q
unfolding HasMost
leaf_has u s label.empty p q k = nothing p q k
leaf_has u s (label.any newline crlf) p q k = one_most _ p q k
leaf_has u s (label.assertion a) p q k = nothing p q k.0
leaf_has u s (label.literal text casei) p q k = one_most _ p q k
leaf_has u s (label.delegate text casei) p q k = one_most _ p q k
leaf_has u s _ p q k = absurd k

-- k times at most n
times_most : (P : Parts) (n : ℕ) → ((p q : Position) → P p q → HasAtMost n p q) → (k : ℕ) (p q : Position) →
    Times P k p q → HasAtMost (k * n) p q
times_most P n has zero p q k = rw zero-mul (nothing p q k)
times_most P n has (suc j) p q k =
    let a : HasAtMost n p k.middle = has p k.middle k.first in
    let b : HasAtMost (j * n) k.middle q = times_most P n has j k.middle q k.second in
    rw suc-mul (omega arith)

-- turns of which there are no more than hi, or that take nothing
repeated_most : (P : Parts) (n : ℕ) → ((p q : Position) → P p q → HasAtMost n p q) → (lo hi : ℕ) (p q : Position) →
    (hi < most) ⊎ (n ≡ 0) → Repeated P lo hi p q → HasAtMost (hi * n) p q
repeated_most P n has lo hi p q (inl limit) k =
    let a : HasAtMost (k.count * n) p q = times_most P n has k.count p q k.turns in
    let b : k.count * n ≤ hi * n = mul-le-mul_right n (k.few limit) in
    omega arith
repeated_most P n has lo hi p q (inr none) k =
    let a : HasAtMost (k.count * 0) p q = times_most P 0
    (subst (λ m. (p q : Position) → P p q → HasAtMost m p q) none has) k.count p q k.turns in
    let b : k.count * 0 ≡ 0 = mul-zero k.count in
    omega arith

one_of_two : (a b : Bool) → (a || b) ≡ true → (a ≡ true) ⊎ (b ≡ true)
one_of_two true b h = inl refl
one_of_two false b h = inr h

-- a repeat, whose test of a limit is b
limited : (b : Bool) (n hi : ℕ) (p q : Position) → (b ≡ true → HasAtMost (hi * n) p q) →
    HasMost (if b then Some (hi * n) else None) p q
unfolding HasMost
limited true n hi p q f = f refl
limited false n hi p q f = tt

no_turn : (P : Parts) (n : ℕ) (p q : Position) → n ≤ 0 → Times P n p q → p ≡ q
no_turn P zero p q high k = k
no_turn P (suc n) p q high k = absurd (omega arith)

-- a repeat of any tree, whose test that there is no turn is b
without_turns : (b : Bool) (P : Parts) (lo hi : ℕ) (p q : Position) → (b ≡ true → hi ≡ 0) → Repeated P lo hi p q →
    HasMost (if b then Some 0 else None) p q
unfolding HasMost
without_turns true P lo hi p q f k =
    let none : hi ≡ 0 = f refl in
    let few : k.count ≤ hi = k.few (omega arith) in
    nothing p q (no_turn P k.count p q (omega arith) k.turns)
without_turns false P lo hi p q f k = tt

turns_have : (P : Parts) (o : Option ℕ) → ((p q : Position) → P p q → HasMost o p q) → (lo hi : ℕ) (p q : Position) →
    Repeated P lo hi p q → HasMost (turns_most hi o) p q
unfolding HasMost
turns_have P (Some n) has lo hi p q k =
    limited (nat_lt hi most || (n == 0)) n hi p q
    (λ h. repeated_most P n has lo hi p q
    (⊎_elim (λ a. inl (ltb-true hi most a)) (λ b. inr (eqb-true n 0 b)) (one_of_two _ _ h)) k)
turns_have P None has lo hi p q k = without_turns (hi == 0) P lo hi p q (eqb-true hi 0) k

wrap_has : (w : Wrap) (P : Parts) (o : Option ℕ) → ((p q : Position) → P p q → HasMost o p q) → (p q : Position) →
    WrapMatches w P p q → HasMost (wrap_most w o) p q
unfolding HasMost
wrap_has label.group P o has p q k = has p q k
wrap_has (label.look_around l) P o has p q k = nothing p q k.0
wrap_has (label.repeat lo hi greedy) P o has p q k = turns_have P o has lo hi p q k
wrap_has _ P o has p q k = absurd k

then_most : (n j : ℕ) (P Q : Parts) → ((p q : Position) → P p q → HasAtMost n p q) →
    ((p q : Position) → Q p q → HasAtMost j p q) → (p q : Position) → Then P Q p q → HasAtMost (n + j) p q
then_most n j P Q has have p q k =
    let a : HasAtMost n p k.middle = has p k.middle k.first in
    let b : HasAtMost j k.middle q = have k.middle q k.second in
    omega arith

none_has : (r : Row) (p q : Position) → NoneMatch r p q → HasMost (Some 0) p q
unfolding HasMost
none_has label.concat p q k = nothing p q k
none_has _ p q k = absurd k

more_has : (r : Row) (o l : Option ℕ) (P Q : Parts) → ((p q : Position) → P p q → HasMost o p q) →
    ((p q : Position) → Q p q → HasMost l p q) → (p q : Position) → MoreMatch r P Q p q → HasMost (row_most r o l) p q
unfolding HasMost
more_has label.concat (Some n) (Some j) P Q has have p q k = then_most n j P Q has have p q k
more_has label.concat (Some n) None P Q has have p q k = tt
more_has label.concat None l P Q has have p q k = tt
more_has label.alt (Some n) (Some j) P Q has have p q (inl k) = let a : HasAtMost n p q = has p q k in omega arith
more_has label.alt (Some n) (Some j) P Q has have p q (inr k) = let a : HasAtMost j p q = have p q k in omega arith
more_has label.alt (Some n) None P Q has have p q k = tt
more_has label.alt None l P Q has have p q k = tt
more_has label.expression o l P Q has have p q k = absurd k
more_has label.conditional o l P Q has have p q k = absurd k

mutual
  most_of : (u : Bool) (s : Assertions) (t : Tree) (p q : Position) → Matches u s t p q → HasMost (max_length t) p q
  most_of u s (leaf l) p q k = leaf_has u s l p q k
  most_of u s (over w t) p q k = wrap_has w (Matches u s t) (max_length t) (λ p q k. most_of u s t p q k) p q k
  most_of u s (row r ts) p q k = most_row u s r ts p q k

  most_row : (u : Bool) (s : Assertions) (r : Row) (ts : Trees) (p q : Position) → RowMatches u s r ts p q →
      HasMost (max_lengths r ts) p q
  most_row u s r no_trees p q k = none_has r p q k
  most_row u s r (more_trees t ts) p q k =
      more_has r (max_length t) (max_lengths r ts) (Matches u s t) (RowMatches u s r ts)
      (λ p q k. most_of u s t p q k) (λ p q k. most_row u s r ts p q k) p q k

-- a part that a tree matches has at most `max_length` characters, if that is a number
pub greatest : (u : Bool) (s : Assertions) (t : Tree) (n : ℕ) (p q : Position) → max_length t ≡ Some n →
    Matches u s t p q → HasAtMost n p q
unfolding HasMost
greatest u s t n p q is k = subst (λ o. HasMost o p q) is (most_of u s t p q k)
