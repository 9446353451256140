-- How many characters a part that a tree matches has at least.
use Rattle.std.proofs.Common.{◌≡◌, ℕ, zero, suc, ◌+◌, ◌*◌, ◌≤◌, Bool, length, Option, Some, None, inl, inr, ap, arith}
use Rattle.std.proofs.Math.Nat.{suc-mul, zero-mul, mul-le-mul_right}
use Rattle.fancy_grammar.specs.Label as label
use Rattle.fancy_grammar.specs.Label.{Leaf, Wrap, Row}
use Rattle.fancy_grammar.specs.Tree.{Tree, Trees, leaf, over, row, no_trees, more_trees}
use Rattle.pattern_matches.specs.Parts.{Position, Parts, One, one, Then, Times, Repeated}
use Rattle.pattern_matches.specs.Matches.{Assertions, Matches, RowMatches, LeafMatches, WrapMatches, NoneMatch, MoreMatch}
use Rattle.pattern_matches.specs.Lengths.{HasAtLeast, leaf_least, wrap_least, row_least, least_of_none, or_zero, min_length, min_lengths}

-- an empty part
nothing : (p q : Position) → p ≡ q → HasAtLeast 0 p q
nothing p q h = let e = ap (λ x. length x.before) h in omega arith

one_least : (Has : ℕ → Type 0) (p q : Position) → One Has p q → HasAtLeast 1 p q
one_least Has p q (one h) = omega arith

leaf_has : (u : Bool) (s : Assertions) (l : Leaf) (p q : Position) → LeafMatches u s l p q → HasAtLeast (leaf_least l) p q
leaf_has u s label.empty p q k = nothing p q k
leaf_has u s (label.any newline crlf) p q k = one_least _ p q k
leaf_has u s (label.assertion a) p q k = nothing p q k.0
leaf_has u s (label.literal text casei) p q k = one_least _ p q k
leaf_has u s (label.delegate text casei) p q k = one_least _ p q k
leaf_has u s _ p q k = absurd k

-- k times at least n
times_least : (P : Parts) (n : ℕ) → ((p q : Position) → P p q → HasAtLeast n p q) → (k : ℕ) (p q : Position) →
    Times P k p q → HasAtLeast (k * n) p q
times_least P n has zero p q k = rw zero-mul (nothing p q k)
times_least P n has (suc j) p q k =
    let a : HasAtLeast n p k.middle = has p k.middle k.first in
    let b : HasAtLeast (j * n) k.middle q = times_least P n has j k.middle q k.second in
    rw suc-mul (omega arith)

repeated_least : (P : Parts) (n : ℕ) → ((p q : Position) → P p q → HasAtLeast n p q) → (lo hi : ℕ) (p q : Position) →
    Repeated P lo hi p q → HasAtLeast (lo * n) p q
repeated_least P n has lo hi p q k =
    let a : HasAtLeast (k.count * n) p q = times_least P n has k.count p q k.turns in
    let b : lo * n ≤ k.count * n = mul-le-mul_right n k.enough in
    omega arith

wrap_has : (w : Wrap) (P : Parts) (n : ℕ) → ((p q : Position) → P p q → HasAtLeast n p q) → (p q : Position) →
    WrapMatches w P p q → HasAtLeast (wrap_least w n) p q
wrap_has label.group P n has p q k = has p q k
wrap_has (label.look_around l) P n has p q k = nothing p q k.0
wrap_has (label.repeat lo hi greedy) P n has p q k = repeated_least P n has lo hi p q k
wrap_has _ P n has p q k = absurd k

-- at least so many, or no match at all
HasLeast : Option ℕ → Position → Position → Type 0
HasLeast (Some n) p q = HasAtLeast n p q
HasLeast None p q = ⊥

none_has : (r : Row) (p q : Position) → NoneMatch r p q → HasLeast (least_of_none r) p q
unfolding HasLeast
none_has label.concat p q k = nothing p q k
none_has _ p q k = absurd k

then_least : (n j : ℕ) (P Q : Parts) → ((p q : Position) → P p q → HasAtLeast n p q) →
    ((p q : Position) → Q p q → HasAtLeast j p q) → (p q : Position) → Then P Q p q → HasAtLeast (n + j) p q
then_least n j P Q has have p q k =
    let a : HasAtLeast n p k.middle = has p k.middle k.first in
    let b : HasAtLeast j k.middle q = have k.middle q k.second in
    omega arith

more_has : (r : Row) (n : ℕ) (o : Option ℕ) (P Q : Parts) → ((p q : Position) → P p q → HasAtLeast n p q) →
    ((p q : Position) → Q p q → HasLeast o p q) → (p q : Position) → MoreMatch r P Q p q → HasLeast (row_least r n o) p q
unfolding HasLeast
more_has label.concat n (Some j) P Q has have p q k = then_least n j P Q has have p q k
more_has label.concat n None P Q has have p q k = have k.middle q k.second
more_has label.alt n (Some j) P Q has have p q (inl k) = let a : HasAtLeast n p q = has p q k in omega arith
more_has label.alt n (Some j) P Q has have p q (inr k) = let a : HasAtLeast j p q = have p q k in omega arith
more_has label.alt n None P Q has have p q (inl k) = has p q k
more_has label.alt n None P Q has have p q (inr k) = absurd (have p q k)
more_has label.expression n o P Q has have p q k = absurd k
more_has label.conditional n o P Q has have p q k = absurd k

or_zero_has : (o : Option ℕ) (p q : Position) → HasLeast o p q → HasAtLeast (or_zero o) p q
unfolding HasLeast
or_zero_has (Some n) p q k = k
or_zero_has None p q k = absurd k

mutual
  -- a part that a tree matches has at least `min_length` characters
  pub least : (u : Bool) (s : Assertions) (t : Tree) (p q : Position) → Matches u s t p q → HasAtLeast (min_length t) p q
  least u s (leaf l) p q k = leaf_has u s l p q k
  least u s (over w t) p q k = wrap_has w (Matches u s t) (min_length t) (λ p q k. least u s t p q k) p q k
  least u s (row r ts) p q k = or_zero_has (min_lengths r ts) p q (least_row u s r ts p q k)

  least_row : (u : Bool) (s : Assertions) (r : Row) (ts : Trees) (p q : Position) → RowMatches u s r ts p q →
      HasLeast (min_lengths r ts) p q
  least_row u s r no_trees p q k = none_has r p q k
  least_row u s r (more_trees t ts) p q k =
      more_has r (min_length t) (min_lengths r ts) (Matches u s t) (RowMatches u s r ts)
      (λ p q k. least u s t p q k) (λ p q k. least_row u s r ts p q k) p q k
