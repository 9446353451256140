-- How many bytes a part has that a tree matches: from those of the characters.
use Rattle.std.proofs.Common.{◌≡◌, ℕ, zero, suc, ◌+◌, ◌*◌, ◌<◌, ◌≤◌, ◌==◌, ◌||◌, ◌⊎◌, Bool, true, false, nat_lt, min, max, if◌then◌else◌, ◌∷◌, Option, Some, None, inl, inr, refl, sym, ap, subst, eqb-true, ⊎_elim, arith}
use Rattle.std.proofs.Math.Nat.{suc-mul, zero-mul, mul-zero, mul-le-mul_right}
use Rattle.std.proofs.lemmas.Bool.{ltb-true}
use Rattle.std.specs.Char.{len_utf8}
use Rattle.fancy_lex.specs.Quantifier.{most}
use Rattle.fancy_lex.specs.Text.{Text, bytes}
use Rattle.fancy_grammar.specs.Label as label
use Rattle.fancy_grammar.specs.Label.{Leaf, Wrap, Row}
use Rattle.fancy_grammar.specs.Tree.{Tree, Trees, leaf, over, row, no_trees, more_trees, any, literal, delegate}
use Rattle.pattern_matches.specs.Lengths.{wrap_least, wrap_most, row_least, row_most, turns_most, least_of_none, or_zero}
use Rattle.pattern_matches.specs.Matches.{Assertions, HasCharacter, Matches, RowMatches, LeafMatches, WrapMatches, NoneMatch, MoreMatch}
use Rattle.pattern_matches.specs.Parts.{Position, Parts, One, one, Times, Repeated}
use Rattle.pattern_facts.specs.Bytes.{AreBytesOfOne, IsLeafLong, IsLong, AreLong, IsOneLong}

-- the part from p to q has at least n bytes, and at most so many as o says, if it says a number
pub AtLeast : ℕ → Position → Position → Type 0
AtLeast n p q = bytes p.before + n ≤ bytes q.before

pub AtMost : Option ℕ → Position → Position → Type 0
AtMost (Some n) p q = bytes q.before ≤ bytes p.before + n
AtMost None p q = Unit {0}

-- all parts of P have so many
pub record Fits (P : Parts) (n : ℕ) (o : Option ℕ) : Type 0 where
  pub low : (p q : Position) → P p q → AtLeast n p q
  pub high : (p q : Position) → P p q → AtMost o p q

-- what these say
pub at_most : (o : Option ℕ) (n : ℕ) (p q : Position) → o ≡ Some n → AtMost o p q → bytes q.before ≤ bytes p.before + n
unfolding AtMost
at_most o n p q e k = subst (λ m. AtMost m p q) e k

pub at_least : (n : ℕ) (p q : Position) → AtLeast n p q → bytes p.before + n ≤ bytes q.before
unfolding AtLeast
at_least n p q k = k

-- ---- leaves

same_least : (p q : Position) → p ≡ q → AtLeast 0 p q
unfolding AtLeast
same_least p q h = let e = ap (λ x. bytes x.before) h in omega arith

same_most : (p q : Position) → p ≡ q → AtMost (Some 0) p q
unfolding AtMost
same_most p q h = let e = ap (λ x. bytes x.before) h in omega arith

nothing_fits : (P : Parts) (n : ℕ) (o : Option ℕ) → ((p q : Position) → P p q → p ≡ q) → n ≡ 0 → o ≡ Some 0 → Fits P n o
nothing_fits P n o f e g = record {
  low = λ p q k. subst (λ m. AtLeast m p q) (sym e) (same_least p q (f p q k));
  high = λ p q k. subst (λ m. AtMost m p q) (sym g) (same_most p q (f p q k));
}

bytes_more : (c : ℕ) (b : Text) → bytes (c ∷ b) ≡ len_utf8 c + bytes b
unfolding bytes
bytes_more c b = refl

one_low : (Has : ℕ → Type 0) (n m : ℕ) → AreBytesOfOne Has n m → (p q : Position) → One Has p q → AtLeast n p q
unfolding AtLeast
one_low Has n m h _ _ (one {c = c} {b = b} {a = a} k) =
    let e = bytes_more c b in let f = (h.within c k).0 in omega (arith, e, f)

one_high : (Has : ℕ → Type 0) (n m : ℕ) → AreBytesOfOne Has n m → (p q : Position) → One Has p q → AtMost (Some m) p q
unfolding AtMost
one_high Has n m h _ _ (one {c = c} {b = b} {a = a} k) =
    let e = bytes_more c b in let f = (h.within c k).1 in omega (arith, e, f)

one_fits : (u : Bool) (t : Tree) (n : ℕ) (o : Option ℕ) → IsOneLong u t n o → Fits (One (HasCharacter u t)) n o
one_fits u t n None h = absurd h
one_fits u t n (Some m) h = record {
  low = λ p q k. one_low (HasCharacter u t) n m h p q k;
  high = λ p q k. one_high (HasCharacter u t) n m h p q k;
}

leaf_fits : (u : Bool) (s : Assertions) (l : Leaf) (n : ℕ) (o : Option ℕ) → IsLeafLong u l n o →
    Fits (LeafMatches u s l) n o
leaf_fits u s label.empty n o h = nothing_fits (LeafMatches u s label.empty) n o (λ p q k. k) h.0 h.1
leaf_fits u s (label.assertion a) n o h = nothing_fits (LeafMatches u s (label.assertion a)) n o (λ p q k. k.0) h.0 h.1
leaf_fits u s (label.any newline crlf) n o h = one_fits u (any newline crlf) n o h
leaf_fits u s (label.literal text casei) n o h = one_fits u (literal text casei) n o h
leaf_fits u s (label.delegate text casei) n o h = one_fits u (delegate text casei) n o h
leaf_fits u s _ n o h = absurd h

-- ---- repeats

times_least : (P : Parts) (n : ℕ) → ((p q : Position) → P p q → AtLeast n p q) → (k : ℕ) (p q : Position) →
    Times P k p q → AtLeast (k * n) p q
unfolding AtLeast
times_least P n has zero p q k = rw zero-mul (same_least p q k)
times_least P n has (suc j) p q k =
    let a = has p k.middle k.first in
    let b = times_least P n has j k.middle q k.second in
    rw suc-mul (omega (arith, a, b))

times_most : (P : Parts) (n : ℕ) → ((p q : Position) → P p q → AtMost (Some n) p q) → (k : ℕ) (p q : Position) →
    Times P k p q → AtMost (Some (k * n)) p q
unfolding AtMost
times_most P n has zero p q k = rw zero-mul (same_most p q k)
times_most P n has (suc j) p q k =
    let a = has p k.middle k.first in
    let b = times_most P n has j k.middle q k.second in
    rw suc-mul (omega (arith, a, b))

repeated_least : (P : Parts) (n lo hi : ℕ) → ((p q : Position) → P p q → AtLeast n p q) → (p q : Position) →
    Repeated P lo hi p q → AtLeast (lo * n) p q
unfolding AtLeast
repeated_least P n lo hi has p q k =
    let a = times_least P n has k.count p q k.turns in
    let b : lo * n ≤ k.count * n = mul-le-mul_right n k.enough in
    omega (arith, a, b)

-- turns of which there are no more than hi, or that take nothing
repeated_most : (P : Parts) (n lo hi : ℕ) → ((p q : Position) → P p q → AtMost (Some n) p q) → (p q : Position) →
    (hi < most) ⊎ (n ≡ 0) → Repeated P lo hi p q → AtMost (Some (hi * n)) p q
unfolding AtMost
repeated_most P n lo hi has p q (inl limit) k =
    let a = times_most P n has k.count p q k.turns in
    let b : k.count * n ≤ hi * n = mul-le-mul_right n (k.few limit) in
    omega (arith, a, b)
repeated_most P n lo hi has p q (inr none) k =
    let a = times_most P 0 (subst (λ m. (p q : Position) → P p q → AtMost (Some m) p q) none has) k.count p q k.turns in
    let b : k.count * 0 ≡ 0 = mul-zero k.count in
    omega (arith, a, b)

one_of_two : (a b : Bool) → (a || b) ≡ true → (a ≡ true) ⊎ (b ≡ true)
one_of_two true b h = inl refl
one_of_two false b h = inr h

-- a limit that is there if the test b says so
limited : (b : Bool) (n : ℕ) (p q : Position) → (b ≡ true → AtMost (Some n) p q) →
    AtMost (if b then Some n else None) p q
unfolding AtMost
limited true n p q f = f refl
limited false n p q f = tt

no_turn : (P : Parts) (n : ℕ) (p q : Position) → n ≤ 0 → Times P n p q → p ≡ q
no_turn P zero p q high k = k
no_turn P (suc n) p q high k = absurd (omega arith)

without_turns : (P : Parts) (lo hi : ℕ) (p q : Position) → hi ≡ 0 → Repeated P lo hi p q → AtMost (Some 0) p q
without_turns P lo hi p q none k =
    let few : k.count ≤ hi = k.few (omega arith) in
    same_most p q (no_turn P k.count p q (omega arith) k.turns)

turns_have : (P : Parts) (o : Option ℕ) (lo hi : ℕ) → ((p q : Position) → P p q → AtMost o p q) → (p q : Position) →
    Repeated P lo hi p q → AtMost (turns_most hi o) p q
turns_have P (Some n) lo hi has p q k =
    limited (nat_lt hi most || (n == 0)) (hi * n) p q
    (λ h. repeated_most P n lo hi has p q
    (⊎_elim (λ a. inl (ltb-true hi most a)) (λ b. inr (eqb-true n 0 b)) (one_of_two _ _ h)) k)
turns_have P None lo hi has p q k =
    limited (hi == 0) 0 p q (λ h. without_turns P lo hi p q (eqb-true hi 0 h) k)

no_limit : (p q : Position) → AtMost None p q
unfolding AtMost
no_limit p q = tt

wrap_fits : (w : Wrap) (P : Parts) (n : ℕ) (o : Option ℕ) → Fits P n o →
    Fits (WrapMatches w P) (wrap_least w n) (wrap_most w o)
wrap_fits label.group P n o h = record { low = λ p q k. h.low p q k; high = λ p q k. h.high p q k }
wrap_fits (label.look_around l) P n o h = record {
  low = λ p q k. same_least p q k.0;
  high = λ p q k. same_most p q k.0;
}
wrap_fits (label.repeat lo hi greedy) P n o h = record {
  low = λ p q k. repeated_least P n lo hi h.low p q k;
  high = λ p q k. turns_have P o lo hi h.high p q k;
}
wrap_fits _ P n o h = record { low = λ p q k. absurd k; high = λ p q k. absurd k }

-- ---- rows

-- at least so many, or no match at all
SomeLeast : Option ℕ → Position → Position → Type 0
SomeLeast (Some n) p q = AtLeast n p q
SomeLeast None p q = ⊥

-- all parts of P have so many bytes, or P has none
record RowFits (P : Parts) (n o : Option ℕ) : Type 0 where
  low : (p q : Position) → P p q → SomeLeast n p q
  high : (p q : Position) → P p q → AtMost o p q

none_low : (r : Row) (p q : Position) → NoneMatch r p q → SomeLeast (least_of_none r) p q
unfolding SomeLeast
none_low label.concat p q k = same_least p q k
none_low _ p q k = absurd k

none_high : (r : Row) (p q : Position) → NoneMatch r p q → AtMost (Some 0) p q
none_high label.concat p q k = same_most p q k
none_high _ p q k = absurd k

then_least : (n j : ℕ) (p m q : Position) → AtLeast n p m → AtLeast j m q → AtLeast (n + j) p q
unfolding AtLeast
then_least n j p m q a b = omega (arith, a, b)

then_most : (n j : ℕ) (p m q : Position) → AtMost (Some n) p m → AtMost (Some j) m q → AtMost (Some (n + j)) p q
unfolding AtMost
then_most n j p m q a b = omega (arith, a, b)

less : (n k : ℕ) (p q : Position) → n ≤ k → AtLeast k p q → AtLeast n p q
unfolding AtLeast
less n k p q h a = omega (arith, h, a)

more : (n k : ℕ) (p q : Position) → n ≤ k → AtMost (Some n) p q → AtMost (Some k) p q
unfolding AtMost
more n k p q h a = omega (arith, h, a)

row_low : (r : Row) (n : ℕ) (o : Option ℕ) (P Q : Parts) → ((p q : Position) → P p q → AtLeast n p q) →
    ((p q : Position) → Q p q → SomeLeast o p q) → (p q : Position) → MoreMatch r P Q p q → SomeLeast (row_least r n o) p q
unfolding SomeLeast
row_low label.concat n (Some j) P Q has have p q k =
    then_least n j p k.middle q (has p k.middle k.first) (have k.middle q k.second)
row_low label.concat n None P Q has have p q k = have k.middle q k.second
row_low label.alt n (Some j) P Q has have p q (inl k) = less (min n j) n p q (omega arith) (has p q k)
row_low label.alt n (Some j) P Q has have p q (inr k) = less (min n j) j p q (omega arith) (have p q k)
row_low label.alt n None P Q has have p q (inl k) = has p q k
row_low label.alt n None P Q has have p q (inr k) = absurd (have p q k)
row_low label.expression n o P Q has have p q k = absurd k
row_low label.conditional n o P Q has have p q k = absurd k

row_high : (r : Row) (o l : Option ℕ) (P Q : Parts) → ((p q : Position) → P p q → AtMost o p q) →
    ((p q : Position) → Q p q → AtMost l p q) → (p q : Position) → MoreMatch r P Q p q → AtMost (row_most r o l) p q
row_high label.concat (Some n) (Some j) P Q has have p q k =
    then_most n j p k.middle q (has p k.middle k.first) (have k.middle q k.second)
row_high label.concat (Some n) None P Q has have p q k = no_limit p q
row_high label.concat None l P Q has have p q k = no_limit p q
row_high label.alt (Some n) (Some j) P Q has have p q (inl k) = more n (max n j) p q (omega arith) (has p q k)
row_high label.alt (Some n) (Some j) P Q has have p q (inr k) = more j (max n j) p q (omega arith) (have p q k)
row_high label.alt (Some n) None P Q has have p q k = no_limit p q
row_high label.alt None l P Q has have p q k = no_limit p q
row_high label.expression o l P Q has have p q k = absurd k
row_high label.conditional o l P Q has have p q k = absurd k

or_zero_low : (o : Option ℕ) (p q : Position) → SomeLeast o p q → AtLeast (or_zero o) p q
unfolding SomeLeast
or_zero_low (Some n) p q k = k
or_zero_low None p q k = absurd k

-- ---- trees

fits_as : (P : Parts) (n m : ℕ) (o l : Option ℕ) → m ≡ n → l ≡ o → Fits P n o → Fits P m l
fits_as P n m o l e f h = record {
  low = λ p q k. subst (λ x. AtLeast x p q) (sym e) (h.low p q k);
  high = λ p q k. subst (λ x. AtMost x p q) (sym f) (h.high p q k);
}

row_fits_as : (P : Parts) (n m o l : Option ℕ) → m ≡ n → l ≡ o → RowFits P n o → RowFits P m l
row_fits_as P n m o l e f h = record {
  low = λ p q k. subst (λ x. SomeLeast x p q) (sym e) (h.low p q k);
  high = λ p q k. subst (λ x. AtMost x p q) (sym f) (h.high p q k);
}

mutual
  -- a part that a tree matches has as many bytes as the tree is long
  pub long_fits : (u : Bool) (s : Assertions) (t : Tree) (n : ℕ) (o : Option ℕ) → IsLong u t n o → Fits (Matches u s t) n o
  long_fits u s (leaf l) n o h = leaf_fits u s l n o h
  long_fits u s (over w t) n o h =
      fits_as (Matches u s (over w t)) (wrap_least w h.0) n (wrap_most w h.1) o h.3 h.4
      (wrap_fits w (Matches u s t) h.0 h.1 (long_fits u s t h.0 h.1 h.2))
  long_fits u s (row r ts) n o h =
      let k = row_long_fits u s r ts h.0 o h.1 in
      fits_as (Matches u s (row r ts)) (or_zero h.0) n o o h.2 refl
      (record { low = λ p q m. or_zero_low h.0 p q (k.low p q m); high = λ p q m. k.high p q m })

  row_long_fits : (u : Bool) (s : Assertions) (r : Row) (ts : Trees) (n o : Option ℕ) → AreLong u r ts n o →
      RowFits (RowMatches u s r ts) n o
  row_long_fits u s r no_trees n o h =
      row_fits_as (RowMatches u s r no_trees) (least_of_none r) n (Some 0) o h.0 h.1
      (record { low = λ p q k. none_low r p q k; high = λ p q k. none_high r p q k })
  row_long_fits u s r (more_trees t ts) n o h =
      let a = long_fits u s t h.0 h.1 h.4 in
      let b = row_long_fits u s r ts h.2 h.3 h.5 in
      row_fits_as (RowMatches u s r (more_trees t ts)) (row_least r h.0 h.2) n (row_most r h.1 h.3) o h.6 h.7
      (record {
        low = λ p q k. row_low r h.0 h.2 (Matches u s t) (RowMatches u s r ts) a.low b.low p q k;
        high = λ p q k. row_high r h.1 h.3 (Matches u s t) (RowMatches u s r ts) a.high b.high p q k;
      })
