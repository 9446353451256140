-- A repeat matches the same set, whether or not empty turns are taken after the least number of turns.
use Rattle.std.proofs.Common.{◌≡◌, ◌≢◌, ℕ, zero, suc, ◌+◌, ◌≤◌, ◌⊎◌, inl, inr, Bool, true, false, List, refl, sym, ap, subst, arith}
use Rattle.std.proofs.Common.{Decides, bytes_eq}
use Rattle.std.proofs.lemmas.Slice.Eq.{bytes_eq-Decides}
use Rattle.std.proofs.lemmas.Bool.{iff_false}
use Rattle.pattern_matches.specs.Parts.{Position, Parts, at, Then, Times, Repeated}
use Rattle.pattern_matches.specs.EngineTurns.{NotEmpty, EngineTurns}
use Rattle.pattern_matches.proofs.ReplaceLemmas.{times_within}

list_cases : (b : Bool) (xs ys : List ℕ) → Decides b (xs ≡ ys) → (xs ≡ ys) ⊎ (xs ≢ ys)
list_cases true xs ys h = inl (h.0 refl)
list_cases false xs ys h = inr (λ e. iff_false h refl e)

same_list : (xs ys : List ℕ) → (xs ≡ ys) ⊎ (xs ≢ ys)
same_list xs ys = list_cases (bytes_eq xs ys) xs ys (bytes_eq-Decides xs ys)

same_position : (p q : Position) → (p ≡ q) ⊎ (p ≢ q)
same_position p q = elim (same_list p.before q.before) [
  | inl b ↦ elim (same_list p.after q.after)
      [ inl a ↦ inl (λ i. at (b i) (a i)) | inr n ↦ inr (λ e. n (ap (λ x. x.after) e)) ]
  | inr n ↦ inr (λ e. n (ap (λ x. x.before) e))
]

-- those of n turns that are not empty
record Moving (P : Parts) (n : ℕ) (p q : Position) : Type 0 where
  count : ℕ
  few : count ≤ n
  turns : Times (NotEmpty P) count p q

-- a turn before those
one_more : (P : Parts) (n : ℕ) (p r q : Position) → P p r → Moving P n r q → (p ≡ r) ⊎ (p ≢ r) → Moving P (suc n) p q
one_more P n p r q k s (inl e) =
    record { count = s.count; few = omega arith; turns = subst (λ x. Times (NotEmpty P) s.count x q) (sym e) s.turns }
one_more P n p r q k s (inr ne) =
    record { count = suc s.count; few = omega arith; turns = record { middle = r; first = (k, ne); second = s.turns } }

moving : (P : Parts) (n : ℕ) (p q : Position) → Times P n p q → Moving P n p q
moving P zero p q k = record { count = zero; few = omega arith; turns = k }
moving P (suc n) p q k = one_more P n p k.middle q k.first (moving P n k.middle q k.second) (same_position p k.middle)

-- n turns, of which lo come first
record Split (P : Parts) (lo n : ℕ) (p q : Position) : Type 0 where
  rest : ℕ
  is : lo + rest ≡ n
  turns : Then (Times P lo) (Times P rest) p q

split : (P : Parts) (lo n : ℕ) (p q : Position) → lo ≤ n → Times P n p q → Split P lo n p q
split P zero n p q h k = record { rest = n; is = omega arith; turns = record { middle = p; first = refl; second = k } }
split P (suc lo) zero p q h k = absurd (omega arith)
split P (suc lo) (suc n) p q h k =
    let s : Split P lo n k.middle q = split P lo n k.middle q (omega arith) k.second in
    let e : lo + s.rest ≡ n = s.is in
    record {
      rest = s.rest;
      is = omega arith;
      turns = record {
        middle = s.turns.middle;
        first = record { middle = k.middle; first = k.first; second = s.turns.first };
        second = s.turns.second;
      };
    }

record Joined (P : Parts) (n : ℕ) (p q : Position) : Type 0 where
  count : ℕ
  is : count ≡ n
  turns : Times P count p q

join : (P : Parts) (a b : ℕ) (p r q : Position) → Times P a p r → Times P b r q → Joined P (a + b) p q
join P zero b p r q k l = record { count = b; is = omega arith; turns = subst (λ x. Times P b x q) (sym k) l }
join P (suc a) b p r q k l =
    let s : Joined P (a + b) k.middle q = join P a b k.middle r q k.second l in
    let e : s.count ≡ a + b = s.is in
    record {
      count = suc s.count;
      is = omega arith;
      turns = record { middle = k.middle; first = k.first; second = s.turns };
    }

-- what an engine matches that takes no empty turn after the least number of turns, the repeat matches
pub taken : (P : Parts) (lo hi : ℕ) (p q : Position) → EngineTurns P lo hi p q → Repeated P lo hi p q
taken P lo hi p q k =
    let s : Joined P (lo + k.more) p q = join P lo k.more p k.turns.middle q k.turns.first
    (times_within (NotEmpty P) P (λ p q h. h.0) k.more k.turns.middle q k.turns.second) in
    let e : s.count ≡ lo + k.more = s.is in
    record {
      count = s.count;
      enough = omega arith;
      few = λ h. let f : lo + k.more ≤ hi = k.few h in omega arith;
      turns = s.turns;
    }

-- and the engine matches all that the repeat does
pub all_taken : (P : Parts) (lo hi : ℕ) (p q : Position) → Repeated P lo hi p q → EngineTurns P lo hi p q
all_taken P lo hi p q k =
    let s : Split P lo k.count p q = split P lo k.count p q k.enough k.turns in
    let e : lo + s.rest ≡ k.count = s.is in
    let l : Moving P s.rest s.turns.middle q = moving P s.rest s.turns.middle q s.turns.second in
    let b : l.count ≤ s.rest = l.few in
    record {
      more = l.count;
      few = λ h. let f : k.count ≤ hi = k.few h in omega arith;
      turns = record { middle = s.turns.middle; first = s.turns.first; second = l.turns };
    }
