-- What the facts of a tree say of its matches.
use Rattle.std.proofs.Common.{◌≡◌, ℕ, ◌+◌, ◌≤◌, Bool, true, false, ◌==◌, List, [], ◌∷◌, length, min, Option, None, Some, ap, eqb-true, arith}
use Rattle.std.specs.List.{AllZip}
use Rattle.std.proofs.lemmas.Bool.{eqb-false}
use Rattle.fancy_lex.specs.Quantifier.{most}
use Rattle.fancy_lex.specs.Text.{bytes}
use Rattle.fancy_grammar.specs.Tree.{Tree}
use Rattle.pattern_matches.specs.Lengths.{min_length, max_length}
use Rattle.pattern_matches.specs.Matches.{Assertions, Matches}
use Rattle.pattern_matches.specs.Parts.{Position}
use Rattle.pattern_matches.proofs.LeastLemmas.{least}
use Rattle.pattern_matches.proofs.MostLemmas.{greatest}
use Rattle.pattern_facts.specs.Anchors as side
use Rattle.pattern_facts.specs.Bytes.{AreBytes}
use Rattle.pattern_facts.specs.Known.{AreLongAs, HasFacts, IsFactsOf, IsKnownAs, IsRowOf}
use Rattle.pattern_facts.specs.Lengths.{AreLengths, IsWithin, IsWithinMax, Measure, is_exactly, limit_of}
use Rattle.pattern_facts.proofs.AnchorLemmas.{anchored_lie}
use Rattle.pattern_facts.proofs.BytesLemmas.{at_least, at_most, long_fits}
use Rattle.pattern_facts.proofs.LimitLemmas.{value_of}
use Rattle.pattern_facts.specs.declared.lengths.Lengths.{Lengths}
use Rattle.pattern_facts.specs.declared.lengths.MaxLength.{MaxLength}
use Rattle.pattern_facts.specs.declared.lengths.MaxLength.TheVariants.{AtMost, Unlimited}
use Rattle.pattern_facts.specs.declared.node_facts.Facts.{Facts}

-- ---- within the lengths of n and o

-- the part from p to q has at least so many, and at most so many, if that is a number
record IsInside (size : Measure) (n : ℕ) (o : Option ℕ) (p q : Position) : Type 0 where
  low : size p.before + n ≤ size q.before
  high : (m : ℕ) → o ≡ Some m → size q.before ≤ size p.before + m

within_max : (size : Measure) (o : Option ℕ) (m : MaxLength) (p q : Position) → m ≡ limit_of o →
    ((n : ℕ) → o ≡ Some n → size q.before ≤ size p.before + n) → IsWithinMax size m p q
within_max size o (AtMost n) p q is f = f n (value_of o n is)
within_max size o Unlimited p q is f = tt

within : (size : Measure) (n : ℕ) (o : Option ℕ) (l : Lengths) (p q : Position) → AreLengths n o l →
    IsInside size n o p q → IsWithin size l p q
within size n o l p q is k =
    let low = k.low in
    let e : l.min ≡ min n most = is.0 in
    (omega (arith, low, e), within_max size o l.max p q is.1 k.high)

-- one length
exact : (size : Measure) (m : MaxLength) (n : ℕ) (p q : Position) → is_exactly m n ≡ true →
    size p.before + n ≤ size q.before → IsWithinMax size m p q → size q.before ≡ size p.before + n
exact size (AtMost k) n p q is low high = let e : k ≡ n = eqb-true k n is in omega (arith, e, low, high)
exact size Unlimited n p q is low high = let e = is in cc

long_as : (u : Bool) (t : Tree) (size : Measure) (n : ℕ) (o : Option ℕ) (l : Lengths) → AreLengths n o l →
    ((s : Assertions) (p q : Position) → Matches u s t p q → IsInside size n o p q) → AreLongAs u t size l
long_as u t size n o l is f = record {
  within = λ s p q k. within size n o l p q is (f s p q k);
  constant = λ one s p q k.
      let inside = within size n o l p q is (f s p q k) in
      exact size l.max l.min p q one inside.0 inside.1;
}

-- ---- the facts

characters_long : (u : Bool) (t : Tree) (l : Lengths) → AreLengths (min_length t) (max_length t) l →
    AreLongAs u t length l
characters_long u t l is = long_as u t length (min_length t) (max_length t) l is
    (λ s p q k. record { low = least u s t p q k; high = λ n e. greatest u s t n p q e k })

bytes_long : (u : Bool) (t : Tree) (l : Lengths) → AreBytes u t l → AreLongAs u t bytes l
bytes_long u t l is = long_as u t bytes is.0 is.1 l is.3
    (λ s p q k.
    let f = long_fits u s t is.0 is.1 is.2 in
    record {
      low = at_least is.0 p q (f.low p q k);
      high = λ n e. at_most is.1 n p q e (f.high p q k);
    })

positive : (n : ℕ) → (n == 0) ≡ false → (n ≡ 0 → ⊥)
positive n h = eqb-false n 0 h

pub known_facts : (u : Bool) (t : Tree) (f : Facts) → IsKnownAs u t f → HasFacts u t f
known_facts u t f known =
    let long = characters_long u t f.characters known.characters in
    record {
      known = known;
      characters = long;
      bytes = bytes_long u t f.bytes known.bytes;
      not_empty = λ some s p q k same.
          let low = (long.within s p q k).0 in
          let e = ap (λ (x : Position). length x.before) same in
          positive f.characters.min some (omega (arith, low, e));
      start = anchored_lie side.front u t f.is_anchored_at_start known.start;
      end = anchored_lie side.back u t f.is_anchored_at_end known.end;
    }

pub row_of_facts : (u : Bool) (t : Tree) (o : Option Facts) → IsFactsOf u t o → IsRowOf u t o
row_of_facts u t None h = h
row_of_facts u t (Some f) h = known_facts u t f h

pub rows_of_facts : (u : Bool) (ts : List Tree) (os : List (Option Facts)) → AllZip (IsFactsOf u) ts os →
    AllZip (IsRowOf u) ts os
rows_of_facts u [] [] h = tt
rows_of_facts u [] (o ∷ os) h = absurd h
rows_of_facts u (t ∷ ts) [] h = absurd h
rows_of_facts u (t ∷ ts) (o ∷ os) h = (row_of_facts u t o h.0, rows_of_facts u ts os h.1)
