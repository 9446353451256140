-- Lengths of matches, in characters or bytes.
use Rattle.std.specs.Prelude.{◌≡◌, ℕ, ◌+◌, ◌≤◌, ◌==◌, ⊤, Bool, false, min, nat_lt, if◌then◌else◌, Option, None, Some}
use Rattle.fancy_lex.specs.Quantifier.{most}
use Rattle.fancy_lex.specs.Text.{Text}
use Rattle.fancy_grammar.specs.Label as label
use Rattle.fancy_grammar.specs.Label.{Row}
use Rattle.pattern_matches.specs.Lengths.{row_most}
use Rattle.pattern_matches.specs.Parts.{Position}
use Rattle.pattern_facts.specs.declared.lengths.Lengths.{Lengths}
use Rattle.pattern_facts.specs.declared.lengths.MaxLength.{MaxLength}
use Rattle.pattern_facts.specs.declared.lengths.MaxLength.TheVariants.{AtMost, Unlimited}
use Rattle.pattern_facts.specs.declared.lengths.ListKind.{ListKind}
use Rattle.pattern_facts.specs.declared.lengths.ListKind.TheVariants as kind

-- a limit that a `usize` can hold, or none
abbrev pub limit_of : Option ℕ → MaxLength
limit_of (Some n) = if nat_lt most n then Unlimited else AtMost n
limit_of None = Unlimited

-- the lengths of a tree of which this is the least length and this the greatest, if there is one
abbrev pub AreLengths : ℕ → Option ℕ → Lengths → Type 0
AreLengths n o l = (l.min ≡ min n most) × (l.max ≡ limit_of o)

abbrev pub can_be_empty : Lengths → Bool
can_be_empty l = l.min == 0

abbrev pub is_exactly : MaxLength → ℕ → Bool
is_exactly (AtMost n) m = n == m
is_exactly Unlimited m = false

abbrev pub is_constant : Lengths → Bool
is_constant l = is_exactly l.max l.min

-- how long a text is: `length` counts its characters, and `bytes` its bytes in UTF-8
abbrev pub Measure : Type 0
Measure = Text → ℕ

-- the part from p to q is no longer than the limit
abbrev pub IsWithinMax : Measure → MaxLength → Position → Position → Type 0
IsWithinMax size (AtMost n) p q = size q.before ≤ size p.before + n
IsWithinMax size Unlimited p q = ⊤

-- the part from p to q is as long as the lengths say
abbrev pub IsWithin : Measure → Lengths → Position → Position → Type 0
IsWithin size l p q = (size p.before + l.min ≤ size q.before) × IsWithinMax size l.max p q

-- ---- lists of trees

abbrev pub row_of : ListKind → Row
row_of kind.Concat = label.concat
row_of kind.Alt = label.alt

-- the least length of one tree after or beside another
abbrev pub least_of_both : ListKind → ℕ → ℕ → ℕ
least_of_both kind.Concat a b = a + b
least_of_both kind.Alt a b = min a b

-- the third lengths are those of one tree of the first ones, after or beside one of the second ones
abbrev pub ArePut : ListKind → Lengths → Lengths → Lengths → Type 0
ArePut k l next put = (a b : ℕ) (m n : Option ℕ) → AreLengths a m l → AreLengths b n next →
    AreLengths (least_of_both k a b) (row_most (row_of k) m n) put
