-- Lengths of matches in bytes of UTF-8: put together as those in characters, from those of the characters that leaves
-- match.
use Rattle.std.specs.Prelude.{◌≡◌, ℕ, ◌≤◌, Bool, ◌⊎◌, Option, None, Some}
use Rattle.std.specs.Char.{len_utf8}
use Rattle.fancy_grammar.specs.Label as label
use Rattle.fancy_grammar.specs.Label.{Leaf, Row}
use Rattle.fancy_grammar.specs.Tree.{Tree, Trees, leaf, over, row, no_trees, more_trees, any, literal, delegate}
use Rattle.pattern_matches.specs.Defined.{IsOneCharacter}
use Rattle.pattern_matches.specs.Lengths.{wrap_least, wrap_most, row_least, row_most, least_of_none, or_zero}
use Rattle.pattern_matches.specs.Matches.{HasCharacter}
use Rattle.pattern_facts.specs.Lengths.{AreLengths}
use Rattle.pattern_facts.specs.declared.lengths.Lengths.{Lengths}

-- some character with the property has so many bytes
abbrev pub SomeHas : (ℕ → Type 0) → ℕ → Type 0
SomeHas Has n = (c : ℕ) × Has c × (len_utf8 c ≡ n)

-- Characters with the property have at least n bytes and at most m, and some have so many. If there is none, one byte
-- stands for both.
pub record AreBytesOfOne (Has : ℕ → Type 0) (n m : ℕ) : Type 0 where
  pub within : (c : ℕ) → Has c → (n ≤ len_utf8 c) × (len_utf8 c ≤ m)
  pub reached : (SomeHas Has n × SomeHas Has m) ⊎ (((c : ℕ) → Has c → ⊥) × (n ≡ 1) × (m ≡ 1))

-- the engine reads the node as one character, which has at least n bytes and at most m
abbrev pub IsCharacterOf : Bool → Tree → ℕ → ℕ → Type 0
IsCharacterOf unicode t n m = IsOneCharacter unicode t × AreBytesOfOne (HasCharacter unicode t) n m

abbrev pub IsOneLong : Bool → Tree → ℕ → Option ℕ → Type 0
IsOneLong unicode t n None = ⊥
IsOneLong unicode t n (Some m) = AreBytesOfOne (HasCharacter unicode t) n m

abbrev pub IsLeafLong : Bool → Leaf → ℕ → Option ℕ → Type 0
IsLeafLong unicode label.empty n o = (n ≡ 0) × (o ≡ Some 0)
IsLeafLong unicode (label.assertion a) n o = (n ≡ 0) × (o ≡ Some 0)
IsLeafLong unicode (label.any newline crlf) n o = IsOneLong unicode (any newline crlf) n o
IsLeafLong unicode (label.literal text casei) n o = IsOneLong unicode (literal text casei) n o
IsLeafLong unicode (label.delegate text casei) n o = IsOneLong unicode (delegate text casei) n o
IsLeafLong unicode _ n o = ⊥

abbrev mutual
  -- the tree's matches have at least n bytes, and at most so many as o says, if it says a number
  pub IsLong : Bool → Tree → ℕ → Option ℕ → Type 0
  IsLong unicode (leaf l) n o = IsLeafLong unicode l n o
  IsLong unicode (over w t) n o =
      (k : ℕ) × (m : Option ℕ) × IsLong unicode t k m × (n ≡ wrap_least w k) × (o ≡ wrap_most w m)
  IsLong unicode (row r ts) n o = (k : Option ℕ) × AreLong unicode r ts k o × (n ≡ or_zero k)

  pub AreLong : Bool → Row → Trees → Option ℕ → Option ℕ → Type 0
  AreLong unicode r no_trees n o = (n ≡ least_of_none r) × (o ≡ Some 0)
  AreLong unicode r (more_trees t ts) n o =
      (k : ℕ) × (m : Option ℕ) × (j : Option ℕ) × (l : Option ℕ) × IsLong unicode t k m × AreLong unicode r ts j l
      × (n ≡ row_least r k j) × (o ≡ row_most r m l)

-- these are the tree's lengths in bytes
abbrev pub AreBytes : Bool → Tree → Lengths → Type 0
AreBytes unicode t lengths = (n : ℕ) × (o : Option ℕ) × IsLong unicode t n o × AreLengths n o lengths
