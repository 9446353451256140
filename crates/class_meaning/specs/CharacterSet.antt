-- The characters of a set.
use Rattle.std.specs.Prelude.{ℕ, Bool}
use Rattle.regex_class.specs.Ranges.{in_ranges}
use Rattle.class_meaning.specs.declared.character_set.CharacterSet.{CharacterSet}

-- the character is in the set
abbrev pub has_character : CharacterSet → ℕ → Bool
has_character set c = in_ranges set.class.ranges.items c
