-- Branches that match one character.
use Rattle.std.specs.Prelude.{ℕ, Bool, IsSomeAnd, IsTrue}
use Rattle.fancy_grammar.specs.Tree.{Tree}
use Rattle.class_meaning.specs.CharacterSet.{has_character}
use Rattle.class_meaning.specs.ClassMeaning.{IsMeaningOf}
use Rattle.class_meaning.specs.EnginePattern.{engine_pattern}
use Rattle.class_meaning.specs.declared.character_set.CharacterSet.{CharacterSet}
use Rattle.class_meaning.specs.declared.class_text.ClassMeaning.TheVariants.{Characters}

-- the tree matches one of these characters, and nothing else
abbrev pub MatchesOne : Bool → Tree → CharacterSet → Type 0
MatchesOne unicode t set = IsSomeAnd (engine_pattern unicode t) (λ (config, text). IsMeaningOf config text (Characters set))

-- each of the two matches one character, and each character of the one is a character of the other
abbrev pub IsSubsumed : Bool → Tree → Tree → Type 0
IsSubsumed unicode t u = (s r : CharacterSet) × MatchesOne unicode t s × MatchesOne unicode u r
    × ((c : ℕ) → IsTrue (has_character s c) → IsTrue (has_character r c))
