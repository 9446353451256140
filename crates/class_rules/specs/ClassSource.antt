-- Classes as a pattern has them, from their opening bracket through their last one.
use Rattle.std.specs.Prelude.{◌≡◌, ℕ, ◌+◌, Bool, List, [], ◌∷◌, ◌++◌, length, codes}
use Prim.Native.Char.{code}
use Rattle.fancy_lex.specs.Class.{class}
use Rattle.fancy_lex.specs.Reading.{gives}
use Rattle.fancy_lex.specs.Text.{Text}
use Rattle.fancy_lex.specs.declared.flags.Flags.{Flags}
use Rattle.fancy_syntax.specs.declared.span.Span.{Span}
use Rattle.class_meaning.specs.CharacterSet.{has_character}
use Rattle.class_meaning.specs.ClassMeaning.{class_config, IsMeaningOf}
use Rattle.class_meaning.specs.declared.character_set.CharacterSet.{CharacterSet}
use Rattle.class_meaning.specs.declared.class_text.ClassMeaning.TheVariants.{Characters}

-- the source is a class, for which the parser writes the text
abbrev pub IsWrittenAs : Flags → Text → Text → Type 0
IsWrittenAs f source text = (inside : Text) × (source ≡ code "[" ∷ inside) × (class f inside ≡ gives text [])

-- the source is a class, which the engine reads as these characters
abbrev pub HasCharacters : Flags → Bool → Text → CharacterSet → Type 0
HasCharacters f casei source set =
    (text : Text) × IsWrittenAs f source text × IsMeaningOf (class_config f.unicode casei) text (Characters set)

-- the sources are classes of the same characters
abbrev pub SameCharacters : Flags → Bool → Text → Text → Type 0
SameCharacters f casei source other =
    (s r : CharacterSet) × HasCharacters f casei source s × HasCharacters f casei other r
    × ((c : ℕ) → has_character s c ≡ has_character r c)

-- the text, in bytes, is the three one after another, and the span is that of the second
abbrev pub IsCutAt : Span → List ℕ → List ℕ → List ℕ → List ℕ → Type 0
IsCutAt span text before part after =
    (text ≡ before ++ (part ++ after)) × (length before ≡ span.start) × (length before + length part ≡ span.end)

-- the text has this part at the span
abbrev pub IsTextAt : List ℕ → Span → List ℕ → Type 0
IsTextAt text span part = (before after : List ℕ) × IsCutAt span text before part after

-- the span is that of the whole text
abbrev pub IsAll : List ℕ → Span → Type 0
IsAll text span = (span.start ≡ 0) × (span.end ≡ length text)

-- what is left of the text without the part at the span
abbrev pub LeavesOut : List ℕ → Span → List ℕ → Type 0
LeavesOut text span kept =
    (before part after : List ℕ) × IsCutAt span text before part after × (kept ≡ before ++ after)

-- the part at the span in brackets of its own
abbrev pub IsInBrackets : List ℕ → Span → List ℕ → Type 0
IsInBrackets text span alone =
    (before part after : List ℕ) × IsCutAt span text before part after × (alone ≡ codes "[" ++ (part ++ codes "]"))
