-- What is written in the place of a pattern.
use Rattle.std.specs.Prelude.{◌≡◌, ◌==◌, ◌&&◌, not, ℕ, Bool, false, List, [], ◌∷◌, ◌++◌}
use Rattle.std.specs.List.{starts_with}
use Prim.Native.Char.{code}
use Rattle.json.specs.Lex.{tokens}
use Rattle.json.specs.Token as json
use Rattle.pattern_files.specs.Line.{breaks_line}
use Rattle.pattern_files.specs.declared.spelling.SpelledIn.{SpelledIn}
use Rattle.pattern_files.specs.declared.spelling.SpelledIn.TheVariants.{Line, Lines, Json}

-- a string of JSON with these contents is read as the text
abbrev pub IsJsonOf : List ℕ → List ℕ → Type 0
IsJsonOf contents w = tokens (code "\"" ∷ contents ++ code "\"" ∷ []) ≡ json.string w ∷ []

-- whether the bytes begin with the UTF-8 of U+FEFF
abbrev pub has_bom : List ℕ → Bool
has_bom w = starts_with (λ a b. a == b) w (0xEF ∷ 0xBB ∷ 0xBF ∷ [])

-- whether the text begins with a byte order mark, and the pattern does not
abbrev pub begins_with_bom : List ℕ → List ℕ → Bool
begins_with_bom w pattern = has_bom w && not (has_bom pattern)

-- the spelling is read as the text, in the place of the pattern
abbrev pub IsSpelled : SpelledIn → List ℕ → List ℕ → List ℕ → Type 0
IsSpelled Json pattern w spelling = IsJsonOf spelling w
IsSpelled Lines pattern w spelling = (spelling ≡ w) × (begins_with_bom w pattern ≡ false)
IsSpelled Line pattern w spelling =
    (spelling ≡ w) × (begins_with_bom w pattern ≡ false) × (breaks_line w pattern ≡ false)
