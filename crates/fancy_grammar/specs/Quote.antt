-- The text that a character, a number or a quantifier is printed as.
use Rattle.std.specs.Prelude.{◌≡◌, ℕ, Bool, ◌==◌, ◌&&◌, if◌then◌else◌, Option, Some, None}
use Rattle.std.specs.Prelude.{[], ◌∷◌, ◌++◌, codes, decimal}
use Rattle.std.specs.List.{flat_map}
use Prim.Native.Char.{code}
use Rattle.fancy_lex.specs.Characters.{is_among, ◌∈◌, metacharacters}
use Rattle.fancy_lex.specs.Escape.{letter_of}
use Rattle.fancy_lex.specs.Text.{Text}
use Rattle.fancy_lex.specs.Quantifier.{most}

-- whether the character is a literal only after a backslash
abbrev pub needs_backslash : ℕ → Bool
needs_backslash c = is_among c (metacharacters ++ codes "]}#")

-- what is written after a backslash for a character, if it is not written as itself
abbrev pub after_backslash : ℕ → Option ℕ
after_backslash c =
    if c ∈ "\n\t\r" then letter_of c
    else if needs_backslash c then Some c
    else None

-- with a backslash before it, or as itself
abbrev pub quote_as : ℕ → Option ℕ → Text
quote_as c None = c ∷ []
quote_as c (Some b) = code "\\" ∷ b ∷ []

-- a character
unfoldable pub quote : ℕ → Text
quote c = quote_as c (after_backslash c)

-- the characters of a text, one by one
abbrev pub quotes : Text → Text
quotes = flat_map quote

-- the text before the rest is printed unchanged
abbrev pub AreUnquoted : Text → Text → Type 0
AreUnquoted t rest = (front : Text) × (t ≡ front ++ rest) × (quotes front ≡ front)

-- the text in the braces of a quantifier
unfoldable pub range : ℕ → ℕ → Text
range lo hi =
    if lo == hi then decimal lo
    else if hi == most then decimal lo ++ codes ","
    else decimal lo ++ (codes "," ++ decimal hi)

-- the operator for a least and a greatest count
unfoldable pub operator : ℕ → ℕ → Option ℕ
operator lo hi =
    if (lo == 0) && (hi == 1) then Some (code "?")
    else if (lo == 0) && (hi == most) then Some (code "*")
    else if (lo == 1) && (hi == most) then Some (code "+")
    else None

-- the operator, or the counts in braces
abbrev pub counts_as : ℕ → ℕ → Option ℕ → Text
counts_as lo hi (Some m) = m ∷ []
counts_as lo hi None = codes "{" ++ (range lo hi ++ codes "}")

-- the least and the greatest count
unfoldable pub counts_text : ℕ → ℕ → Text
counts_text lo hi = counts_as lo hi (operator lo hi)

-- a quantifier
abbrev pub quantifier : ℕ → ℕ → Bool → Text
quantifier lo hi greedy = counts_text lo hi ++ (if greedy then [] else codes "?")
