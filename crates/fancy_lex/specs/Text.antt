-- Texts as lists of characters, and positions in them.
use Rattle.std.specs.Prelude.{◌≡◌, ℕ, ◌+◌, ◌-◌, List, [], ◌∷◌, ◌++◌, chars, string_bytes, String, Option, Some, None}
use Rattle.std.specs.Prelude.{option_and_then, option_map, if◌then◌else◌, ◌==◌}
use Rattle.std.specs.Char.{len_utf8}
use Rattle.std.specs.declared.alloc.Global.{Global}

-- the characters of a text, by their codes
abbrev pub Text : Type 0
Text = List ℕ

-- the characters of a string
abbrev pub text_of : String Global → Text
text_of s = chars (string_bytes s)

-- the length in bytes
unfoldable pub bytes : Text → ℕ
bytes [] = 0
bytes (c ∷ t) = len_utf8 c + bytes t

-- the reach of the position where `t` begins: the number of bytes from there to one past the end of the pattern; `t` is
-- a suffix of the pattern
abbrev pub reach_of : Text → ℕ
reach_of t = bytes t + 1

-- the reach of the end of a pattern
abbrev pub at_end : ℕ
at_end = 1

-- the reach of one past the end of a pattern
abbrev pub past_end : ℕ
past_end = 0

-- the position with this reach in a pattern of n bytes
abbrev pub position_at : ℕ → ℕ → ℕ
position_at n reach = n + 1 - reach

-- p is the position of this reach in a pattern of n bytes: the reach and the bytes before p add up to n + 1
abbrev pub IsPositionOf : ℕ → ℕ → ℕ → Type 0
IsPositionOf n reach p = p + reach ≡ n + 1

-- the text after the character, if the text begins with it
abbrev pub strip : ℕ → Text → Option Text
strip delimiter [] = None
strip delimiter (c ∷ t) = if c == delimiter then Some t else None

-- the text after the word, if the text begins with it
abbrev pub strip_word : Text → Text → Option Text
strip_word [] t = Some t
strip_word (c ∷ w) t = option_and_then (strip_word w) (strip c t)

-- the text before the first occurrence of the character, and the text after it
abbrev pub cut_at : ℕ → Text → Option (Text × Text)
cut_at delimiter [] = None
cut_at delimiter (c ∷ t) = if c == delimiter then Some ([], t) else option_map (λ p. (c ∷ p.0, p.1)) (cut_at delimiter t)

-- the text ends with the other
abbrev pub EndsWith : Text → Text → Type 0
EndsWith t end = (w : Text) × (t ≡ w ++ end)

-- the text begins with the other
abbrev pub BeginsWith : Text → Text → Type 0
BeginsWith t front = (w : Text) × (t ≡ front ++ w)

-- the reach of an error in a pattern that ends with t: the reach `given`, that of a suffix of t, or that of one past the
-- end
pub data LiesIn (given : ℕ) (t : Text) (reach : ℕ) : Type 0 where
  as_given : reach ≡ given → LiesIn given t reach
  begins : (u : Text) → EndsWith t u → reach ≡ reach_of u → LiesIn given t reach
  beyond : reach ≡ past_end → LiesIn given t reach
