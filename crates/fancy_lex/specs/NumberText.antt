-- Number texts: whole texts that write a number.
use Rattle.std.specs.Prelude.{ℕ, ◌^◌, Bool, true, false, ◌&&◌, nat_lt, if◌then◌else◌, [], ◌∷◌, Option, Some, None}
use Rattle.std.specs.Prelude.{unwrap_or}
use Rattle.std.specs.Option.{option_and_then}
use Prim.Native.Char.{code}
use Rattle.fancy_lex.specs.Number.{number}
use Rattle.fancy_lex.specs.Text.{Text, strip}

-- whether the text is empty
abbrev pub is_nothing : Text → Bool
is_nothing [] = true
is_nothing (c ∷ t) = false

-- the number, if it fits in a word and no text is left after it
abbrev pub number_alone : ℕ × Text → Option ℕ
number_alone p = if is_nothing p.1 && nat_lt p.0 (2 ^ 64) then Some p.0 else None

-- the value of the number, if it is the whole text and fits in a word
unfoldable pub whole_number : Text → Option ℕ
whole_number t = option_and_then number_alone (number t)

-- the value of a number text, which is a number that fits in a word, with or without a plus before it
unfoldable pub number_text : Text → Option ℕ
number_text t = whole_number (unwrap_or (strip (code "+") t) t)
