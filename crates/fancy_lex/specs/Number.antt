-- Numbers: all the ASCII digits at the front.
use Rattle.std.specs.Prelude.{◌≡◌, ℕ, ◌+◌, ◌*◌, ◌-◌, ◌^◌, ◌≤◌, Bool, false, if◌then◌else◌, [], ◌∷◌, Option, Some, None}
use Rattle.std.specs.Prelude.{MatchOption}
use Rattle.std.specs.Char.{is_ascii_digit}
use Prim.Native.Char.{code}
use Rattle.fancy_lex.specs.Text.{Text}

-- the character of a digit
abbrev pub digit_code : ℕ → ℕ
digit_code d = d + code "0"

-- the number written by the digits of n and then all the digits at the front, and the text after them
unfoldable pub run : ℕ → Text → ℕ × Text
run n [] = (n, [])
run n (c ∷ t) = if is_ascii_digit c then run (n * 10 + (c - code "0")) t else (n, c ∷ t)

-- `r` is n if it fits in a word, and None otherwise
abbrev pub IsWord : Option ℕ → ℕ → Type 0
IsWord r n = MatchOption r (2 ^ 64 ≤ n) (λ m. m ≡ n)

-- whether the text begins with a digit
abbrev pub at_digit : Text → Bool
at_digit [] = false
at_digit (c ∷ t) = is_ascii_digit c

-- a number is one or more digits, all those at the front: its value, and the text after it
unfoldable pub number : Text → Option (ℕ × Text)
number t = if at_digit t then Some (run 0 t) else None
