-- Letters that were parsed, one after another.
use Rattle.std.specs.Prelude.{ℕ, ◌==◌, Bool, false, not, [], ◌∷◌, Option, Some, None, option_and_then, unwrap_or}
use Rattle.std.specs.Prelude.{if◌then◌else◌}
use Prim.Native.Char.{code}
use Rattle.fancy_lex.specs.Characters.{◌∈◌}
use Rattle.fancy_lex.specs.LayoutSteps.{past_layout}
use Rattle.fancy_lex.specs.Text.{Text}
use Rattle.fancy_lex.specs.declared.flags.Flags.{Flags}
use Rattle.fancy_lex.specs.FlagLetters.{with_letter}

-- a letter, whether it sets its flag or clears it, the flags after it, and the text after it
abbrev pub FlagLetter : Type 0
FlagLetter = ℕ × Bool × Flags × Text

-- the letter at the front; None at the parenthesis or the colon that ends the letters
abbrev pub letter_at : Bool → Flags → Text → Option FlagLetter
letter_at sets f [] = None
letter_at sets f (c ∷ t) = if c ∈ "):" then None else Some (c, sets, unwrap_or (with_letter f sets c) f, t)

-- the letter at the front, or after a minus sign and layout
abbrev pub letter_or_minus : Bool → Flags → Text → Option FlagLetter
letter_or_minus clears f [] = None
letter_or_minus clears f (c ∷ t) =
    if c == code "-" then option_and_then (letter_at false f) (past_layout f.ignore_space t)
    else letter_at (not clears) f (c ∷ t)

-- the next letter, after layout and the minus sign, if one is there; after a minus sign letters clear their flags
abbrev pub next_letter : Bool → Flags → Text → Option FlagLetter
next_letter clears f t = option_and_then (letter_or_minus clears f) (past_layout f.ignore_space t)
