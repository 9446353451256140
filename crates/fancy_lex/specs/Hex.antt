-- Hex codes after `\x`, `\u` and `\U`.
use Rattle.std.specs.Prelude.{ℕ, zero, suc, ◌+◌, ◌*◌, Bool, true, false, not, ◌&&◌, ◌||◌, ◌==◌, nat_lt, nat_le}
use Rattle.std.specs.Prelude.{if◌then◌else◌, [], ◌∷◌, Option, Some, None, option_and_then}
use Rattle.std.specs.Char.{digit_value}
use Prim.Native.Char.{code}
use Rattle.fancy_lex.specs.declared.flags.Flags.{Flags}
use Rattle.fancy_lex.specs.Escaped.{Escape, literal, literal_bytes}
use Rattle.fancy_lex.specs.ErrorTable.{code_not_read, code_of_no_character}
use Rattle.fancy_lex.specs.LayoutSteps.{layout}
use Rattle.fancy_lex.specs.Reading.{Reading, gives, fails, ◌>=>◌, choose, layout_reading}
use Rattle.fancy_lex.specs.Text.{Text, strip, reach_of}

-- the value of the digit at the front, in either case, and the rest of the text
unfoldable pub hex_digit : Text → Option (ℕ × Text)
hex_digit [] = None
hex_digit (c ∷ t) = if nat_lt (digit_value c) 16 then Some (digit_value c, t) else None

-- exactly k digits at the front, after those of the value v: the value of all of them, and the text after them
unfoldable pub fixed_digits : ℕ → ℕ → Text → Option (ℕ × Text)
fixed_digits zero v t = Some (v, t)
fixed_digits (suc k) v t = option_and_then (λ p. fixed_digits k (v * 16 + p.0) p.1) (hex_digit t)

-- the closing brace after the value v, if a digit was read before it
abbrev pub closing_brace : ℕ → Bool → ℕ → Option Text → Reading ℕ
closing_brace h true v (Some t) = gives v t
closing_brace h _ _ _ = fails (code_not_read h)

-- whether a character has this code: it is no surrogate, and not above the last character
abbrev pub is_scalar : ℕ → Bool
is_scalar v = nat_lt v 0xD800 || (nat_lt 0xDFFF v && nat_lt v 0x110000)

-- the code begins at the reach h; if x is true, blanks are layout
module _ (x : Bool) (h : ℕ) where
  -- up to k digits, each with layout after it, and the closing brace; v is the value of the digits before them, and
  -- `some` says whether there were any
  unfoldable pub hex_digits : ℕ → Bool → ℕ → Text → Reading ℕ
  hex_digits zero some v t = closing_brace h some v (strip (code "}") t)
  hex_digits (suc k) some v t =
      choose (hex_digit t)
      (λ p. layout_reading (layout x p.1) >=> (λ _ u. hex_digits k true (v * 16 + p.0) u))
      (closing_brace h some v (strip (code "}") t))

  -- one to eight digits in braces, with layout before, between and after them: their value
  unfoldable pub braced_value : Text → Reading ℕ
  braced_value t = layout_reading (layout x t) >=> (λ _ u. hex_digits 8 false 0 u)

  -- a code is exactly `width` digits, or one in braces if there are fewer digits: its value
  unfoldable pub value : ℕ → Text → Reading ℕ
  value width t =
      choose (fixed_digits width 0 t) (λ p. gives p.0 p.1)
      (choose (strip (code "{") t) braced_value (fails (code_not_read h)))

-- the leaf of the value v: after `\x`, whose width is 2, and without UNICODE, a byte if v is from 80 to FF; otherwise
-- the character of this code
unfoldable pub leaf_of_value : Flags → ℕ → ℕ → ℕ → Text → Reading Escape
leaf_of_value f width h v t =
    if width == 2 && not f.unicode && nat_le 0x80 v && nat_le v 0xFF then gives (literal_bytes v) t
    else if is_scalar v then gives (literal v f.casei) t
    else fails (code_of_no_character h)

-- layout and a code after the letter: the leaf of the code's value
unfoldable pub hex : Flags → ℕ → Text → Reading Escape
hex f width t =
    layout_reading (layout f.ignore_space t) >=> (λ _ u.
    value f.ignore_space (reach_of u) width u >=> leaf_of_value f width (reach_of u))
