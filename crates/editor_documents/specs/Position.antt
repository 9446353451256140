-- Positions in texts: how many lines are before, and how many units of the line are.
use Rattle.std.specs.Prelude.{ℕ, ◌-◌, zero, suc, Bool, ◌||◌, ◌&&◌, ◌==◌, nat_lt, nat_le, List, [], ◌∷◌, Option, Some, None, option_and_then, unwrap_or}
use Rattle.std.specs.Prelude.{if◌then◌else◌}
use Rattle.std.specs.Char.{len_utf8}
use Prim.Native.Char.{code}
use Rattle.editor_documents.specs.declared.position.Encoding.{Encoding}
use Rattle.editor_documents.specs.declared.position.Encoding.TheVariants.{Utf8, Utf16}
use Rattle.editor_documents.specs.declared.position.Position.{Position}

-- the characters of a text, by their codes
abbrev pub Text : Type 0
Text = List ℕ

-- the units that a character takes: in UTF-16 two for those above U+FFFF
abbrev pub units : Encoding → ℕ → ℕ
units Utf8 c = len_utf8 c
units Utf16 c = if nat_lt c 0x1_0000 then 1 else 2

-- a line ends with LF, CR, or CR LF
abbrev pub ends_line : ℕ → Bool
ends_line c = (c == code "\n") || (c == code "\r")

-- a text without the LF that it begins with, if it does
abbrev pub after_line_feed : Text → Text
after_line_feed [] = []
after_line_feed (c ∷ t) = if c == code "\n" then t else c ∷ t

-- the text after its first line, if it has another
unfoldable pub next_line : Text → Option Text
next_line [] = None
next_line (c ∷ t) = if c == code "\n" then Some t else if c == code "\r" then Some (after_line_feed t) else next_line t

-- the text from the line on that has n lines before it, if there is one; the line after the last one is the end
unfoldable pub from_line : ℕ → Text → Option Text
from_line zero t = Some t
from_line (suc zero) t = Some (unwrap_or (next_line t) [])
from_line (suc (suc n)) t = option_and_then (from_line (suc n)) (next_line t)

-- the text from n units of its first line on, or from the end of this line if it has fewer; none inside a character
unfoldable pub from_character : Encoding → ℕ → Text → Option Text
from_character e n [] = Some []
from_character e n (c ∷ t) =
    if (n == 0) || ends_line c then Some (c ∷ t)
    else if nat_le (units e c) n then from_character e (n - units e c) t else None

-- whether a position is after another
abbrev pub is_after : Position → Position → Bool
is_after p q = nat_lt q.line p.line || ((p.line == q.line) && nat_lt q.character p.character)

-- the text from the position on
abbrev pub from_position : Encoding → Position → Text → Option Text
from_position e p t = option_and_then (from_character e p.character) (from_line p.line t)
