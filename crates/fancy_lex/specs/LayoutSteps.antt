-- Layout as it is read, one character after another, and the text after it.
use Rattle.std.specs.Prelude.{ℕ, Bool, ◌&&◌, ◌||◌, ◌==◌, if◌then◌else◌, [], ◌∷◌, option_and_then, Option, Some, None}
use Rattle.std.specs.Prelude.{is_some}
use Prim.Native.Char.{code}
use Rattle.fancy_lex.specs.Layout.{is_blank}
use Rattle.fancy_lex.specs.Text.{Text, strip, at_end, past_end}

-- what a reader of layout returns: the rest of the text, or the reach of the error
pub data Skipped : Type 0 where
  rest : Text → Skipped
  failed : ℕ → Skipped

-- the rest of the text, if no comment is unclosed
abbrev pub rest_of : Skipped → Option Text
rest_of (rest t) = Some t
rest_of (failed p) = None

-- what the reader is inside: nothing, a comment, a pair in a comment after its backslash, or a line comment
pub data Phase : Type 0 where
  between : Phase
  comment : Phase
  escaped : Phase
  line : Phase

-- whether the character is a blank or begins a line comment, and both are layout
abbrev pub is_layout : Bool → ℕ → Bool
is_layout x c = x && (c == code "#" || is_blank c)

-- the text after `(?#`, if the text begins with it
abbrev pub after_comment_start : Text → Option Text
after_comment_start t = option_and_then (strip (code "#")) (option_and_then (strip (code "?")) (strip (code "(") t))

-- the text after the rest of the layout, or the reach of the error if a comment is not closed; the phase is
-- comment right after the `(`, since `?#` neither closes a comment nor begins a pair
unfoldable pub layout_from : Bool → Phase → Text → Skipped
layout_from x between [] = rest []
layout_from x between (c ∷ t) =
    if is_some (after_comment_start (c ∷ t)) then layout_from x comment t
    else if x && c == code "#" then layout_from x line t
    else if x && is_blank c then layout_from x between t
    else rest (c ∷ t)
layout_from x comment [] = failed at_end
layout_from x comment (c ∷ t) =
    if c == code ")" then layout_from x between t
    else if c == code "\\" then layout_from x escaped t
    else layout_from x comment t
layout_from x escaped [] = failed past_end
layout_from x escaped (c ∷ t) = layout_from x comment t
layout_from x line [] = rest []
layout_from x line (c ∷ t) = if c == code "\n" then layout_from x between t else layout_from x line t

-- the same from the start of the layout
abbrev pub layout : Bool → Text → Skipped
layout x t = layout_from x between t

-- the text after the layout, if every comment in it is closed
abbrev pub past_layout : Bool → Text → Option Text
past_layout x t = rest_of (layout x t)
