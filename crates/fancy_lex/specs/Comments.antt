-- The comments in layout, as it is read, one character after another.
use Rattle.std.specs.Prelude.{ℕ, Bool, true, false, ◌&&◌, ◌==◌, if◌then◌else◌, List, [], ◌∷◌, is_some}
use Prim.Native.Char.{code}
use Rattle.fancy_lex.specs.Layout.{is_blank}
use Rattle.fancy_lex.specs.LayoutSteps.{Phase, between, comment, escaped, line, after_comment_start}
use Rattle.fancy_lex.specs.Text.{Text, reach_of}

-- a comment: the reaches at which it begins and ends, and whether a line feed or the end of the text ends it
pub record Comment : Type 0 where
  pub start : ℕ
  pub end : ℕ
  pub is_line : Bool

-- a comment that began at the reach, and after whose closing parenthesis is the text
abbrev pub closed_before : ℕ → Text → Comment
closed_before p t = record { start = p; end = reach_of t; is_line = false }

-- a line comment that began at the reach, and after which is the text
abbrev pub line_before : ℕ → Text → Comment
line_before p t = record { start = p; end = reach_of t; is_line = true }

-- the comments in the rest of the layout at the front of a text; the open one began at the reach, which between comments
-- is that of the text
unfoldable pub comments_from : Bool → Phase → ℕ → Text → List Comment
comments_from x between p [] = []
comments_from x between p (c ∷ t) =
    if is_some (after_comment_start (c ∷ t)) then comments_from x comment p t
    else if x && c == code "#" then comments_from x line p t
    else if x && is_blank c then comments_from x between (reach_of t) t
    else []
comments_from x comment p [] = []
comments_from x comment p (c ∷ t) =
    if c == code ")"
    then closed_before p t ∷ comments_from x between (reach_of t) t
    else if c == code "\\" then comments_from x escaped p t
    else comments_from x comment p t
comments_from x escaped p [] = []
comments_from x escaped p (c ∷ t) = comments_from x comment p t
comments_from x line p [] = line_before p [] ∷ []
comments_from x line p (c ∷ t) =
    if c == code "\n"
    then line_before p t ∷ comments_from x between (reach_of t) t
    else comments_from x line p t

-- the comments in the layout at the front of a text, up to one that is not closed
abbrev pub comments : Bool → Text → List Comment
comments x t = comments_from x between (reach_of t) t
