-- The comments in a token: those after the parenthesis of a group, between the letters of flags, in the braces of a
-- quantifier, in a word boundary, and in the hex codes of escapes and classes. None of these has a `#` of its own, so each
-- `#` begins a comment or is in one. Only a name may have one, and it ends the token: after a name no comment follows.
use Rattle.std.specs.Prelude.{ℕ, zero, suc, ◌==◌, nat_le, nat_lt, Bool, true, false, if◌then◌else◌, List, [], ◌∷◌, ◌++◌}
use Prim.Native.Char.{code}
use Rattle.fancy_lex.specs.Characters.{◌∈◌}
use Rattle.fancy_lex.specs.Comments.{Comment, closed_before, line_before}
use Rattle.fancy_lex.specs.Escape.{escape}
use Rattle.fancy_lex.specs.Escaped.{Escape}
use Rattle.fancy_lex.specs.LayoutSteps.{Phase, between, comment, escaped, line, after_comment_start}
use Rattle.fancy_lex.specs.Reading.{Reading, gives, fails, choose}
use Rattle.fancy_lex.specs.Text.{Text, bytes, reach_of}
use Rattle.fancy_lex.specs.declared.flags.Flags.{Flags}

-- whether the text begins with `(?#`, and the three characters are in the token, which ends at the reach
abbrev pub begins_comment : ℕ → Text → Bool
begins_comment end t = choose (after_comment_start t) (λ i. nat_le end (reach_of i)) false

-- whether the character begins what may be a name, as in `(?<a>`, `(?'a'` and `(?P=a)`
abbrev pub begins_name : ℕ → Bool
begins_name c = c ∈ "<'P"

-- a comment, if it ends in the token, and those after it
abbrev pub if_inside : ℕ → Comment → List Comment → List Comment
if_inside end c l = if nat_le end c.end then c ∷ l else []

-- the comments in the rest of a token, which ends at the reach `end`; the open one began at the reach p, which between
-- comments is that of the text
unfoldable pub token_comments_from : ℕ → Phase → ℕ → Text → List Comment
token_comments_from end between p [] = []
token_comments_from end between p (c ∷ t) =
    if nat_le (reach_of (c ∷ t)) end then []
    else if begins_comment end (c ∷ t) then token_comments_from end comment p t
    else if c == code "#" then token_comments_from end line p t
    else if begins_name c then []
    else token_comments_from end between (reach_of t) t
token_comments_from end comment p [] = []
token_comments_from end comment p (c ∷ t) =
    if c == code ")"
    then if_inside end (closed_before p t) (token_comments_from end between (reach_of t) t)
    else if c == code "\\" then token_comments_from end escaped p t
    else token_comments_from end comment p t
token_comments_from end escaped p [] = []
token_comments_from end escaped p (c ∷ t) = token_comments_from end comment p t
token_comments_from end line p [] = if_inside end (line_before p []) []
token_comments_from end line p (c ∷ t) =
    if c == code "\n"
    then if_inside end (line_before p t) (token_comments_from end between (reach_of t) t)
    else token_comments_from end line p t

-- the comments in the token that t begins with, and that ends at the reach
abbrev pub token_comments : Text → ℕ → List Comment
token_comments t end = token_comments_from end between (reach_of t) t

-- the comments in an escape after its backslash: only hex codes and word boundaries may have some
abbrev pub escape_comments : Text → ℕ → List Comment
escape_comments [] end = []
escape_comments (c ∷ t) end = if c ∈ "xuUbB" then token_comments t end else []

-- the comments in the escape that was read in a class, and in the rest of the class, which ends at the reach; each escape of
-- a class ends before that
abbrev pub after_escape : (Text → List Comment) → ℕ → Text → Reading Escape → List Comment
after_escape more end t (gives e u) =
    if nat_lt (reach_of u) end then [] else escape_comments t (reach_of u) ++ more u
after_escape more end t (fails e) = []

-- the comments in the rest of a class, which ends at the reach; k is the number of steps left: each reads a byte or more, so
-- it is never used up
unfoldable pub class_comments_from : Flags → ℕ → ℕ → Text → List Comment
class_comments_from f end zero t = []
class_comments_from f end (suc k) [] = []
class_comments_from f end (suc k) (c ∷ t) =
    if nat_le (reach_of (c ∷ t)) end then []
    else if c == code "\\" then after_escape (class_comments_from f end k) end t (escape f true t)
    else class_comments_from f end k t

-- the comments in a class after its bracket: those of its hex codes
abbrev pub class_comments : Flags → Text → ℕ → List Comment
class_comments f t end = class_comments_from f end (suc (bytes t)) t
