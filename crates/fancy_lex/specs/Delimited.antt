-- Names: the text before the first closing delimiter.
use Rattle.std.specs.Prelude.{ℕ, ◌==◌, if◌then◌else◌, [], ◌∷◌, Option, None, option_map}
use Rattle.std.specs.Option.{option_and_then}
use Prim.Native.Char.{code}
use Rattle.fancy_lex.specs.Id.{nonempty_front}
use Rattle.fancy_lex.specs.Text.{Text, cut_at}

-- a name is all the characters, one or more, before the first closing delimiter: the name, and the text after the
-- delimiter
unfoldable pub name_before : ℕ → Text → Option (Text × Text)
name_before delimiter t = option_and_then nonempty_front (cut_at delimiter t)

-- the name between `<` and `>` or between two `'`, and the text after the closing delimiter
unfoldable pub delimited_name : Text → Option (Text × Text)
delimited_name [] = None
delimited_name (c ∷ t) =
    if c == code "<" then name_before (code ">") t
    else if c == code "'" then name_before (code "'") t
    else None

-- the value of a name, if it has one, and the text after the name
abbrev pub of_name : {A : Type 0} → (Text → Option A) → Option (Text × Text) → Option (A × Text)
of_name f o = option_and_then (λ q. option_map (λ a. (a, q.1)) (f q.0)) o
