-- How texts are written in the workflow commands of GitHub's actions.
use Rattle.std.specs.Prelude.{◌==◌, ◌&&◌, not, ℕ, Bool, if◌then◌else◌, [], ◌∷◌, codes}
use Rattle.std.specs.List.{flat_map, list_all}
use Prim.Native.Char.{code}
use Rattle.fancy_lex.specs.Text.{Text}

-- how a character is written, in a property or in the message
abbrev pub escape : Bool → ℕ → Text
escape is_property c =
    if c == code "%" then codes "%25"
    else if c == code "\r" then codes "%0D"
    else if c == code "\n" then codes "%0A"
    else if is_property && (c == code ":") then codes "%3A"
    else if is_property && (c == code ",") then codes "%2C"
    else c ∷ []

-- how a text is written, in a property or in the message
abbrev pub escaped : Bool → Text → Text
escaped is_property w = flat_map (escape is_property) w

-- whether the text has no line end
abbrev pub is_in_line : Text → Bool
is_in_line w = list_all (λ c. not (c == code "\r") && not (c == code "\n")) w
