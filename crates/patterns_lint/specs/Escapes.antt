-- Which characters of ASCII an escape contains.
use Rattle.std.specs.Prelude.{ℕ, Bool, false, ◌==◌, ◌&&◌, ◌||◌, nat_le, if◌then◌else◌}
use Rattle.patterns_lint.specs.Branches.{is_word_character}

-- whether a backslash with this letter contains the character: `\d` digits, `\w` also letters and `_`, and `\s` blanks
abbrev pub is_of_escape : ℕ → ℕ → Bool
is_of_escape letter c =
    if letter == 100 then nat_le 48 c && nat_le c 57
    else if letter == 119 then is_word_character c
    else if letter == 115 then (nat_le 9 c && nat_le c 13) || (c == 32)
    else false
