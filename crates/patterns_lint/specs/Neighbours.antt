-- Assertions that never hold, by the characters beside them.
use Rattle.std.specs.Prelude.{ℕ, Bool, true, false, ◌==◌, ◌&&◌, ◌||◌, nat_lt, if◌then◌else◌, Option, Some, None}
use Rattle.fancy_lex.specs.declared.escape.Assertion.{Assertion}
use Rattle.fancy_lex.specs.declared.escape.Assertion.TheVariants as assert
use Rattle.fancy_grammar.specs.Tree.{Tree, assertion, literal, repeat}
use Rattle.class_rules.specs.Beginnings.{operand}
use Rattle.fancy_lex.specs.Text.{Text}
use Rattle.patterns_lint.specs.Branches.{is_character, is_word_character, only_character}
use Rattle.patterns_lint.specs.declared.neighbours.Neighbour.{Neighbour}
use Rattle.patterns_lint.specs.declared.neighbours.Neighbour.TheVariants.{Word, LineTerminator, Other, Unknown}

abbrev pub is_word : Neighbour → Bool
is_word Word = true
is_word _ = false

abbrev pub is_not_word : Neighbour → Bool
is_not_word LineTerminator = true
is_not_word Other = true
is_not_word _ = false

-- a character that is no line terminator
abbrev pub is_in_line : Neighbour → Bool
is_in_line Word = true
is_in_line Other = true
is_in_line _ = false

-- what a character is; beyond ASCII it is not said
abbrev pub of_character : ℕ → Neighbour
of_character c =
    if is_word_character c then Word
    else if (c == 10) || (c == 13) then LineTerminator
    else if nat_lt c 128 then Other
    else Unknown

abbrev pub of_option : Option ℕ → Neighbour
of_option (Some c) = of_character c
of_option None = Unknown

-- what a literal of one character is
abbrev pub of_literal : Tree → Neighbour
of_literal (literal text casei) = of_option (only_character text)
of_literal _ = Unknown

-- what may be repeated no times
abbrev pub is_optional : Tree → Bool
is_optional (repeat t lo hi greedy) = lo == 0
is_optional _ = false

-- what a piece is to an assertion beside it, as far as it is a literal, repeated or not
abbrev pub of_piece : Tree → Neighbour
of_piece t = if is_optional t then Unknown else of_literal (operand t)

-- whether the assertion never holds between the two
abbrev pub excludes : Assertion → Neighbour → Neighbour → Bool
excludes assert.StartText before after = is_in_line before
excludes (assert.StartLine crlf) before after = is_in_line before
excludes (assert.StartLineOniguruma crlf) before after = is_in_line before
excludes assert.EndText before after = is_in_line after
excludes (assert.EndTextIgnoreTrailingNewlines crlf) before after = is_in_line after
excludes (assert.EndLine crlf) before after = is_in_line after
excludes assert.LeftWordBoundary before after = is_word before || is_not_word after
excludes assert.RightWordBoundary before after = is_not_word before || is_word after
excludes assert.LeftWordHalfBoundary before after = is_word before
excludes assert.RightWordHalfBoundary before after = is_word after
excludes assert.WordBoundary before after =
    (is_word before && is_word after) || (is_not_word before && is_not_word after)
excludes assert.NotWordBoundary before after =
    (is_word before && is_not_word after) || (is_not_word before && is_word after)

-- whether a node is an assertion that never holds between the two
abbrev pub never_holds : Tree → Neighbour → Neighbour → Bool
never_holds (assertion a) before after = excludes a before after
never_holds _ before after = false

-- whether a text is `$` before a character of a word, as in `$name`, which other languages replace by a value
abbrev pub is_variable : Text → Neighbour → Bool
is_variable text after = is_character (only_character text) 36 && is_word after
