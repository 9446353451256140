-- The name in the opening of a group.
use Rattle.std.specs.Prelude.{ℕ}
use Rattle.fancy_lex.specs.Delimited.{name_before}
use Rattle.fancy_lex.specs.ErrorTable.{group_not_named}
use Rattle.fancy_lex.specs.Reading.{Reading, read_or}
use Rattle.fancy_lex.specs.Text.{Text}

-- the name before the closing delimiter; u is the text after the opening delimiter, and t is the text after the
-- question mark of the group
unfoldable pub group_name : ℕ → Text → Text → Reading Text
group_name delimiter t u = read_or (group_not_named t) (name_before delimiter u)
