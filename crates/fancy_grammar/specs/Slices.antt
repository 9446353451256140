-- What is read is a slice of the text.
use Rattle.std.specs.Prelude.{◌≡◌, ◌++◌}
use Rattle.fancy_lex.specs.Text.{Text}

-- a word lies between the start of t and the start of u
pub record Slice (t u : Text) : Type 0 where
  pub word : Text
  pub cut : t ≡ word ++ u
