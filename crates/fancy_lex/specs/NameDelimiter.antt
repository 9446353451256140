-- How the code's closing delimiters of names correspond to the definitions.
use Rattle.std.specs.Prelude.{ℕ}
use Prim.Native.Char.{code}
use Rattle.fancy_lex.specs.declared.group_starts.names.ClosingDelimiter.{ClosingDelimiter}
use Rattle.fancy_lex.specs.declared.group_starts.names.ClosingDelimiter.TheVariants.{Angle, Quote}

abbrev pub delimiter_of : ClosingDelimiter → ℕ
delimiter_of Angle = code ">"
delimiter_of Quote = code "'"
