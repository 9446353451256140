use Rattle.std.specs.Str.{chars}
use Rattle.fancy_lex.proofs.TextLemmas.{on_ok}
use Rattle.fancy_lex.proofs.class.push_delegate.Goals as goal

pub returns-in-HexDigit-clause-grown : goal.returns-in-HexDigit-clause-grown
unfolding chars
returns-in-HexDigit-clause-grown c = rw c.in-HexDigit.is (on_ok c.append.result _ _ _ c.append.ensures)

pub returns-in-NotHexDigit-clause-grown : goal.returns-in-NotHexDigit-clause-grown
unfolding chars
returns-in-NotHexDigit-clause-grown c = rw c.in-NotHexDigit.is
    (on_ok c.append-in-NotHexDigit.result _ _ _ c.append-in-NotHexDigit.ensures)
