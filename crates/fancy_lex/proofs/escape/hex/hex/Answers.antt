use Rattle.std.proofs.Common.{chars, arith}
use Rattle.fancy_lex.proofs.EscapeLaws.{leaves_hex}
use Rattle.fancy_lex.proofs.LeaveLaws.{given_cut, given_position}
use Rattle.fancy_lex.proofs.ReadingLemmas.{reads_returns, returns_gives}
use Rattle.fancy_lex.proofs.TextLemmas.{bytes_chars}
use Rattle.fancy_lex.specs.EscapeViews.{escape_of}
use Rattle.fancy_lex.proofs.escape.hex.hex.Goals as goal

pub returns-clause-cut : goal.returns-clause-cut
returns-clause-cut c =
    let a = c.args in
    given_cut escape_of c.read_hex.result (leaves_hex 0 a.flags a.width (chars a.text.now))
    (returns_gives escape_of c.read_hex.result _ (reads_returns escape_of c.read_hex.result _ c.read_hex.ensures.value))

pub returns-clause-position : goal.returns-clause-position
returns-clause-position c =
    let a = c.args in
    given_position escape_of c.read_hex.result (omega arith)
    (omega (arith, bytes_chars a.text.now c.utf8.text))
    (leaves_hex 0 a.flags a.width (chars a.text.now))
    (returns_gives escape_of c.read_hex.result _ (reads_returns escape_of c.read_hex.result _ c.read_hex.ensures.value))
