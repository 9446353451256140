use Rattle.std.proofs.Common.{arith, chars}
use Rattle.fancy_lex.proofs.EscapeLaws.{leaves_escape}
use Rattle.fancy_lex.proofs.LeaveLaws.{given_cut, given_position}
use Rattle.fancy_lex.proofs.ReadingLemmas.{returns_gives}
use Rattle.fancy_lex.proofs.TextLemmas.{bytes_chars}
use Rattle.fancy_lex.specs.EscapeViews.{escape_of}
use Rattle.fancy_lex.proofs.escape.escape.Goals as goal

pub returns-clause-value : goal.returns-clause-value
returns-clause-value c = rw c.reach_before.ensures at c.read_escape.ensures.value

pub returns-clause-cut : goal.returns-clause-cut
returns-clause-cut c =
    let a = c.args in
    let value = rw c.reach_before.ensures at c.read_escape.ensures.value in
    given_cut escape_of c.read_escape.result (leaves_escape a.flags a.inside (chars a.text.now))
    (returns_gives escape_of c.read_escape.result _ value)

pub returns-clause-position : goal.returns-clause-position
returns-clause-position c =
    let a = c.args in
    let value = rw c.reach_before.ensures at c.read_escape.ensures.value in
    given_position escape_of c.read_escape.result
    (omega (arith, bytes_chars a.text.now c.utf8.text)) (omega (arith, bytes_chars a.text.now c.utf8.text))
    (leaves_escape a.flags a.inside (chars a.text.now))
    (returns_gives escape_of c.read_escape.result _ value)
