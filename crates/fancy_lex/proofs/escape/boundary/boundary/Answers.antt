use Rattle.fancy_lex.proofs.BoundaryRelation.{boundary_derives, boundary_only}
use Rattle.std.proofs.Common.{chars, arith}
use Rattle.fancy_lex.proofs.EscapeLaws.{leaves_boundary}
use Rattle.fancy_lex.proofs.LeaveLaws.{given_cut, given_position}
use Rattle.fancy_lex.proofs.ReadingLemmas.{returns_gives}
use Rattle.fancy_lex.proofs.TextLemmas.{bytes_chars}
use Rattle.fancy_lex.specs.EscapeViews.{escape_of}
use Rattle.fancy_lex.proofs.escape.boundary.boundary.Goals as goal

pub returns-clause-cut : goal.returns-clause-cut
returns-clause-cut c =
    let a = c.args in
    given_cut escape_of c.read_boundary.result
    (leaves_boundary a.reach a.flags.ignore_space a.negated (chars a.text.now))
    (returns_gives escape_of c.read_boundary.result _ c.read_boundary.ensures.value)

pub returns-clause-position : goal.returns-clause-position
returns-clause-position c m within long =
    let a = c.args in
    given_position escape_of c.read_boundary.result within
    (omega (arith, bytes_chars a.text.now c.utf8.text, long))
    (leaves_boundary a.reach a.flags.ignore_space a.negated (chars a.text.now))
    (returns_gives escape_of c.read_boundary.result _ c.read_boundary.ensures.value)

pub returns-clause-derives : goal.returns-clause-derives
returns-clause-derives c = boundary_derives _ _ _ _ _ c.read_boundary.ensures.value

pub returns-clause-only : goal.returns-clause-only
returns-clause-only c o h = boundary_only _ _ _ _ _ c.read_boundary.ensures.value o h
