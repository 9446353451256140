use Rattle.std.proofs.Common.{arith}
use Rattle.fancy_lex.proofs.ClassLaws.{class_derives, class_only, class_follows}
use Rattle.fancy_lex.proofs.LeaveLaws.{given_cut, given_position}
use Rattle.fancy_lex.proofs.PositionLaws.{leaves_class}
use Rattle.fancy_lex.proofs.TextLemmas.{bytes_chars}
use Rattle.fancy_lex.specs.Text.{text_of}
use Rattle.fancy_lex.proofs.class.class.Goals as goal

pub returns-clause-cut : goal.returns-clause-cut
returns-clause-cut c = given_cut text_of c.read_class.result (leaves_class c.args.flags _)
    c.read_class.ensures.value

pub returns-clause-position : goal.returns-clause-position
returns-clause-position c = given_position text_of c.read_class.result (omega arith)
    (omega (arith, bytes_chars c.args.text.now c.utf8.text))
    (leaves_class c.args.flags _) c.read_class.ensures.value

pub returns-clause-derives : goal.returns-clause-derives
returns-clause-derives c = class_derives _ _ _ c.read_class.ensures.value

pub returns-clause-only : goal.returns-clause-only
returns-clause-only c o h = class_only _ _ _ c.read_class.ensures.value o h

pub returns-clause-follows : goal.returns-clause-follows
returns-clause-follows c s = class_follows _ _ s _ c.read_class.ensures.value
