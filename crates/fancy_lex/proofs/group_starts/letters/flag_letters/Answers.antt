use Rattle.std.proofs.Common.{arith}
use Rattle.fancy_lex.proofs.LetterRelation.{letters_derive, letters_only}
use Rattle.fancy_lex.proofs.LeaveLaws.{given_cut, given_position}
use Rattle.fancy_lex.proofs.ReadingLemmas.{returns_gives}
use Rattle.fancy_lex.proofs.FlagLaws.{leaves_letters}
use Rattle.fancy_lex.proofs.TextLemmas.{bytes_chars}
use Rattle.fancy_lex.specs.FlagReads.{letters_of}
use Rattle.fancy_lex.proofs.group_starts.letters.flag_letters.Goals as goal

pub returns-clause-cut : goal.returns-clause-cut
returns-clause-cut c =
    given_cut letters_of c.read_letters.result (leaves_letters c.args.flags _)
    (returns_gives letters_of c.read_letters.result _ c.read_letters.ensures.value)

pub returns-clause-position : goal.returns-clause-position
returns-clause-position c =
    given_position letters_of c.read_letters.result (omega (arith, bytes_chars c.args.text.now c.utf8.text))
    (omega (arith, bytes_chars c.args.text.now c.utf8.text)) (leaves_letters c.args.flags _)
    (returns_gives letters_of c.read_letters.result _ c.read_letters.ensures.value)

pub returns-clause-derives : goal.returns-clause-derives
returns-clause-derives c = letters_derive _ _ _ c.read_letters.ensures.value

pub returns-clause-only : goal.returns-clause-only
returns-clause-only c o h = letters_only _ _ _ c.read_letters.ensures.value o h
