use Rattle.std.proofs.Common.{chars, Ok, ap}
use Rattle.fancy_lex.specs.Flags.{flags_of}
use Rattle.fancy_syntax.specs.InfoViews.{HasTree}
use Rattle.fre_program.proofs.WordLemmas.{of_words}
use Rattle.fre_program.proofs.program.fre_run.Goals as goal

pub returns-in-Ok-Accepted-clause-accepted : goal.returns-in-Ok-Accepted-clause-accepted
returns-in-Ok-Accepted-clause-accepted g c =
    λ _. of_words HasTree c.args.words.now (flags_of c.in-Some.flags) (chars c.in-Some.pattern.now) c.in-Some.ensures
    (c.in-Ok-Accepted.ensures.accepted (ap Ok c.in-Ok-Accepted.field-0-is))
