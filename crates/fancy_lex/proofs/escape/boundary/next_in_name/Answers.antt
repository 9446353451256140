use Rattle.std.proofs.Common.{ap}
use Rattle.fancy_lex.specs.Reading.{layout_reading}
use Rattle.fancy_lex.proofs.BoundaryLemmas.{name_error_comment, name_error_end}
use Rattle.fancy_lex.proofs.escape.boundary.next_in_name.Goals as goal

pub returns-in-Err-clause-value : goal.returns-in-Err-clause-value
returns-in-Err-clause-value c = λ reach k out more. name_error_comment _ _ _ _ k _ more c.in-Err.ensures.value

pub returns-in-None-clause-value : goal.returns-in-None-clause-value
returns-in-None-clause-value c = λ reach k out more.
    name_error_end _ _ _ _ k _ (ap layout_reading c.in-Ok.ensures.value) c.in-None.ensures.value
