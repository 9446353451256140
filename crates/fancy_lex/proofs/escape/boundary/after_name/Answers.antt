use Rattle.std.proofs.Common.{◌∙◌}
use Rattle.fancy_lex.proofs.BoundaryLemmas.{after_name_other}
use Rattle.fancy_lex.proofs.escape.boundary.after_name.Goals as goal

pub returns-in_err-rest-2-clause-value : goal.returns-in_err-rest-2-clause-value
returns-in_err-rest-2-clause-value c =
    rw c.from_residual-in_err-rest-2.ensures
    (c.loop-rest.invariant.same ∙ after_name_other _ _ _ _ _ _ c.in-Some.ensures.value c.in_ok-rest.ensures.value
    c.in_err-rest-2.ensures.value)
