use Rattle.std.proofs.Common.{◌∙◌}
use Rattle.std.specs.Str.{chars}
use Rattle.fancy_lex.specs.BoundaryName.{known_boundary}
use Rattle.fancy_lex.proofs.BoundaryLemmas.{named_first, named_later, named_last}
use Rattle.fancy_lex.proofs.escape.boundary.known_boundary.Goals as goal

pub returns-in-Some-clause-value : goal.returns-in-Some-clause-value
unfolding chars known_boundary
returns-in-Some-clause-value c = named_first _ _ _ _ _ _ c.in-Some.ensures.value

pub returns-in-Some-after_name-clause-value : goal.returns-in-Some-after_name-clause-value
unfolding chars known_boundary
returns-in-Some-after_name-clause-value c =
    named_later _ _ _ _ _ c.in_default.ensures.value ∙ named_first _ _ _ _ _ _ c.in-Some-after_name.ensures.value

pub returns-in-Some-after_name-2-clause-value : goal.returns-in-Some-after_name-2-clause-value
unfolding chars known_boundary
returns-in-Some-after_name-2-clause-value c =
    named_later _ _ _ _ _ c.in_default.ensures.value ∙ (named_later _ _ _ _ _ c.in_default-after_name.ensures.value
    ∙ named_first _ _ _ _ _ _ c.in-Some-after_name-2.ensures.value)

pub returns-in_err-rest-clause-value : goal.returns-in_err-rest-clause-value
unfolding chars known_boundary
returns-in_err-rest-clause-value c =
    rw c.from_residual.ensures
    (named_later _ _ _ _ _ c.in_default.ensures.value ∙ (named_later _ _ _ _ _ c.in_default-after_name.ensures.value
    ∙ (named_later _ _ _ _ _ c.in_default-after_name-2.ensures.value
    ∙ named_last _ _ _ _ _ c.in_err-rest.ensures.value)))

pub returns-clause-value : goal.returns-clause-value
unfolding chars known_boundary
returns-clause-value c =
    named_later _ _ _ _ _ c.in_default.ensures.value ∙ (named_later _ _ _ _ _ c.in_default-after_name.ensures.value
    ∙ (named_later _ _ _ _ _ c.in_default-after_name-2.ensures.value
    ∙ named_last _ _ _ _ _ c.in_ok-rest.ensures.value))
