use Rattle.std.proofs.Common.{◌∙◌}
use Rattle.fancy_lex.proofs.NumberLemmas.{run_beyond}
use Rattle.fancy_lex.proofs.name.number.more_digits.Goals as goal

pub returns-in_default-with_digit-clause-value : goal.returns-in_default-with_digit-clause-value
returns-in_default-with_digit-clause-value c =
    let digit = c.in-Some.ensures.value in
    let (n, read, beyond) =
    run_beyond _ _ _ _ _ digit.0 digit.1 c.in_default-with_digit.ensures c.after_digits.ensures.value in
    (n, c.loop-next.invariant.read ∙ read, beyond)
