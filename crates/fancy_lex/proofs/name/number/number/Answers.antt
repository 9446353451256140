use Rattle.std.proofs.Common.{Some, ap, ◌∙◌, refl}
use Rattle.fancy_lex.proofs.NumberLemmas.{number_of_one_digit, number_of_more_digits}
use Rattle.fancy_lex.proofs.name.number.number.Goals as goal

pub returns-in_default-clause-value : goal.returns-in_default-clause-value
returns-in_default-clause-value c =
    let digit = c.in_ok-first.ensures.value in
    (c.in_ok-first.first, number_of_one_digit _ _ _ digit.0 digit.1 c.in_default.ensures.value, refl)

pub returns-clause-value : goal.returns-clause-value
returns-clause-value c =
    let first = c.in_ok-first.ensures.value in
    let second = c.in-Some.ensures.value in
    let (n, run, word) = c.more_digits.ensures.value in
    (n, number_of_more_digits _ _ _ _ _ first.0 first.1 second.0 second.1 ∙ ap Some run, word)
