use Rattle.std.proofs.Common.{◌∙◌, sym}
use Rattle.fancy_lex.proofs.NumberLemmas.{number_none}
use Rattle.fancy_lex.proofs.escape.reference.group_number.Goals as goal

pub returns-in-Some-Some-default-clause-no_digit : goal.returns-in-Some-Some-default-clause-no_digit
returns-in-Some-Some-default-clause-no_digit c none =
    let (n, is, word) = c.in-Some-Some-default.ensures.value in let nothing = sym is ∙ number_none _ none in absurd cc
