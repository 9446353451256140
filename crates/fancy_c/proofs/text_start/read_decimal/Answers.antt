use Rattle.fancy_c.proofs.TextStartLemmas.{decimal_written, decimal_too_large}
use Rattle.fancy_c.proofs.text_start.read_decimal.Goals as goal

pub returns-in-Some-Some-default : goal.returns-in-Some-Some-default
returns-in-Some-Some-default c =
    let (n, is, word) = c.in-Some-Some-default.ensures.value in
    decimal_written _ _ _ n _ _ _ is word c.in-Some-Some-default.field-0-0-is c.size_before.ensures

pub returns-in-Some-None-default : goal.returns-in-Some-None-default
returns-in-Some-None-default c =
    let (n, is, word) = c.in-Some-None-default.ensures.value in
    decimal_too_large _ _ _ n _ is word c.in-Some-None-default.field-0-0-is
