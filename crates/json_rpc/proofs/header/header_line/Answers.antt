use Rattle.std.proofs.Common.{◌≡◌, Ok, sym, subst, ◌∙◌, arith}
use Rattle.std.specs.Str.{IsUtf8}
use Rattle.std.proofs.lemmas.Fmt.{parse-decimal}
use Rattle.json_rpc.proofs.FieldLemmas.{field_utf8, value_is, value_trimmed}
use Rattle.json_rpc.proofs.header.header_line.Goals as goal

pub returns-in_default-clause-length : goal.returns-in_default-clause-length
returns-in_default-clause-length c n small is =
    absurd (c.in_default.ensures.cases.0 (subst IsUtf8 (sym is) (field_utf8 n small)))

pub returns-in-Ok-parse-clause-length : goal.returns-in-Ok-parse-clause-length
returns-in-Ok-parse-clause-length c n small is =
    let value = value_is n small _ _ (c.in-Ok.ensures.cases.0 ∙ is) ((c.in-Some.ensures.byte (omega arith) (λ w o h. h)).1) in
    let read : c.parse.result ≡ Ok n =
    parse-decimal 64 n c.trim.result.now c.parse.result small small (value_trimmed n small _ _ value c.trim.ensures.value)
    c.parse.ensures.value.0 in cc (read, c.in-Ok-parse.is)

pub returns-in-Err-clause-length : goal.returns-in-Err-clause-length
returns-in-Err-clause-length c n small is =
    let value = value_is n small _ _ (c.in-Ok.ensures.cases.0 ∙ is) ((c.in-Some.ensures.byte (omega arith) (λ w o h. h)).1) in
    let read : c.parse.result ≡ Ok n =
    parse-decimal 64 n c.trim.result.now c.parse.result small small (value_trimmed n small _ _ value c.trim.ensures.value)
    c.parse.ensures.value.0 in absurd (cc (read, c.in-Err.is))
