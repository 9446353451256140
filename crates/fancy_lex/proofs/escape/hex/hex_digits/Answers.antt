use Rattle.std.proofs.Common.{◌∙◌, arith, rules}
use Rattle.std.proofs.lemmas.Result.{err_from_is_err_and}
use Rattle.fancy_lex.proofs.HexLemmas.{digits_step, digits_error, digits_none, digits_some, digits_done, push_small}
use Rattle.fancy_lex.proofs.HexLemmas.{push_fits}
use Rattle.fancy_lex.proofs.escape.hex.hex_digits.Goals as goal

pub returns-then-read-eq0-clause-value : goal.returns-then-read-eq0-clause-value
returns-then-read-eq0-clause-value c =
    rw (c.loop-read.invariant.same, digits_none _ _ _ _ _ c.if-read-eq0.true c.in_default.ensures.value)
    (search rules)

pub returns-in_default-clause-value : goal.returns-in_default-clause-value
returns-in_default-clause-value c =
    rw (
      c.loop-read.invariant.same,
      digits_some _ _ _ _ _ c.if-read-eq0.false c.loop-read-test.true c.in_default.ensures.value,
    ) c.closing_brace.ensures.value

pub overflow_mul-value : goal.overflow_mul-value
overflow_mul-value c =
    omega (
      arith,
      push_fits c.loop-read.value c.in-Some.digit c.loop-read.read c.loop-read.invariant.small
          c.in-Some.ensures.small c.loop-read-test.true,
    )

pub overflow_add-value : goal.overflow_add-value
overflow_add-value c =
    omega (
      arith,
      push_fits c.loop-read.value c.in-Some.digit c.loop-read.read c.loop-read.invariant.small
          c.in-Some.ensures.small c.loop-read-test.true,
    )

pub returns-in_err-rest-clause-value : goal.returns-in_err-rest-clause-value
returns-in_err-rest-clause-value c =
    let p = err_from_is_err_and c.from_residual.result c.from_residual.ensures.1 in
    rw (p.1, p.2, c.loop-read.invariant.same)
    (digits_error _ _ _ _ _ _ _ _ c.loop-read-test.true c.in-Some.ensures.value c.in_err-rest.ensures.value)

pub loop-read-preserved : goal.loop-read-preserved
loop-read-preserved c = record {
  text = search rules;
  small = push_small c.loop-read.value c.in-Some.digit c.loop-read.read c.loop-read.invariant.small
      c.in-Some.ensures.small c.loop-read-test.true;
  same = c.loop-read.invariant.same ∙ digits_step _ _ _ _ _ _ _ _ c.loop-read-test.true c.in-Some.ensures.value
      c.in_ok-rest.ensures.value;
  within = omega (arith, c.in-Some.ensures.shorter, c.in_ok-rest.ensures.within);
}

pub returns-clause-value : goal.returns-clause-value
returns-clause-value c =
    rw (c.loop-read.invariant.same, digits_done _ _ _ _ _ c.loop-read-test.false) c.closing_brace-2.ensures.value
