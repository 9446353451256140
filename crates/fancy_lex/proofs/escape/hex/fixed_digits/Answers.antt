use Rattle.std.proofs.Common.{◌∙◌, arith, rules}
use Rattle.fancy_lex.proofs.HexLemmas.{fixed_step, fixed_short, fixed_done, push_small, push_fits}
use Rattle.fancy_lex.proofs.escape.hex.fixed_digits.Goals as goal

pub returns-in_err-digit-clause-value : goal.returns-in_err-digit-clause-value
returns-in_err-digit-clause-value c =
    rw c.from_residual.ensures (c.loop-read.invariant.same
    ∙ fixed_short c.args.width _ _ _ c.loop-read-test.true c.in_err-digit.ensures.value)

pub overflow_mul-value : goal.overflow_mul-value
overflow_mul-value c =
    omega (
      arith,
      push_fits c.loop-read.value c.in_ok-digit.digit c.loop-read._read c.loop-read.invariant.small
          c.in_ok-digit.ensures.small (omega arith),
    )

pub overflow_add-value : goal.overflow_add-value
overflow_add-value c =
    omega (
      arith,
      push_fits c.loop-read.value c.in_ok-digit.digit c.loop-read._read c.loop-read.invariant.small
          c.in_ok-digit.ensures.small (omega arith),
    )

pub loop-read-preserved : goal.loop-read-preserved
loop-read-preserved c = record {
  text = search rules;
  small = push_small c.loop-read.value c.in_ok-digit.digit c.loop-read._read c.loop-read.invariant.small
      c.in_ok-digit.ensures.small (omega arith);
  same = c.loop-read.invariant.same ∙ fixed_step c.args.width _ _ _ _ _ c.loop-read-test.true
      c.in_ok-digit.ensures.value;
  within = omega (arith, c.in_ok-digit.ensures.shorter);
}

pub returns-clause-value : goal.returns-clause-value
returns-clause-value c = c.loop-read.invariant.same ∙ fixed_done c.args.width _ _ _ c.loop-read-test.false
