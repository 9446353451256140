use Rattle.std.proofs.Common.{◌∙◌, arith, rules}
use Rattle.fancy_lex.proofs.NumberLemmas.{after_step}
use Rattle.fancy_lex.proofs.name.number.after_digits.Goals as goal

pub loop-after-preserved : goal.loop-after-preserved
loop-after-preserved c =
    let digit = c.in-Some.ensures.value in
    record {
      text = search rules;
      same_end = c.loop-after.invariant.same_end ∙ after_step _ _ _ digit.0 digit.1;
      within = omega (arith, c.loop-after.invariant.within, c.in-Some.ensures.shorter);
    }
