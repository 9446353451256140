use Rattle.std.proofs.Common.{rules}
use Rattle.fancy_syntax.proofs.QuoteLemmas.{run_grows}
use Rattle.fancy_syntax.proofs.print.quote.after_run.Goals as goal

pub loop-c-preserved : goal.loop-c-preserved
loop-c-preserved c = record {
  text = search rules;
  run = run_grows _ _ _ c.in-Some.c c.in-Some.ensures.value (cc) c.loop-c.invariant.run;
}
