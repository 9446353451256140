use Rattle.std.proofs.Common.{chars, rules}
use Rattle.fancy_c.proofs.EscapeLemmas.{literals_next}
use Rattle.fancy_c.proofs.escape.literals.Goals as goal

pub loop-c-preserved : goal.loop-c-preserved
loop-c-preserved c = record {
  text = search rules;
  so_far = literals_next c.args.flags c.loop-c.literals.items _ c.in_ok-literal.field-0 (chars c.loop-c.rest.now) _ _ c.in-Some.c
      c.in_ok-push.ensures.items c.in-Some.ensures.value c.in_ok-literal.ensures c.loop-c.invariant.so_far;
}
