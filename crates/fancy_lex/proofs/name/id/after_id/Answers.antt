use Rattle.std.proofs.Common.{arith, rules, sym, ◌∙◌}
use Rattle.fancy_lex.proofs.IdLemmas.{run_more, run_stops}
use Rattle.fancy_lex.proofs.name.id.after_id.Goals as goal

pub returns-then-not-is_id_char-clause-value : goal.returns-then-not-is_id_char-clause-value
returns-then-not-is_id_char-clause-value c =
    c.loop-c.invariant.same_end ∙ run_stops _ _ _ c.in-Some.ensures.value (sym c.if-not-is_id_char.ensures)

pub loop-c-preserved : goal.loop-c-preserved
loop-c-preserved c = record {
  text = search rules;
  same_end = c.loop-c.invariant.same_end ∙ run_more _ _ _ c.in-Some.ensures.value (sym c.if-not-is_id_char.ensures);
  within = omega (arith, c.in-Some.ensures.shorter);
}
