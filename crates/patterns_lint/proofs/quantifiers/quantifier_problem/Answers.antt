use Rattle.std.proofs.Common.{sym, ◌∙◌}
use Rattle.fancy_syntax.specs.View.{view}
use Rattle.patterns_lint.proofs.EmptyLemmas.{quantified, no_loop, no_turns}
use Rattle.patterns_lint.proofs.quantifiers.quantifier_problem.Goals as goal

pub returns-then-is_quantified_assertion-clause-assertion :
    goal.returns-then-is_quantified_assertion-clause-assertion
returns-then-is_quantified_assertion-clause-assertion c = λ u r d s p q k.
    quantified u (view c.args.tree.now)
    (sym c.is_quantified_assertion.ensures ∙ c.if-is_quantified_assertion.true) s p q k

pub returns-else-is_lazy_at_end-clause-no_loop : goal.returns-else-is_lazy_at_end-clause-no_loop
returns-else-is_lazy_at_end-clause-no_loop c = λ u t lo greedy r is a d s p q k same.
    no_loop c.args.around u t (view c.args.tree.now) lo greedy is
    (sym c.is_quantified_assertion.ensures ∙ c.if-is_quantified_assertion.false)
    (sym c.is_empty_loop.ensures ∙ c.if-is_empty_loop.false) a s p q k same

pub returns-then-is_empty_at_end-clause-empty : goal.returns-then-is_empty_at_end-clause-empty
returns-then-is_empty_at_end-clause-empty c = λ u r. no_turns c.args.around u (view c.args.tree.now)
    (sym c.is_empty_at_end.ensures ∙ c.if-is_empty_at_end.true)
