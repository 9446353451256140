use Rattle.std.proofs.Common.{◌≡◌, ◌+◌, ◌-◌, length, arith, subst}
use Rattle.fancy_grammar.specs.Quantified.{quants}
use Rattle.fancy_syntax.specs.Parsed.{state, Turns}
use Rattle.fancy_syntax.specs.View.{view}
use Rattle.fancy_syntax.proofs.StepLemmas.{turns_last}
use Rattle.fancy_syntax.proofs.TreesLemmas.{last_is, last_set}
use Rattle.fancy_syntax.proofs.grammar.step.quantify_some.Goals as goal

pub returns-clause-value : goal.returns-clause-value
returns-clause-value g c below tree h =
    let es = c.args.trees.now.items in
    let i = c.len-last.result - 1 in
    let n : i + 1 ≡ length es = omega (arith, c.len-last.ensures, c.args.trees.now.ok.0, c.requires.some) in
    turns_last c.quantify.result _ below (view c.quantify.new.tree) _ _ (last_set es i c.quantify.new.tree below tree h n)
    (subst (λ z. Turns c.quantify.result (view c.quantify.new.tree) (state c.quantify.new.current)
    (quants c.args.depth c.args.left z (state c.args.current.now)))
    (last_is es i c.index_mut.result.now below tree h n c.index_mut.ensures.value) c.quantify.ensures.value)
