use Rattle.std.proofs.Common.{◌+◌, ◌||◌, sym, ap, ◌∙◌}
use Rattle.fancy_syntax.proofs.PrintLemmas.{left, left_step, left_end}
use Rattle.patterns_lint.specs.Empty.{any_has_group}
use Rattle.patterns_lint.proofs.empty.+has_group.Goals as goal

pub any_has_group-loop-tree-preserved : goal.any_has_group-loop-tree-preserved
any_has_group-loop-tree-preserved t c =
    let trees = c.args.trees.now in
    let i = c.loop-tree.tree-index in
    let step = left_step trees i c.tree-item.result c.loop-tree-test.true c.tree-item.is in
    c.loop-tree.invariant ∙ ap any_has_group step
    ∙ ap (λ b. b || any_has_group (left trees (i + 1))) (sym c.has_group.ensures ∙ c.if-has_group.false)

pub any_has_group-returns-then-has_group : goal.any_has_group-returns-then-has_group
any_has_group-returns-then-has_group t c =
    let trees = c.args.trees.now in
    let i = c.loop-tree.tree-index in
    let step = left_step trees i c.tree-item.result c.loop-tree-test.true c.tree-item.is in
    sym (c.loop-tree.invariant ∙ ap any_has_group step
    ∙ ap (λ b. b || any_has_group (left trees (i + 1))) (sym c.has_group.ensures ∙ c.if-has_group.true))

pub any_has_group-returns : goal.any_has_group-returns
any_has_group-returns t c =
    sym (c.loop-tree.invariant ∙ ap any_has_group
    (left_end c.args.trees.now c.loop-tree.tree-index c.loop-tree-test.false))
