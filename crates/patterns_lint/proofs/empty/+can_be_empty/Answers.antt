use Rattle.std.proofs.Common.{◌+◌, ◌&&◌, ◌||◌, sym, ap, ◌∙◌}
use Rattle.fancy_syntax.proofs.PrintLemmas.{left, left_step, left_end}
use Rattle.patterns_lint.specs.Empty.{all_can_match_empty, any_can_match_empty}
use Rattle.patterns_lint.proofs.empty.+can_be_empty.Goals as goal

pub all_can_match_empty-loop-tree-preserved : goal.all_can_match_empty-loop-tree-preserved
all_can_match_empty-loop-tree-preserved t c =
    let trees = c.args.trees.now in
    let i = c.loop-tree.tree-index in
    let step = left_step trees i c.tree-item.result c.loop-tree-test.true c.tree-item.is in
    c.loop-tree.invariant ∙ ap all_can_match_empty step
    ∙ ap (λ b. b && all_can_match_empty (left trees (i + 1)))
    (sym c.can_match_empty.ensures ∙ c.if-not-can_match_empty.false)

pub all_can_match_empty-returns-then-not-can_match_empty : goal.all_can_match_empty-returns-then-not-can_match_empty
all_can_match_empty-returns-then-not-can_match_empty t c =
    let trees = c.args.trees.now in
    let i = c.loop-tree.tree-index in
    let step = left_step trees i c.tree-item.result c.loop-tree-test.true c.tree-item.is in
    sym (c.loop-tree.invariant ∙ ap all_can_match_empty step
    ∙ ap (λ b. b && all_can_match_empty (left trees (i + 1)))
    (sym c.can_match_empty.ensures ∙ c.if-not-can_match_empty.true))

pub all_can_match_empty-returns : goal.all_can_match_empty-returns
all_can_match_empty-returns t c =
    sym (c.loop-tree.invariant ∙ ap all_can_match_empty
    (left_end c.args.trees.now c.loop-tree.tree-index c.loop-tree-test.false))

pub any_can_match_empty-loop-tree-preserved : goal.any_can_match_empty-loop-tree-preserved
any_can_match_empty-loop-tree-preserved t c =
    let trees = c.args.trees.now in
    let i = c.loop-tree.tree-index in
    let step = left_step trees i c.tree-item.result c.loop-tree-test.true c.tree-item.is in
    c.loop-tree.invariant ∙ ap any_can_match_empty step
    ∙ ap (λ b. b || any_can_match_empty (left trees (i + 1))) (sym c.can_match_empty.ensures ∙ c.if-can_match_empty.false)

pub any_can_match_empty-returns-then-can_match_empty : goal.any_can_match_empty-returns-then-can_match_empty
any_can_match_empty-returns-then-can_match_empty t c =
    let trees = c.args.trees.now in
    let i = c.loop-tree.tree-index in
    let step = left_step trees i c.tree-item.result c.loop-tree-test.true c.tree-item.is in
    sym (c.loop-tree.invariant ∙ ap any_can_match_empty step
    ∙ ap (λ b. b || any_can_match_empty (left trees (i + 1))) (sym c.can_match_empty.ensures ∙ c.if-can_match_empty.true))

pub any_can_match_empty-returns : goal.any_can_match_empty-returns
any_can_match_empty-returns t c =
    sym (c.loop-tree.invariant ∙ ap any_can_match_empty
    (left_end c.args.trees.now c.loop-tree.tree-index c.loop-tree-test.false))
