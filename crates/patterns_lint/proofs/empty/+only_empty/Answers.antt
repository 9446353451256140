use Rattle.std.proofs.Common.{◌+◌, ◌&&◌, sym, ap, ◌∙◌}
use Rattle.fancy_syntax.proofs.PrintLemmas.{left, left_step, left_end}
use Rattle.patterns_lint.specs.Empty.{all_match_only_empty}
use Rattle.patterns_lint.proofs.empty.+only_empty.Goals as goal

pub all_match_only_empty-loop-tree-preserved : goal.all_match_only_empty-loop-tree-preserved
all_match_only_empty-loop-tree-preserved t c =
    let trees = c.args.trees.now in
    let i = c.loop-tree.tree-index in
    let step = left_step trees i c.tree-item.result c.loop-tree-test.true c.tree-item.is in
    c.loop-tree.invariant ∙ ap all_match_only_empty step
    ∙ ap (λ b. b && all_match_only_empty (left trees (i + 1)))
    (sym c.matches_only_empty.ensures ∙ c.if-not-matches_only_empty.false)

pub all_match_only_empty-returns-then-not-matches_only_empty :
    goal.all_match_only_empty-returns-then-not-matches_only_empty
all_match_only_empty-returns-then-not-matches_only_empty t c =
    let trees = c.args.trees.now in
    let i = c.loop-tree.tree-index in
    let step = left_step trees i c.tree-item.result c.loop-tree-test.true c.tree-item.is in
    sym (c.loop-tree.invariant ∙ ap all_match_only_empty step
    ∙ ap (λ b. b && all_match_only_empty (left trees (i + 1)))
    (sym c.matches_only_empty.ensures ∙ c.if-not-matches_only_empty.true))

pub all_match_only_empty-returns : goal.all_match_only_empty-returns
all_match_only_empty-returns t c =
    sym (c.loop-tree.invariant ∙ ap all_match_only_empty
    (left_end c.args.trees.now c.loop-tree.tree-index c.loop-tree-test.false))
