use Rattle.std.proofs.Common.{◌+◌, ◌&&◌, ◌||◌, sym, ap, ◌∙◌}
use Rattle.fancy_syntax.proofs.PrintLemmas.{left, left_step, left_end}
use Rattle.patterns_lint.specs.Empty.{all_match_everywhere, any_matches_everywhere}
use Rattle.patterns_lint.proofs.empty.+everywhere.Goals as goal

pub all_match_everywhere-loop-tree-preserved : goal.all_match_everywhere-loop-tree-preserved
all_match_everywhere-loop-tree-preserved t c =
    let trees = c.args.trees.now in
    let i = c.loop-tree.tree-index in
    let step = left_step trees i c.tree-item.result c.loop-tree-test.true c.tree-item.is in
    c.loop-tree.invariant ∙ ap all_match_everywhere step
    ∙ ap (λ b. b && all_match_everywhere (left trees (i + 1)))
    (sym c.matches_everywhere.ensures ∙ c.if-not-matches_everywhere.false)

pub all_match_everywhere-returns-then-not-matches_everywhere : goal.all_match_everywhere-returns-then-not-matches_everywhere
all_match_everywhere-returns-then-not-matches_everywhere t c =
    let trees = c.args.trees.now in
    let i = c.loop-tree.tree-index in
    let step = left_step trees i c.tree-item.result c.loop-tree-test.true c.tree-item.is in
    sym (c.loop-tree.invariant ∙ ap all_match_everywhere step
    ∙ ap (λ b. b && all_match_everywhere (left trees (i + 1)))
    (sym c.matches_everywhere.ensures ∙ c.if-not-matches_everywhere.true))

pub all_match_everywhere-returns : goal.all_match_everywhere-returns
all_match_everywhere-returns t c =
    sym (c.loop-tree.invariant ∙ ap all_match_everywhere
    (left_end c.args.trees.now c.loop-tree.tree-index c.loop-tree-test.false))

pub any_matches_everywhere-loop-tree-preserved : goal.any_matches_everywhere-loop-tree-preserved
any_matches_everywhere-loop-tree-preserved t c =
    let trees = c.args.trees.now in
    let i = c.loop-tree.tree-index in
    let step = left_step trees i c.tree-item.result c.loop-tree-test.true c.tree-item.is in
    c.loop-tree.invariant ∙ ap any_matches_everywhere step
    ∙ ap (λ b. b || any_matches_everywhere (left trees (i + 1))) (sym c.matches_everywhere.ensures ∙ c.if-matches_everywhere.false)

pub any_matches_everywhere-returns-then-matches_everywhere : goal.any_matches_everywhere-returns-then-matches_everywhere
any_matches_everywhere-returns-then-matches_everywhere t c =
    let trees = c.args.trees.now in
    let i = c.loop-tree.tree-index in
    let step = left_step trees i c.tree-item.result c.loop-tree-test.true c.tree-item.is in
    sym (c.loop-tree.invariant ∙ ap any_matches_everywhere step
    ∙ ap (λ b. b || any_matches_everywhere (left trees (i + 1))) (sym c.matches_everywhere.ensures ∙ c.if-matches_everywhere.true))

pub any_matches_everywhere-returns : goal.any_matches_everywhere-returns
any_matches_everywhere-returns t c =
    sym (c.loop-tree.invariant ∙ ap any_matches_everywhere
    (left_end c.args.trees.now c.loop-tree.tree-index c.loop-tree-test.false))
