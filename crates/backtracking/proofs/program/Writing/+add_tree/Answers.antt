use Rattle.std.proofs.Common.{◌≤◌, arith}
use Rattle.fancy_grammar.specs.Tree.{levels, levels_all, trees_of}
use Rattle.fancy_syntax.proofs.Descents.{levels_item}
use Rattle.fancy_syntax.specs.View.{view, views}
use Rattle.backtracking.proofs.program.Writing.+add_tree.Goals as goal

pub add_all-add_tree-requires : goal.add_all-add_tree-requires
add_all-add_tree-requires t c =
    let low : levels (view c.tree-item.result) ≤ levels_all (trees_of (views c.args.trees.now)) =
    levels_item c.args.trees.now c.loop-tree.tree-index c.tree-item.result c.loop-tree-test.true c.tree-item.is in
    (omega (arith, low), tt)

pub add_branches-add_tree-requires : goal.add_branches-add_tree-requires
add_branches-add_tree-requires t c =
    let low : levels (view c.branch-item.result) ≤ levels_all (trees_of (views c.args.branches.now)) =
    levels_item c.args.branches.now c.loop-branch.branch-index c.branch-item.result c.loop-branch-test.true c.branch-item.is in
    (omega (arith, low), tt)

pub add_conditional-add_tree-requires : goal.add_conditional-add_tree-requires
add_conditional-add_tree-requires t c = (omega arith, tt)

pub add_conditional-add_tree-requires-2 : goal.add_conditional-add_tree-requires-2
add_conditional-add_tree-requires-2 t c = (omega arith, tt)

pub add_conditional-add_tree-requires-3 : goal.add_conditional-add_tree-requires-3
add_conditional-add_tree-requires-3 t c = (omega arith, tt)
