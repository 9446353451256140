use Rattle.std.proofs.Common.{◌≤◌, arith}
use Rattle.fancy_grammar.specs.Tree.{levels, levels_all, trees_of}
use Rattle.fancy_syntax.proofs.Descents.{levels_item}
use Rattle.fancy_syntax.specs.View.{view, views}
use Rattle.backtracking.proofs.width.+width_of.Goals as goal

pub width_of_all-width_of-requires : goal.width_of_all-width_of-requires
width_of_all-width_of-requires t c =
    let low : levels (view c.tree-item.result) ≤ levels_all (trees_of (views c.args.trees.now)) =
    levels_item c.args.trees.now c.loop-tree.tree-index c.tree-item.result c.loop-tree-test.true c.tree-item.is in
    (omega (arith, low), tt)

pub common_width-width_of-requires : goal.common_width-width_of-requires
common_width-width_of-requires t c =
    let low : levels (view c.tree-item.result) ≤ levels_all (trees_of (views c.args.trees.now)) =
    levels_item c.args.trees.now c.loop-tree.tree-index c.tree-item.result c.loop-tree-test.true c.tree-item.is in
    (omega (arith, low), tt)
