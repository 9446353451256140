use Rattle.std.proofs.Common.{◌≤◌, arith}
use Rattle.fancy_grammar.specs.Tree.{levels, levels_all, trees_of}
use Rattle.fancy_syntax.proofs.Descents.{levels_item}
use Rattle.fancy_syntax.specs.View.{view, views}
use Rattle.backtracking.proofs.automaton.Automaton.+add_tree.Goals as goal

pub add_all-add_tree-requires : goal.add_all-add_tree-requires
add_all-add_tree-requires t c =
    let found = c.in-Some.ensures.lookup in
    let low : levels (view c.in-Some.tree.now) ≤ levels_all (trees_of (views c.args.trees.now)) =
    levels_item c.args.trees.now _ c.in-Some.tree.now found.3.0 found.1 in
    (omega (arith, low), tt)

pub add_branches-add_tree-requires : goal.add_branches-add_tree-requires
add_branches-add_tree-requires t c =
    let low : levels (view c.index-branches-i.result) ≤ levels_all (trees_of (views c.args.branches.now)) =
    levels_item c.args.branches.now c.loop-i.i c.index-branches-i.result c.loop-i-test.true c.index-branches-i.is in
    (omega (arith, low), tt)
