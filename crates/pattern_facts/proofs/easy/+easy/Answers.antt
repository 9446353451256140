use Rattle.std.proofs.Common.{◌≤◌, arith}
use Rattle.fancy_grammar.specs.Tree.{levels, levels_all, trees_of}
use Rattle.fancy_syntax.proofs.Descents.{levels_item}
use Rattle.fancy_syntax.specs.View.{view, views}
use Rattle.pattern_facts.proofs.easy.+easy.Goals as goal

pub are_easy-is_easy_tree-requires : goal.are_easy-is_easy_tree-requires
are_easy-is_easy_tree-requires t c =
    let low : levels (view c.tree-item.result) ≤ levels_all (trees_of (views c.args.trees.now)) =
    levels_item c.args.trees.now c.loop-tree.tree-index c.tree-item.result c.loop-tree-test.true c.tree-item.is in
    (omega (arith, low), tt)
