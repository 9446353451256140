use Rattle.std.proofs.Common.{◌+◌, ◌*◌}
use Rattle.fancy_grammar.specs.Tree.{levels, levels_all, trees_of}
use Rattle.fancy_syntax.specs.View.{view, views}
use Rattle.backtracking.proofs.pieces.+can_be_empty.Given as goal

abbrev pub decreases-can_be_empty : goal.decreases-can_be_empty
decreases-can_be_empty l = 2 * levels (view l.tree.now)

abbrev pub decreases-can_all_be_empty : goal.decreases-can_all_be_empty
decreases-can_all_be_empty l = 2 * levels_all (trees_of (views l.trees.now)) + 1

abbrev pub decreases-can_any_be_empty : goal.decreases-can_any_be_empty
decreases-can_any_be_empty l = 2 * levels_all (trees_of (views l.trees.now)) + 1
