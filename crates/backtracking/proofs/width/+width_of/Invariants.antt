use Rattle.std.proofs.Common.{◌+◌, ◌*◌}
use Rattle.fancy_grammar.specs.Tree.{levels, levels_all, trees_of}
use Rattle.fancy_syntax.specs.View.{view, views}
use Rattle.backtracking.proofs.width.+width_of.Given as goal

abbrev pub decreases-width_of : goal.decreases-width_of
decreases-width_of l = 2 * levels (view l.tree.now)

abbrev pub decreases-width_of_all : goal.decreases-width_of_all
decreases-width_of_all l = 2 * levels_all (trees_of (views l.trees.now)) + 1

abbrev pub decreases-common_width : goal.decreases-common_width
decreases-common_width l = 2 * levels_all (trees_of (views l.trees.now)) + 1
