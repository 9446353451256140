use Rattle.std.proofs.Common.{◌+◌, ◌*◌}
use Rattle.fancy_grammar.specs.Tree.{levels, levels_all, trees_of}
use Rattle.fancy_syntax.specs.View.{view, views}
use Rattle.backtracking.proofs.part_kind.PartFacts.+add.Given as goal

abbrev pub decreases-add : goal.decreases-add
decreases-add l = 2 * levels (view l.tree.now)

abbrev pub decreases-add_all : goal.decreases-add_all
decreases-add_all l = 2 * levels_all (trees_of (views l.trees.now)) + 1
