use Rattle.std.proofs.Common.{◌+◌, ◌*◌}
use Rattle.fancy_grammar.specs.Tree.{levels, levels_all, trees_of}
use Rattle.fancy_syntax.specs.View.{view, views}
use Rattle.backtracking.proofs.automaton.Automaton.+add_tree.Given as goal

abbrev pub decreases-add_tree : goal.decreases-add_tree
decreases-add_tree l = 3 * levels (view l.tree.now)

abbrev pub decreases-add_turn : goal.decreases-add_turn
decreases-add_turn l = 3 * levels (view l.tree.now) + 1

abbrev pub decreases-add_repeat : goal.decreases-add_repeat
decreases-add_repeat l = 3 * levels (view l.tree.now) + 2

abbrev pub decreases-add_all : goal.decreases-add_all
decreases-add_all l = 3 * levels_all (trees_of (views l.trees.now)) + 1

abbrev pub decreases-add_branches : goal.decreases-add_branches
decreases-add_branches l = 3 * levels_all (trees_of (views l.branches.now)) + 1
