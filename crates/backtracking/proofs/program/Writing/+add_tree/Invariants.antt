use Rattle.std.proofs.Common.{◌+◌, ◌*◌}
use Rattle.fancy_grammar.specs.Tree.{levels, levels_all, no_trees, more_trees, trees_of}
use Rattle.fancy_syntax.specs.View.{view, views}
use Rattle.backtracking.proofs.program.Writing.+add_tree.Given as goal

abbrev pub decreases-add_tree : goal.decreases-add_tree
decreases-add_tree l = 3 * levels (view l.tree.now)

abbrev pub decreases-add_group : goal.decreases-add_group
decreases-add_group l = 3 * levels (view l.tree.now) + 1

abbrev pub decreases-add_atomic : goal.decreases-add_atomic
decreases-add_atomic l = 3 * levels (view l.tree.now) + 1

abbrev pub decreases-add_look_around : goal.decreases-add_look_around
decreases-add_look_around l = 3 * levels (view l.tree.now) + 1

abbrev pub decreases-add_turns : goal.decreases-add_turns
decreases-add_turns l = 3 * levels (view l.tree.now) + 1

abbrev pub decreases-add_further_turns : goal.decreases-add_further_turns
decreases-add_further_turns l = 3 * levels (view l.tree.now) + 1

abbrev pub decreases-add_loop : goal.decreases-add_loop
decreases-add_loop l = 3 * levels (view l.tree.now) + 1

abbrev pub decreases-add_repeat : goal.decreases-add_repeat
decreases-add_repeat l = 3 * levels (view l.tree.now) + 2

abbrev pub decreases-add_all : goal.decreases-add_all
decreases-add_all l = 3 * levels_all (trees_of (views l.trees.now)) + 1

abbrev pub decreases-add_branches : goal.decreases-add_branches
decreases-add_branches l = 3 * levels_all (trees_of (views l.branches.now)) + 1

abbrev pub decreases-add_conditional : goal.decreases-add_conditional
decreases-add_conditional l =
    3 * levels_all (more_trees (view l.condition.now) (more_trees (view l.true_branch.now) (more_trees (view l.false_branch.now) no_trees))) + 1
