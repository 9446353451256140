use Rattle.std.proofs.Common.{◌+◌, ◌*◌, []}
use Rattle.fancy_grammar.specs.Tree.{levels, levels_all, more_trees, no_trees, trees_of}
use Rattle.fancy_syntax.proofs.PrintLemmas.{left}
use Rattle.fancy_syntax.specs.View.{view, views}
use Rattle.pattern_fixes.specs.Fixed.{AreFixed, AreBranches}
use Rattle.pattern_fixes.proofs.FixedLemmas.{BranchesFrom}
use Rattle.pattern_fixes.proofs.tree.+is_fixed.Given as goal

abbrev pub decreases-is_fixed : goal.decreases-is_fixed
decreases-is_fixed l = 3 * levels (view l.old.now)

abbrev pub decreases-is_fixed_around : goal.decreases-is_fixed_around
decreases-is_fixed_around l = 3 * levels (view l.child.now) + 1

abbrev pub decreases-is_fixed_conditional : goal.decreases-is_fixed_conditional
decreases-is_fixed_conditional l =
    3 * levels_all (more_trees (view l.condition.now)
    (more_trees (view l.true_branch.now) (more_trees (view l.false_branch.now) no_trees))) + 1

abbrev pub decreases-is_fixed_alternation : goal.decreases-is_fixed_alternation
decreases-is_fixed_alternation l = 3 * levels_all (trees_of (views l.old.now)) + 2

abbrev pub decreases-are_branches : goal.decreases-are_branches
decreases-are_branches l = 3 * levels_all (trees_of (views l.old.now)) + 1

abbrev pub decreases-are_fixed : goal.decreases-are_fixed
decreases-are_fixed l = 3 * levels_all (trees_of (views l.old.now)) + 1

abbrev pub invariant-are_branches-loop-i : goal.invariant-are_branches-loop-i
invariant-are_branches-loop-i l = BranchesFrom l.unicode l.old l.i l.rest → AreBranches l.unicode [] (views l.old) (views l.new)

abbrev pub invariant-are_fixed-loop-tree : goal.invariant-are_fixed-loop-tree
invariant-are_fixed-loop-tree l =
    AreFixed l.unicode (left l.old l.tree-index) (trees_of (views l.rest))
    → AreFixed l.unicode (trees_of (views l.old)) (trees_of (views l.new))
