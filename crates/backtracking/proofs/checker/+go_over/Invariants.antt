use Rattle.std.proofs.Common.{◌+◌, ◌*◌, ◌≤◌, length}
use Rattle.fancy_grammar.specs.Tree.{levels, levels_all, trees_of}
use Rattle.fancy_syntax.specs.View.{view, views}
use Rattle.fancy_syntax.proofs.PrintLemmas.{left}
use Rattle.backtracking.specs.TwoWays.{Rest, GoesAll, Turns}
use Rattle.backtracking.specs.Remains.{rest_of}
use Rattle.backtracking.proofs.checker.+go_over.Given as goal

abbrev pub decreases-go_over : goal.decreases-go_over
decreases-go_over l = 3 * levels (view l.tree.now)

abbrev pub decreases-take_turns : goal.decreases-take_turns
decreases-take_turns l = 3 * levels (view l.tree.now) + 1

abbrev pub decreases-go_over_repeat : goal.decreases-go_over_repeat
decreases-go_over_repeat l = 3 * levels (view l.tree.now) + 2

abbrev pub decreases-go_over_all : goal.decreases-go_over_all
decreases-go_over_all l = 3 * levels_all (trees_of (views l.trees.now)) + 1

abbrev pub decreases-go_over_branch : goal.decreases-go_over_branch
decreases-go_over_branch l = 3 * levels_all (trees_of (views l.branches.now)) + 1

abbrev pub invariant-go_over_all-loop-tree : goal.invariant-go_over_all-loop-tree
invariant-go_over_all-loop-tree l =
    (u : Rest) → GoesAll l.fn.unicode (left l.trees l.tree-index) (rest_of l.now) u → GoesAll l.fn.unicode (left l.trees 0) (rest_of l.fn.from) u

abbrev pub invariant-take_turns-loop-count : goal.invariant-take_turns-loop-count
invariant-take_turns-loop-count l =
    Turns l.fn.unicode (view l.tree) l.count (rest_of l.fn.from) (rest_of l.now) × l.count ≤ l.most

abbrev pub decreases-take_turns-loop-count : goal.decreases-take_turns-loop-count
decreases-take_turns-loop-count l = length l.now.text.now
