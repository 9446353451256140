use Rattle.std.proofs.Common.{◌≡◌, ◌+◌, ◌*◌}
use Rattle.fancy_grammar.specs.Tree.{levels, levels_all, trees_of}
use Rattle.fancy_syntax.specs.View.{view, views}
use Rattle.fancy_syntax.proofs.PrintLemmas.{left}
use Rattle.fancy_grammar.proofs.PrintableLemmas.{empties}
use Rattle.fancy_syntax.proofs.print.printable.+normal.Given as goal

abbrev pub decreases-is_empty_in_normal_form : goal.decreases-is_empty_in_normal_form
decreases-is_empty_in_normal_form l = 2 * levels (view l.tree.now)

abbrev pub decreases-are_empty_in_normal_form : goal.decreases-are_empty_in_normal_form
decreases-are_empty_in_normal_form l = 2 * levels_all (trees_of (views l.trees.now)) + 1

abbrev pub invariant-are_empty_in_normal_form-loop-tree : goal.invariant-are_empty_in_normal_form-loop-tree
invariant-are_empty_in_normal_form-loop-tree l = empties (left l.trees 0) ≡ empties (left l.trees l.tree-index)
