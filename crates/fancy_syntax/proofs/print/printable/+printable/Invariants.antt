use Rattle.std.proofs.Common.{◌≡◌, ◌+◌, ◌*◌, false}
use Rattle.fancy_grammar.specs.HasDelegate.{any_has_delegate}
use Rattle.fancy_grammar.specs.Printable.{all_printable}
use Rattle.fancy_grammar.specs.Tree.{levels, levels_all, trees_of}
use Rattle.fancy_syntax.specs.View.{view, views}
use Rattle.fancy_syntax.proofs.PrintLemmas.{left}
use Rattle.fancy_syntax.proofs.print.printable.+printable.Given as goal

abbrev pub decreases-is_printable : goal.decreases-is_printable
decreases-is_printable l = 2 * levels (view l.tree.now)

abbrev pub decreases-is_printable_around : goal.decreases-is_printable_around
decreases-is_printable_around l = 2 * levels (view l.child.now) + 1

abbrev pub decreases-are_printable : goal.decreases-are_printable
decreases-are_printable l = 2 * levels_all (trees_of (views l.trees.now)) + 1

abbrev pub invariant-are_printable-loop-tree : goal.invariant-are_printable-loop-tree
invariant-are_printable-loop-tree l = record {
  same : all_printable (left l.trees 0) ≡ all_printable (left l.trees l.tree-index);
  without_delegate : any_has_delegate (left l.trees 0) ≡ false → any_has_delegate (left l.trees l.tree-index) ≡ false;
}
