use Rattle.fancy_syntax.specs.Children.{remaining_children}
use Rattle.fancy_syntax.specs.Tree.{levels}
use Rattle.fancy_syntax.specs.View.{view}
use Rattle.fancy_syntax.proofs.Descents.{Sweep}
use Rattle.patterns_lint.proofs.fingerprint.+add_tree.Given as goal

abbrev pub decreases-add_tree : goal.decreases-add_tree
decreases-add_tree l = levels (view l.tree.now)

abbrev pub invariant-loop-child : goal.invariant-loop-child
invariant-loop-child l = Sweep (λ _. Unit {0}) l.tree (remaining_children l.child-iterator)
