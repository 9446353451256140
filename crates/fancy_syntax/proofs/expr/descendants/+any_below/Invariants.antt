use Rattle.std.proofs.Common.{length, false}
use Rattle.std.specs.Fn.{FnReturnsAt}
use Rattle.fancy_grammar.specs.Tree.{levels}
use Rattle.fancy_syntax.specs.View.{view}
use Rattle.fancy_syntax.specs.Children.{remaining_children}
use Rattle.fancy_syntax.proofs.Descents.{Sweep}
use Rattle.fancy_syntax.proofs.expr.descendants.+any_below.Given as goal

abbrev pub decreases-any_below : goal.decreases-any_below
decreases-any_below g l = levels (view l.tree.now)

abbrev pub invariant-loop-child : goal.invariant-loop-child
invariant-loop-child g l = Sweep (λ d. FnReturnsAt g.F.Fn l.predicate d false) l.tree (remaining_children l.children)

abbrev pub decreases-loop-child : goal.decreases-loop-child
decreases-loop-child g l = length (remaining_children l.children)
