use Rattle.std.proofs.Common.{map}
use Rattle.fancy_syntax.specs.Spanned.{remaining_spanned, spanned_of}
use Rattle.fancy_syntax.specs.Tree.{levels}
use Rattle.fancy_syntax.specs.View.{view}
use Rattle.fancy_syntax.proofs.Descents.{Within}
use Rattle.patterns_text.proofs.nodes.+push_nodes.Given as goal

abbrev pub decreases-push_nodes : goal.decreases-push_nodes
decreases-push_nodes l = levels (view (spanned_of l.node).expr)

abbrev pub invariant-loop-child : goal.invariant-loop-child
invariant-loop-child l = Within (spanned_of l.fn.node).expr (map (λ p. p.expr) (remaining_spanned l.child-iterator))
