use Rattle.std.proofs.Common.{◌≡◌, length}
use Rattle.fancy_grammar.specs.References.{are_resolved}
use Rattle.fancy_grammar.specs.Tree.{levels}
use Rattle.fancy_syntax.specs.Children.{remaining_children}
use Rattle.fancy_syntax.specs.View.{view, views}
use Rattle.fancy_syntax.proofs.Descents.{Sweep}
use Rattle.fancy_syntax.proofs.ResolvedLemmas.{all_resolved}
use Rattle.fancy_syntax.proofs.tree.resolved.+are_resolved.Given as goal

abbrev pub decreases-are_resolved : goal.decreases-are_resolved
decreases-are_resolved l = levels (view l.tree.now)

abbrev pub invariant-loop-child : goal.invariant-loop-child
invariant-loop-child l = record {
  sweep : Sweep (λ _. Unit {0}) l.tree (remaining_children l.children);
  so_far : are_resolved l.groups (view l.tree) ≡ all_resolved l.groups (views (remaining_children l.children));
}

abbrev pub decreases-loop-child : goal.decreases-loop-child
decreases-loop-child l = length (remaining_children l.children)
