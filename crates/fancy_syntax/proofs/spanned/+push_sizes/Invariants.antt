use Rattle.std.proofs.Common.{length}
use Rattle.fancy_grammar.specs.Tree.{levels}
use Rattle.fancy_syntax.specs.Children.{remaining_children}
use Rattle.fancy_syntax.specs.View.{view}
use Rattle.fancy_syntax.proofs.Descents.{Within}
use Rattle.fancy_syntax.proofs.SpannedLemmas.{Counting}
use Rattle.fancy_syntax.proofs.spanned.+push_sizes.Given as goal

abbrev pub decreases-push_sizes : goal.decreases-push_sizes
decreases-push_sizes l = levels (view l.tree.now)

abbrev pub invariant-loop-child : goal.invariant-loop-child
invariant-loop-child l = record {
  within : Within l.tree (remaining_children l.children);
  counting : Counting (view l.tree) l.fn.sizes.items l.sizes.items (remaining_children l.children);
}

abbrev pub decreases-loop-child : goal.decreases-loop-child
decreases-loop-child l = length (remaining_children l.children)
