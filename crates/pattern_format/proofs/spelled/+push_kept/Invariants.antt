use Rattle.std.proofs.Common.{length}
use Rattle.fancy_grammar.specs.Tree.{levels}
use Rattle.fancy_syntax.specs.Children.{remaining_children}
use Rattle.fancy_syntax.specs.View.{view}
use Rattle.fancy_syntax.proofs.Descents.{Within}
use Rattle.pattern_format.proofs.SpelledLemmas.{Keeping}
use Rattle.pattern_format.proofs.spelled.+push_kept.Given as goal

abbrev pub decreases-push_kept : goal.decreases-push_kept
decreases-push_kept l = levels (view l.tree.now)

abbrev pub invariant-loop-child : goal.invariant-loop-child
invariant-loop-child l = record {
  within : Within l.tree (remaining_children l.children);
  keeping : Keeping (view l.tree) l.fn.kept.items l.kept.items (remaining_children l.children);
}

abbrev pub decreases-loop-child : goal.decreases-loop-child
decreases-loop-child l = length (remaining_children l.children)
