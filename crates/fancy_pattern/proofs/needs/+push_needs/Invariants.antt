use Rattle.std.proofs.Common.{length}
use Rattle.fancy_grammar.specs.PatternNeeds.{first, both}
use Rattle.fancy_grammar.specs.Tree.{levels}
use Rattle.fancy_syntax.specs.View.{view}
use Rattle.fancy_syntax.specs.Children.{remaining_children}
use Rattle.fancy_syntax.proofs.Descents.{Within}
use Rattle.fancy_pattern.proofs.NeedsWalk.{Joining, Listing}
use Rattle.fancy_pattern.proofs.needs.+push_needs.Given as goal

abbrev pub decreases-push_needs : goal.decreases-push_needs
decreases-push_needs l = levels (view l.tree.now)

abbrev pub invariant-loop-child : goal.invariant-loop-child
invariant-loop-child l = record {
  within : Within l.tree (remaining_children l.children);
  joining : Joining first l.oniguruma_mode (view l.tree) l.needs.first (remaining_children l.children);
  common : Joining both l.oniguruma_mode (view l.tree) l.needs.common (remaining_children l.children);
  listing : Listing l.oniguruma_mode (view l.tree) l.fn.list.items l.list.items (remaining_children l.children);
}

abbrev pub decreases-loop-child : goal.decreases-loop-child
decreases-loop-child l = length (remaining_children l.children)
