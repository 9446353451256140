use Rattle.std.proofs.Common.{◌≡◌, map}
use Rattle.fancy_lex.specs.Flags.{flags_of}
use Rattle.fancy_syntax.specs.Spanned.{remaining_spanned, spanned_of}
use Rattle.fancy_syntax.specs.Tree.{levels}
use Rattle.fancy_syntax.specs.View.{view}
use Rattle.fancy_syntax.proofs.Descents.{Within}
use Rattle.class_rules.specs.ClassFindings.{KeepsFound}
use Rattle.fancy_syntax.proofs.NodeLemmas.{Remain}
use Rattle.class_rules.proofs.class_walk.+walk.Given as goal

abbrev pub decreases-walk : goal.decreases-walk
decreases-walk l = levels (view (spanned_of l.node).expr)

abbrev pub invariant-loop-child : goal.invariant-loop-child
invariant-loop-child l = record {
  within : Within (spanned_of l.fn.node).expr (map (λ p. p.expr) (remaining_spanned l.child-iterator));
  left : Remain (spanned_of l.fn.node) (remaining_spanned l.child-iterator);
  flags : l.known.flags ≡ l.fn.known.flags;
  kept : KeepsFound (flags_of l.fn.known.flags) l.fn.pattern (spanned_of l.fn.node) l.fn.found.items l.found.items;
}
