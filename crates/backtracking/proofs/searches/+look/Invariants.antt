use Rattle.std.proofs.Common.{◌≡◌, map}
use Rattle.std.specs.List.{AllByRecursion}
use Rattle.fancy_syntax.specs.Spanned.{Spanned, remaining_spanned, spanned_of}
use Rattle.fancy_syntax.specs.Tree.{levels}
use Rattle.fancy_syntax.specs.View.{view}
use Rattle.fancy_syntax.proofs.Descents.{Within}
use Rattle.backtracking.specs.SlowSearches.{any_character, IsBranchOf, IsSlowSearchIn}
use Rattle.fancy_syntax.proofs.NodeLemmas.{Remain}
use Rattle.backtracking.proofs.searches.+look.Given as goal

abbrev pub decreases-look : goal.decreases-look
decreases-look l = levels (view (spanned_of l.node).expr)

abbrev pub invariant-loop-child : goal.invariant-loop-child
invariant-loop-child l = record {
  within : Within (spanned_of l.fn.node).expr (map (λ p. p.expr) (remaining_spanned l.child-iterator));
  left : Remain (spanned_of l.fn.node) (remaining_spanned l.child-iterator);
  added : (pattern : Spanned) → IsBranchOf pattern (spanned_of l.fn.node) → view l.fn.searching.any.now ≡ any_character →
      AllByRecursion (IsSlowSearchIn l.fn.searching.options.unicode pattern) l.fn.found.items →
      AllByRecursion (IsSlowSearchIn l.fn.searching.options.unicode pattern) l.found.items;
}
