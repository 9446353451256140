use Rattle.std.proofs.Common.{◌+◌, ◌*◌, length}
use Rattle.std.specs.List.{flat_map}
use Rattle.fancy_grammar.specs.PatternWalk.{needs_listed, all_listed}
use Rattle.fancy_grammar.specs.Tree.{levels, levels_all, children, trees_of}
use Rattle.fancy_syntax.specs.View.{view, views}
use Rattle.fancy_syntax.specs.Children.{remaining_children}
use Rattle.fancy_syntax.proofs.Descents.{Within}
use Rattle.fancy_syntax.proofs.PrintLemmas.{left}
use Rattle.fancy_pattern.proofs.NeedsWalk.{MetSoFar}
use Rattle.fancy_pattern.proofs.needs.+are_met.Given as goal

-- Each call that goes down to a child loses a level, and so three; a call with the same tree loses what is added.

abbrev pub decreases-are_met_by_any : goal.decreases-are_met_by_any
decreases-are_met_by_any l = 3 * levels (view l.tree.now)

abbrev pub decreases-are_met_by_leaves : goal.decreases-are_met_by_leaves
decreases-are_met_by_leaves l = 3 * levels (view l.tree.now) + 1

abbrev pub decreases-are_met_by_all : goal.decreases-are_met_by_all
decreases-are_met_by_all l = 3 * levels_all (trees_of (views l.trees.now)) + 2

abbrev pub invariant-are_met_by_any-loop-child : goal.invariant-are_met_by_any-loop-child
invariant-are_met_by_any-loop-child l = record {
  within : Within l.tree (remaining_children l.children);
  met : MetSoFar l.flags l.flags.oniguruma_mode
      (flat_map (needs_listed l.flags.oniguruma_mode) (views (remaining_children l.children)))
      (flat_map (needs_listed l.flags.oniguruma_mode) (children (view l.tree)));
}

abbrev pub decreases-are_met_by_any-loop-child : goal.decreases-are_met_by_any-loop-child
decreases-are_met_by_any-loop-child l = length (remaining_children l.children)

abbrev pub invariant-are_met_by_all-loop-tree : goal.invariant-are_met_by_all-loop-tree
invariant-are_met_by_all-loop-tree l = MetSoFar l.flags l.flags.oniguruma_mode
    (all_listed l.flags.oniguruma_mode (left l.trees l.tree-index))
    (all_listed l.flags.oniguruma_mode (trees_of (views l.trees)))
