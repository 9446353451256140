use Rattle.std.proofs.Common.{◌≡◌}
use Rattle.fancy_syntax.proofs.PrintLemmas.{left}
use Rattle.patterns_lint.specs.Empty.{all_match_everywhere, any_matches_everywhere}
use Rattle.patterns_lint.proofs.empty.+everywhere.Given as goal

abbrev pub invariant-all_match_everywhere-loop-tree : goal.invariant-all_match_everywhere-loop-tree
invariant-all_match_everywhere-loop-tree l = all_match_everywhere (left l.trees 0) ≡ all_match_everywhere
    (left l.trees l.tree-index)

abbrev pub invariant-any_matches_everywhere-loop-tree : goal.invariant-any_matches_everywhere-loop-tree
invariant-any_matches_everywhere-loop-tree l = any_matches_everywhere (left l.trees 0) ≡ any_matches_everywhere
    (left l.trees l.tree-index)
