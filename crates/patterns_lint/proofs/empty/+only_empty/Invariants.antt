use Rattle.std.proofs.Common.{◌≡◌}
use Rattle.fancy_syntax.proofs.PrintLemmas.{left}
use Rattle.patterns_lint.specs.Empty.{all_match_only_empty}
use Rattle.patterns_lint.proofs.empty.+only_empty.Given as goal

abbrev pub invariant-all_match_only_empty-loop-tree : goal.invariant-all_match_only_empty-loop-tree
invariant-all_match_only_empty-loop-tree l = all_match_only_empty (left l.trees 0) ≡ all_match_only_empty
    (left l.trees l.tree-index)
