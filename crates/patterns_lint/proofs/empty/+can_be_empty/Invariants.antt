use Rattle.std.proofs.Common.{◌≡◌}
use Rattle.fancy_syntax.proofs.PrintLemmas.{left}
use Rattle.patterns_lint.specs.Empty.{all_can_match_empty, any_can_match_empty}
use Rattle.patterns_lint.proofs.empty.+can_be_empty.Given as goal

abbrev pub invariant-all_can_match_empty-loop-tree : goal.invariant-all_can_match_empty-loop-tree
invariant-all_can_match_empty-loop-tree l = all_can_match_empty (left l.trees 0) ≡ all_can_match_empty
    (left l.trees l.tree-index)

abbrev pub invariant-any_can_match_empty-loop-tree : goal.invariant-any_can_match_empty-loop-tree
invariant-any_can_match_empty-loop-tree l = any_can_match_empty (left l.trees 0) ≡ any_can_match_empty
    (left l.trees l.tree-index)
