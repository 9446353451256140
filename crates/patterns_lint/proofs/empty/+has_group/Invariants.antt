use Rattle.std.proofs.Common.{◌≡◌}
use Rattle.fancy_syntax.proofs.PrintLemmas.{left}
use Rattle.patterns_lint.specs.Empty.{any_has_group}
use Rattle.patterns_lint.proofs.empty.+has_group.Given as goal

abbrev pub invariant-any_has_group-loop-tree : goal.invariant-any_has_group-loop-tree
invariant-any_has_group-loop-tree l = any_has_group (left l.trees 0) ≡ any_has_group (left l.trees l.tree-index)
