use Rattle.std.proofs.Common.{◌≡◌, true, drop}
use Rattle.fancy_syntax.specs.View.{views}
use Rattle.class_rules.specs.Beginnings.{are_optional}
use Rattle.class_rules.proofs.beginnings.are_optional.Given as goal

abbrev pub invariant-loop-tree : goal.invariant-loop-tree
invariant-loop-tree l =
    are_optional (views (drop l.tree-index l.trees)) ≡ true → are_optional (views l.trees) ≡ true
