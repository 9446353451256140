use Rattle.std.proofs.Common.{◌≡◌, take}
use Rattle.fancy_syntax.specs.View.{views}
use Rattle.fancy_syntax.proofs.expr.+clone.Given as goal

abbrev pub invariant-clone::clone_all-loop-tree : goal.invariant-clone::clone_all-loop-tree
invariant-clone::clone_all-loop-tree l = views l.all.items ≡ views (take l.tree-index l.trees)
