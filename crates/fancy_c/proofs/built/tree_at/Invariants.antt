use Rattle.std.proofs.Common.{◌-◌}
use Rattle.fancy_c.specs.RowTree.{AreBuiltFrom}
use Rattle.fancy_c.proofs.built.tree_at.Given as goal

abbrev pub invariant-loop-done : goal.invariant-loop-done
invariant-loop-done l = AreBuiltFrom l.texts l.nodes (l.end - l.done) l.built.items
