use Rattle.std.proofs.Common.{subst, arith}
use Rattle.fancy_c.specs.RowTree.{AreBuiltFrom}
use Rattle.fancy_c.proofs.built.tree_at.Goals as goal

pub build-requires-clause-below : goal.build-requires-clause-below
build-requires-clause-below c =
    subst (λ n. AreBuiltFrom c.args.texts.now c.args.nodes.now n c.loop-done.built.items)
    (omega (arith, c.loop-done-test.true)) c.loop-done.invariant
