use Rattle.class_rules.proofs.BeginningLemmas.{optional_next, optional_end}
use Rattle.class_rules.proofs.beginnings.are_optional.Goals as goal

pub loop-tree-preserved : goal.loop-tree-preserved
loop-tree-preserved c others =
    c.loop-tree.invariant (optional_next c.args.trees.now c.loop-tree.tree-index c.tree-item.result
    c.loop-tree-test.true c.tree-item.is (c.is_optional.ensures c.if-not-is_optional.false) others)

pub returns : goal.returns
returns c _ =
    c.loop-tree.invariant (optional_end c.args.trees.now c.loop-tree.tree-index c.loop-tree-test.false)
