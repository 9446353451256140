use Rattle.std.proofs.Math.Logic.{∥∥₁_map}
use Rattle.class_rules.proofs.class_walk.add_findings.Goals as goal

pub loop-finding-preserved : goal.loop-finding-preserved
loop-finding-preserved c flags pattern class is h tree k all =
    c.in_ok-add_finding.ensures flags pattern class is (∥∥₁_map h (λ ps. ps c.loop-finding.finding-index _ c.loop-finding-test.true))
    tree k (c.loop-finding.invariant flags pattern class is h tree k all)
