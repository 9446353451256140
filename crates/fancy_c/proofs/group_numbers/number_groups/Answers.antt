use Rattle.std.proofs.Common.{arith}
use Rattle.fancy_c.proofs.NumberedLemmas.{numbering_group, numbering_other, numbering_ends}
use Rattle.fancy_c.proofs.group_numbers.number_groups.Goals.{then-nodes-i-eq-NODE_GROUP, else-nodes-i-eq-NODE_GROUP}
use Rattle.fancy_c.proofs.group_numbers.number_groups.Goals as goal

pub loop-i-preserved : goal.loop-i-preserved
loop-i-preserved c = elim c.if-nodes-i-eq-NODE_GROUP.branch [
  | then-nodes-i-eq-NODE_GROUP w ↦
      numbering_group _ _ _ _ _ _ _ _ c.requires c.loop-i-test.true c.loop-i.invariant
      w.if-nodes-i-eq-NODE_GROUP.true w.nodes-is w.groups-is
  | else-nodes-i-eq-NODE_GROUP w ↦
      numbering_other _ _ _ _ _ _ _ _ c.requires c.loop-i-test.true c.loop-i.invariant
      w.if-nodes-i-eq-NODE_GROUP.false w.nodes-is w.groups-is
]

pub returns : goal.returns
returns c = numbering_ends _ _ _ _ _ c.requires (omega arith) c.loop-i.invariant
