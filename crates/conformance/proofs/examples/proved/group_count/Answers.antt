use Rattle.conformance.proofs.FormLemmas.{count_of}
use Rattle.conformance.proofs.examples.proved.group_count.Goals as goal

pub returns : goal.returns
returns c = record { tree = (_, _, c.in_ok-tree.ensures.tree.found); count = count_of _ _ _ _ c.in_ok-tree.ensures.tree.only }
