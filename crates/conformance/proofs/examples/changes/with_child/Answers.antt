use Rattle.conformance.proofs.FormLemmas.{info_kept}
use Rattle.conformance.proofs.examples.changes.with_child.Goals as goal

pub returns : goal.returns
returns c = record {
  group_info = info_kept _ _ _ _ _ _ c.in_ok-tree.ensures.tree.found c.in_ok-to_pattern.ensures.reads_back;
}
