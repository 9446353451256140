use Rattle.fancy_pattern.proofs.WritesLemmas.{on_both}
use Rattle.fancy_pattern.proofs.group_text.close.Goals as goal

pub returns : goal.returns
returns c = on_both c.put.result _ _ c.put.ensures c.leave.ensures
