use Rattle.fancy_c.proofs.ReadLemmas.{tree_returned, error_returned}
use Rattle.fancy_c.proofs.read.read.Goals as goal

pub returns-in-Ok-clause-tree : goal.returns-in-Ok-clause-tree
returns-in-Ok-clause-tree c =
    let text = c.in_ok-text.ensures.text in tree_returned text.0 text.1 c.in-Ok.ensures.tree

pub returns-in-Err-clause-refusal : goal.returns-in-Err-clause-refusal
returns-in-Err-clause-refusal c =
    let text = c.in_ok-text.ensures.text in
    error_returned c.in-Err.error _ _ _ text.0 text.1 c.in-Err.ensures.error
