use Rattle.fancy_c.proofs.NodesLemmas.{spans_of_bytes}
use Rattle.fancy_c.proofs.ReadLemmas.{tree_returned, error_returned}
use Rattle.fancy_c.proofs.TriviumLemmas.{trivia_of_bytes}
use Rattle.fancy_c.proofs.read.read_all.Goals as goal

pub returns-in-Ok-clause-tree : goal.returns-in-Ok-clause-tree
returns-in-Ok-clause-tree c =
    let text = c.in_ok-text.ensures.text in tree_returned text.0 text.1 c.in-Ok.ensures.tree

pub returns-in-Ok-clause-spans : goal.returns-in-Ok-clause-spans
returns-in-Ok-clause-spans c = spans_of_bytes c.in_ok-text.ensures.text.0 c.in-Ok.ensures.spans

pub returns-in-Ok-clause-trivia : goal.returns-in-Ok-clause-trivia
returns-in-Ok-clause-trivia c =
    let text = c.in_ok-text.ensures.text in
    trivia_of_bytes text.0 (tree_returned text.0 text.1 c.in-Ok.ensures.tree) c.in-Ok.ensures.trivia

pub returns-in-Err-clause-refusal : goal.returns-in-Err-clause-refusal
returns-in-Err-clause-refusal c =
    let text = c.in_ok-text.ensures.text in
    error_returned c.in-Err.error _ _ _ text.0 text.1 c.in-Err.ensures.error
