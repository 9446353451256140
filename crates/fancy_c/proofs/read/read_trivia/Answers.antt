use Rattle.fancy_c.proofs.ReadLemmas.{tree_returned, error_returned}
use Rattle.fancy_c.proofs.TriviumLemmas.{trivia_of_bytes}
use Rattle.fancy_c.proofs.read.read_trivia.Goals as goal

pub returns-in-Ok-clause-trivia : goal.returns-in-Ok-clause-trivia
returns-in-Ok-clause-trivia c =
    let text = c.in_ok-text.ensures.text in
    trivia_of_bytes text.0 (tree_returned text.0 text.1 c.in-Ok.ensures.tree) c.in-Ok.ensures.trivia

pub returns-clause-refusal : goal.returns-clause-refusal
returns-clause-refusal c =
    let text = c.in_ok-text.ensures.text in
    error_returned c.in-Err.error _ _ _ text.0 text.1 c.in-Err.ensures.error
