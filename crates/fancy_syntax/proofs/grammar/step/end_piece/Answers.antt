use Rattle.fancy_syntax.proofs.grammar.step.end_piece.Goals as goal

pub returns-clause-value : goal.returns-clause-value
returns-clause-value g c below atom l h =
    let (piece, all, is) = c.in_ok-quantify_last.ensures.value below atom h in (
      piece,
      is,
      c.leave_out_empty.ensures.trees below piece all,
      λ x. c.leave_out_empty.ensures.spans below piece _ all (c.in_ok-quantify_last.ensures.spans below atom l h x),
    )
