use Rattle.std.proofs.Common.{arith}
use Rattle.fancy_lex.proofs.TextLemmas.{cut_le, cut_boundary, front_is}
use Rattle.fancy_lex.proofs.text.front.Goals as goal

pub overflow_sub-text : goal.overflow_sub-text
overflow_sub-text c =
    let (w, e) = c.requires in cut_le c.args.text.now c.args.rest.now w c.utf8.text c.utf8.rest e

pub range-requires-clause-end_boundary : goal.range-requires-clause-end_boundary
range-requires-clause-end_boundary c =
    let (w, e) = c.requires in cut_boundary c.args.text.now c.args.rest.now w c.utf8.text c.utf8.rest e

pub returns : goal.returns
returns c =
    let (w, e) = c.requires in
    front_is c.args.text.now c.args.rest.now c.range.result.now w c.utf8.text c.utf8.rest c.range.utf8 e
    (grind (arith, c.range.ensures.value))
