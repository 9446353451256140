use Rattle.std.proofs.Common.{arith, sym}
use Rattle.editor_documents.proofs.TextLemmas.{cut_le, cut_boundary, cut_front, before_is}
use Rattle.editor_documents.proofs.change.before.Goals as goal

pub overflow_sub-text : goal.overflow_sub-text
overflow_sub-text c =
    let (w, e) = c.requires in cut_le c.args.text.now c.args.rest.now w c.utf8.text c.utf8.rest e

pub range-requires-clause-end_boundary : goal.range-requires-clause-end_boundary
range-requires-clause-end_boundary c =
    let (w, e) = c.requires in cut_boundary c.args.text.now c.args.rest.now w c.utf8.text c.utf8.rest e

pub returns : goal.returns
returns c =
    let (w, e) = c.requires in
    sym (before_is _ _ _ (cut_front c.args.text.now c.args.rest.now w c.utf8.text c.utf8.rest e c.range.result.now c.range.utf8
    (grind (arith, c.range.ensures.value))))
