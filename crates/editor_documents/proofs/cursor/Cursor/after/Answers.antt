use Rattle.editor_documents.proofs.CutLemmas.{last_cut}
use Rattle.editor_documents.proofs.cursor.Cursor.after.Goals as goal

pub returns-then-next-left-clause-reached : goal.returns-then-next-left-clause-reached
returns-then-next-left-clause-reached c =
    last_cut c.args.self.rest.now c.loop-next.cursor.rest.now c.args.bytes c.saturating_sub-left.result _
    c.loop-next.invariant.rest c.saturating_sub-left.ensures c.loop-next.invariant.before c.if-next-left.true c.in-Some.ensures.near
