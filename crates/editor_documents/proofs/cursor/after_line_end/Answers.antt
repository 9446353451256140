use Rattle.editor_documents.proofs.CursorLemmas.{returned, fed}
use Rattle.editor_documents.proofs.cursor.after_line_end.Goals as goal

pub returns-then-c-eq13-clause-value : goal.returns-then-c-eq13-clause-value
returns-then-c-eq13-clause-value c = returned _ _ _ c.if-c-eq13.true c.after_line_feed.ensures.value

pub returns-else-c-eq13-clause-value : goal.returns-else-c-eq13-clause-value
returns-else-c-eq13-clause-value c = fed _ _ c.requires c.if-c-eq13.false
