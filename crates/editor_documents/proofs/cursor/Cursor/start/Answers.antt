use Rattle.editor_documents.proofs.CursorLemmas.{start_is}
use Rattle.editor_documents.proofs.cursor.Cursor.start.Goals as goal

pub returns-clause-within : goal.returns-clause-within
returns-clause-within c = start_is _ _
