use Rattle.editor_documents.proofs.ChangeLemmas.{end_of_position}
use Rattle.editor_documents.proofs.change.with_part.Goals as goal

pub before-requires : goal.before-requires
before-requires c = end_of_position _ _ _ _ c.in-Some.ensures
