use Rattle.std.proofs.Common.{◌≡◌, chars, drop, string_bytes}
use Rattle.editor_documents.specs.Change as spec
use Rattle.editor_documents.proofs.change.with_changes.Given as goal

-- the changes that are left make of the text so far what all make of the text
abbrev pub invariant-loop-change : goal.invariant-loop-change
invariant-loop-change l =
    spec.with_changes l.encoding (chars l.text) l.changes
    ≡ spec.with_changes l.encoding (chars (string_bytes l.changed)) (drop l.change-index l.later)
