use Rattle.std.proofs.Common.{◌≡◌, ◌≤◌, ◌-◌, length, drop}
use Rattle.editor_documents.specs.Cursor.{IsCursorIn}
use Rattle.editor_documents.specs.Position.{Text}
use Rattle.editor_documents.proofs.cursor.Cursor.after.Given as goal

abbrev pub invariant-loop-next : goal.invariant-loop-next
invariant-loop-next l = record {
  within : (t : Text) → IsCursorIn t l.initial.cursor → IsCursorIn t l.cursor;
  before : l.left ≤ length l.cursor.rest.now;
  shorter : length l.cursor.rest.now ≤ length l.initial.cursor.rest.now;
  rest : l.cursor.rest.now ≡ drop (length l.initial.cursor.rest.now - length l.cursor.rest.now) l.initial.cursor.rest.now;
}

abbrev pub decreases-loop-next : goal.decreases-loop-next
decreases-loop-next l = length l.cursor.rest.now
