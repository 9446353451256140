-- Cursors in texts.
use Rattle.std.specs.Prelude.{◌≡◌, ℕ, ◌-◌, List, Some, chars, slice_index}
use Rattle.std.specs.Str.{IsCharBoundary}
use Prim.Native.Char.{code}
use Rattle.editor_documents.specs.Position.{Text, from_position}
use Rattle.editor_documents.specs.declared.cursor.Cursor.{Cursor}

-- the cursor is in the text: the text from its position on is its rest
abbrev pub IsCursorIn : Text → Cursor → Type 0
IsCursorIn t p = from_position p.encoding p.position t ≡ Some (chars p.rest.now)

-- a cursor may be after so many bytes of a text: a character begins there, or the text ends, and it is not between CR and LF
abbrev pub IsCut : List ℕ → ℕ → Type 0
IsCut s n = IsCharBoundary s n × (slice_index s (n - 1) ≡ code "\r" → slice_index s n ≡ code "\n" → ⊥)
