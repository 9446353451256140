-- Edits of a text.
use Rattle.std.specs.Prelude.{ℕ, List, ◌++◌, take, drop}
use Rattle.pattern_fixes.specs.declared.edit.Edit.{Edit}

-- the bytes of the text with the edit made: those before its span, its own, and those after the span
abbrev pub with_edit : List ℕ → Edit → List ℕ
with_edit text edit = take edit.span.start text ++ edit.text.now ++ drop edit.span.end text
