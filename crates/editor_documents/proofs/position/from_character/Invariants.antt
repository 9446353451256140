use Rattle.std.proofs.Common.{◌≡◌, chars}
use denote.Text.{Utf8}
use denote.Shadow.{shadow}
use Rattle.editor_documents.specs.Position as spec
use Rattle.editor_documents.proofs.position.from_character.Given as goal

abbrev pub invariant-loop-before : goal.invariant-loop-before
invariant-loop-before l = record {
  text : shadow (Utf8 l.rest);
  same : spec.from_character l.encoding l.character (chars l.text) ≡ spec.from_character l.encoding l.before (chars l.rest);
}

abbrev pub decreases-loop-before : goal.decreases-loop-before
decreases-loop-before l = l.before
