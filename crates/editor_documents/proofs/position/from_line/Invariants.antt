use Rattle.std.proofs.Common.{◌≡◌, chars}
use denote.Text.{Utf8}
use denote.Shadow.{shadow}
use Rattle.editor_documents.specs.Position as spec
use Rattle.editor_documents.proofs.position.from_line.Given as goal

abbrev pub invariant-loop-above : goal.invariant-loop-above
invariant-loop-above l = record {
  text : shadow (Utf8 l.rest);
  same : spec.from_line l.line (chars l.text) ≡ spec.from_line l.above (chars l.rest);
}

abbrev pub decreases-loop-above : goal.decreases-loop-above
decreases-loop-above l = l.above
