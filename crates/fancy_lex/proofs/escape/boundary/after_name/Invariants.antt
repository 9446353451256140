use Rattle.std.proofs.Common.{◌≡◌, ◌≤◌, length, chars}
use denote.Text.{Utf8}
use denote.Shadow.{shadow}
use Rattle.fancy_lex.specs.BoundaryName as spec
use Rattle.fancy_lex.proofs.escape.boundary.after_name.Given as goal

abbrev pub invariant-loop-rest : goal.invariant-loop-rest
invariant-loop-rest l = record {
  text : shadow (Utf8 l.rest);
  word : shadow (Utf8 l.word);
  same : spec.after_name l.ignore_space (chars l.fn.word) (chars l.text) ≡ spec.after_name l.ignore_space
      (chars l.word) (chars l.rest);
  within : length l.rest ≤ length l.text;
}

abbrev pub decreases-loop-rest : goal.decreases-loop-rest
decreases-loop-rest l = length l.word
