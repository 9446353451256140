use Rattle.std.proofs.Common.{◌≡◌, ◌≤◌, length, chars}
use denote.Text.{Utf8}
use denote.Shadow.{shadow}
use Rattle.fancy_lex.specs.LayoutSteps as spec
use Rattle.fancy_lex.proofs.layout.read_units.Given as goal

abbrev pub invariant-loop-inside : goal.invariant-loop-inside
invariant-loop-inside l = record {
  text : shadow (Utf8 l.rest);
  same : spec.layout_from l.ignore_space spec.between (chars l.text) ≡ spec.layout_from l.ignore_space
      spec.between (chars l.rest);
  within : length l.rest ≤ length l.text;
}

abbrev pub decreases-loop-inside : goal.decreases-loop-inside
decreases-loop-inside l = length l.rest
