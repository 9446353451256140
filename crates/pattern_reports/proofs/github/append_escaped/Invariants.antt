use Rattle.std.proofs.Common.{◌≡◌, ◌++◌, length, chars}
use denote.Text.{Utf8}
use denote.Shadow.{shadow}
use Rattle.fancy_lex.specs.Text.{Text, text_of}
use Rattle.pattern_reports.specs.WorkflowCommand.{escaped}
use Rattle.pattern_reports.proofs.github.append_escaped.Given as goal

abbrev pub invariant-loop-c : goal.invariant-loop-c
invariant-loop-c l = record {
  text : shadow (Utf8 l.rest);
  written : (w : Text) × (chars l.text ≡ w ++ chars l.rest)
      × (text_of l.out ≡ text_of l.initial.out ++ escaped l.is_property w);
}

abbrev pub decreases-loop-c : goal.decreases-loop-c
decreases-loop-c l = length l.rest
