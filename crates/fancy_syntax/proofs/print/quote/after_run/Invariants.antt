use Rattle.std.proofs.Common.{length, chars}
use denote.Text.{Utf8}
use denote.Shadow.{shadow}
use Rattle.fancy_grammar.specs.Quote.{AreUnquoted}
use Rattle.fancy_syntax.proofs.print.quote.after_run.Given as goal

abbrev pub invariant-loop-c : goal.invariant-loop-c
invariant-loop-c l = record {
  text : shadow (Utf8 l.rest);
  run : AreUnquoted (chars l.text) (chars l.rest);
}

abbrev pub decreases-loop-c : goal.decreases-loop-c
decreases-loop-c l = length l.rest
