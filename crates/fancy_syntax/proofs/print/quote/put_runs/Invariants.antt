use Rattle.std.proofs.Common.{length, chars}
use denote.Text.{Utf8}
use denote.Shadow.{shadow}
use Rattle.fancy_grammar.specs.Quote.{quotes}
use Rattle.fancy_syntax.proofs.CapacityLemmas.{Writing}
use Rattle.fancy_syntax.proofs.print.quote.put_runs.Given as goal

abbrev pub invariant-loop-c : goal.invariant-loop-c
invariant-loop-c l = record {
  text : shadow (Utf8 l.rest);
  writing : Writing l.initial.buf l.buf (quotes (chars l.rest)) (quotes (chars l.text));
}

abbrev pub decreases-loop-c : goal.decreases-loop-c
decreases-loop-c l = length l.rest
