use Rattle.std.proofs.Common.{length, chars}
use denote.Text.{Utf8}
use denote.Shadow.{shadow}
use Rattle.fancy_grammar.specs.PatternSource.{source, source_from}
use Rattle.fancy_pattern.proofs.OutputLemmas.{Adding}
use Rattle.fancy_pattern.proofs.source.put_source.Given as goal

abbrev pub invariant-loop-c : goal.invariant-loop-c
invariant-loop-c l = record {
  text : shadow (Utf8 l.rest);
  writing : Adding l.initial.out l.out (source_from l.unicode l.seen (chars l.rest))
      (source l.unicode (chars l.text));
}

abbrev pub decreases-loop-c : goal.decreases-loop-c
decreases-loop-c l = length (chars l.rest)
