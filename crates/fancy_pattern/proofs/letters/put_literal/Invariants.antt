use Rattle.std.proofs.Common.{length, chars}
use denote.Text.{Utf8}
use denote.Shadow.{shadow}
use Rattle.std.specs.List.{flat_map}
use Rattle.fancy_grammar.specs.PatternLetters.{character}
use Rattle.fancy_pattern.proofs.OutputLemmas.{Adding}
use Rattle.fancy_pattern.proofs.letters.put_literal.Given as goal

abbrev pub invariant-loop-c : goal.invariant-loop-c
invariant-loop-c l = record {
  text : shadow (Utf8 l.rest);
  writing : Adding l.initial.out l.out (flat_map (character l.flags l.casei) (chars l.rest))
      (flat_map (character l.flags l.casei) (chars l.val));
}

abbrev pub decreases-loop-c : goal.decreases-loop-c
decreases-loop-c l = length l.rest
