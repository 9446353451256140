use Rattle.std.proofs.Common.{◌≡◌, drop}
use Rattle.std.specs.Str.{chars}
use Rattle.fancy_grammar.specs.Verb.{verb_at}
use Rattle.fancy_syntax.proofs.VerbLemmas.{among}
use Rattle.fancy_syntax.proofs.grammar.group.verb_at.Given as goal

abbrev pub invariant-loop-verb : goal.invariant-loop-verb
invariant-loop-verb l = verb_at (chars l.text) ≡ among (drop l.verb-index l.verb-items) (chars l.text)
