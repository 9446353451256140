use Rattle.std.proofs.Common.{chars, take}
use Rattle.fancy_pattern.proofs.NamesLemmas.{Naming}
use Rattle.fancy_pattern.proofs.names.add_name.Given as goal

abbrev pub invariant-loop-number : goal.invariant-loop-number
invariant-loop-number l =
    Naming l.initial.names l.names (chars l.text, l.numbers) (take l.number-index l.numbers)
