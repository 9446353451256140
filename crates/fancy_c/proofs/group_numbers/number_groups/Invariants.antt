use Rattle.fancy_c.proofs.NumberedLemmas.{Numbering}
use Rattle.fancy_c.proofs.group_numbers.number_groups.Given as goal

abbrev pub invariant-loop-i : goal.invariant-loop-i
invariant-loop-i l = Numbering l.initial.nodes l.nodes l.count l.i l.groups
