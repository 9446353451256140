use Rattle.fancy_c.proofs.NameRowLemmas.{PuttingNumbers}
use Rattle.fancy_c.proofs.info_rows.put_backrefs.Given as goal

abbrev pub invariant-loop-number : goal.invariant-loop-number
invariant-loop-number l = PuttingNumbers l.initial.buffer l.buffer l.i l.fn.numbers.keys l.number-iterator
