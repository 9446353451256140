use Rattle.std.proofs.Common.{◌≡◌}
use Rattle.std.proofs.Math.Seq.{paste}
use Rattle.fancy_c.specs.InfoRows.{rows_of_name}
use Rattle.fancy_c.proofs.info_rows.put_numbers.Given as goal

abbrev pub invariant-loop-i : goal.invariant-loop-i
invariant-loop-i l = l.names ≡ paste l.initial.names l.first (rows_of_name l.text l.size l.numbers) l.i
