use Rattle.std.proofs.Common.{◌≡◌, map}
use Rattle.std.proofs.Math.Seq.{paste}
use Rattle.fancy_c.specs.FactRows.{row}
use Rattle.fancy_c.proofs.facts.put_rows.Given as goal

abbrev pub invariant-loop-i : goal.invariant-loop-i
invariant-loop-i l = l.rows ≡ paste l.initial.rows 0 (map row l.facts) l.i
