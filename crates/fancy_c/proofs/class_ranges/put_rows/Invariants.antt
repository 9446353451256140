use Rattle.std.proofs.Common.{◌≡◌, map}
use Rattle.std.proofs.Math.Seq.{paste}
use Rattle.fancy_c.specs.ClassRanges.{row}
use Rattle.fancy_c.proofs.class_ranges.put_rows.Given as goal

abbrev pub invariant-loop-i : goal.invariant-loop-i
invariant-loop-i l = l.rows ≡ paste l.initial.rows 0 (map row l.ranges) l.i
