use Rattle.std.proofs.Common.{◌≡◌, map}
use Rattle.std.proofs.Math.Seq.{paste}
use Rattle.fancy_syntax.specs.TriviaViews.{trivium_of}
use Rattle.fancy_c.specs.TriviumRows.{row}
use Rattle.fancy_c.proofs.trivia.put_rows.Given as goal

abbrev pub invariant-loop-i : goal.invariant-loop-i
invariant-loop-i l = l.rows ≡ paste l.initial.rows 0 (map row (map trivium_of l.trivia)) l.i
