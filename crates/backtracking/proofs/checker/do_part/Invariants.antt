use Rattle.std.proofs.Common.{drop}
use Rattle.backtracking.specs.TwoWays.{Part}
use Rattle.backtracking.proofs.checker.do_part.Given as goal

abbrev pub invariant-loop-one : goal.invariant-loop-one
invariant-loop-one l = Part (drop l.one-index l.first) l.rest → Part l.first l.initial.rest
