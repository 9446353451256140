use Rattle.std.proofs.Common.{◌↔◌, length}
use Rattle.patterns_config.specs.Wild.{AfterStar}
use Rattle.patterns_config.proofs.wild.find.Given as goal

abbrev pub invariant-loop-left : goal.invariant-loop-left
invariant-loop-left g l =
    AfterStar g.P.Piece.star g.P.Piece.accepted l.pieces l.items ↔ AfterStar g.P.Piece.star g.P.Piece.accepted l.pieces l.rest

abbrev pub decreases-loop-left : goal.decreases-loop-left
decreases-loop-left g l = length l.rest
