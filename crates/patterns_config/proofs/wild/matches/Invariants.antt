use Rattle.std.proofs.Common.{◌↔◌, length}
use Rattle.patterns_config.specs.Wild.{Wild, Ends}
use Rattle.patterns_config.proofs.wild.matches.Given as goal

abbrev pub invariant-loop-after : goal.invariant-loop-after
invariant-loop-after g l = record {
  same : Wild g.P.Piece.star g.P.Piece.accepted l.pieces l.items ↔ Wild g.P.Piece.star g.P.Piece.accepted l.left l.rest;
  ends : Ends g.P.Piece.star l.left;
}

abbrev pub decreases-loop-after : goal.decreases-loop-after
decreases-loop-after g l = length l.left
