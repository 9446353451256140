use Rattle.std.proofs.Common.{◌≤◌, length}
use Rattle.patterns_config.specs.Wild.{Strips}
use Rattle.patterns_config.proofs.wild.strip.Given as goal

abbrev pub invariant-loop-piece : goal.invariant-loop-piece
invariant-loop-piece g l = record {
  strips : Strips g.P.Piece.star g.P.Piece.accepted l.pieces l.items l.left l.rest;
  shorter : length l.left ≤ length l.pieces;
}

abbrev pub decreases-loop-piece : goal.decreases-loop-piece
decreases-loop-piece g l = length l.left
