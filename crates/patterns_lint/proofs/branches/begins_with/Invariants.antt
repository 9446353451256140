use Rattle.std.proofs.Common.{◌≡◌, drop}
use Rattle.fancy_syntax.specs.View.{views}
use Rattle.patterns_lint.specs.Branches.{begins_with}
use Rattle.patterns_lint.proofs.branches.begins_with.Given as goal

abbrev pub invariant-loop-piece : goal.invariant-loop-piece
invariant-loop-piece l =
    begins_with (views l.earlier) (views l.initial.rest) ≡ begins_with (views (drop l.piece-index l.earlier))
    (views l.rest)
