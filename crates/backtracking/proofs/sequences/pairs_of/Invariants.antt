use Rattle.std.specs.List.{AllByRecursion}
use Rattle.fancy_syntax.specs.View.{views}
use Rattle.backtracking.specs.SlowSequences.{IsSlowAcross}
use Rattle.backtracking.proofs.sequences.pairs_of.Given as goal

abbrev pub invariant-loop-first : goal.invariant-loop-first
invariant-loop-first l =
    AllByRecursion (IsSlowAcross l.fn.options.unicode (views l.fn.row.trees.now) l.fn.row.spans.now) l.pairs.items
