use Rattle.backtracking.proofs.SplitLemmas.{many_splits}
use Rattle.backtracking.proofs.sequence.ways_of_cut.Goals as goal

pub returns-then-branch-clause-polynomial : goal.returns-then-branch-clause-polynomial
returns-then-branch-clause-polynomial c = many_splits _ _ _ _ _ _ _ _ (c.in_ok-are_three_ways.ensures c.if-branch.true)
