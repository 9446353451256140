use Rattle.pattern_matches.proofs.AltLemmas.{equal_branch, covered_branch}
use Rattle.pattern_matches.proofs.laws.branches.Goals as goal

pub returns : goal.returns
returns c = record { equal = equal_branch; covered = covered_branch }
