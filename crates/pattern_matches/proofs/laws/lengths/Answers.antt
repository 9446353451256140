use Rattle.pattern_matches.proofs.LeastLemmas.{least}
use Rattle.pattern_matches.proofs.MostLemmas.{greatest}
use Rattle.pattern_matches.proofs.laws.lengths.Goals as goal

pub returns : goal.returns
returns c = record { least = least; greatest = greatest }
