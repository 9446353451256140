use Rattle.pattern_matches.specs.Matches.{Matches}
use Rattle.pattern_matches.proofs.EngineLemmas.{taken, all_taken}
use Rattle.pattern_matches.proofs.RepeatLemmas.{once, never, greed}
use Rattle.pattern_matches.proofs.laws.repeats.Goals as goal

pub returns : goal.returns
returns c = record {
  once = once;
  never = never;
  greed = greed;
  engine = λ u s t lo hi greedy p q. (all_taken (Matches u s t) lo hi p q, taken (Matches u s t) lo hi p q);
}
