use Rattle.pattern_matches.proofs.BeginningLemmas.{begins, fewer_turns, same_turns, starts_there, look_ahead, look_ahead_neg}
use Rattle.pattern_matches.proofs.laws.beginnings.Goals as goal

pub returns : goal.returns
returns c = record {
  pieces = begins;
  fewer_turns = fewer_turns;
  same_turns = same_turns;
  starts = starts_there;
  look_ahead = look_ahead;
  look_ahead_neg = look_ahead_neg;
}
