use Rattle.pattern_matches.proofs.ReplaceLemmas.{replaced_over, replaced_tree}
use Rattle.pattern_matches.proofs.UnpositionedLemmas.{same_but_for_positions}
use Rattle.pattern_matches.proofs.laws.replaced.Goals as goal

pub returns : goal.returns
returns c = record { child = replaced_over; children = replaced_tree; positions = same_but_for_positions }
