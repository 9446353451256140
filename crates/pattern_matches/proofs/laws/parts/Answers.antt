use Rattle.pattern_matches.proofs.TextLemmas.{same_text}
use Rattle.pattern_matches.proofs.laws.parts.Goals as goal

pub returns : goal.returns
returns c = record { same_text = same_text }
