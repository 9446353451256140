use Rattle.pattern_matches.proofs.CharacterLemmas.{covers_characters}
use Rattle.pattern_matches.proofs.laws.characters.Goals as goal

pub returns : goal.returns
returns c = record { covered = covers_characters }
