use Rattle.std.proofs.Common.{sym}
use Rattle.backtracking.proofs.RegularShapeLemmas.{no_character}
use Rattle.backtracking.proofs.characters.is_one_character.Goals as goal

pub returns-in_default : goal.returns-in_default
returns-in_default c =
    sym (no_character c.args.node.now c.in_default.not-Any c.in_default.not-Literal c.in_default.not-Delegate)
