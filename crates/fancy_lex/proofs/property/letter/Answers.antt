use Rattle.std.proofs.Common.{rules}
use Rattle.std.specs.Str.{chars}
use Rattle.fancy_lex.proofs.property.letter.Goals as goal

pub returns-then-negated : goal.returns-then-negated
unfolding chars
returns-then-negated c = search rules

pub returns-else-negated : goal.returns-else-negated
unfolding chars
returns-else-negated c = search rules
