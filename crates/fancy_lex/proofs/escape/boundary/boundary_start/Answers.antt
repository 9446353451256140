use Rattle.std.specs.Str.{chars}
use Rattle.fancy_lex.proofs.escape.boundary.boundary_start.Goals as goal

pub returns-then-negated : goal.returns-then-negated
unfolding chars
returns-then-negated c = rw c.if-negated.true

pub returns-else-negated : goal.returns-else-negated
unfolding chars
returns-else-negated c = rw c.if-negated.false
