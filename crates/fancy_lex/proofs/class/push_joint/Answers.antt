use Rattle.std.proofs.Common.{rules}
use Rattle.std.specs.Str.{chars}
use Rattle.fancy_lex.proofs.class.push_joint.Goals as goal

pub returns-then-needed : goal.returns-then-needed
unfolding chars
returns-then-needed c = search rules
