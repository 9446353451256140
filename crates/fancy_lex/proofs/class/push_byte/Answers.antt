use Rattle.std.proofs.Common.{arith}
use Rattle.std.specs.Str.{chars}
use Rattle.std.proofs.lemmas.Grind.{common_steps}
use Rattle.fancy_lex.proofs.class.push_byte.Goals as goal

pub returns : goal.returns
unfolding chars
returns c = grind (arith, common_steps)
