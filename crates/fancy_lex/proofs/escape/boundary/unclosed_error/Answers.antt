use Rattle.std.proofs.Common.{ap, sym}
use Rattle.std.specs.Str.{chars}
use Rattle.fancy_lex.specs.Located.{invalid_escape}
use Rattle.fancy_lex.specs.Reading.{error_at}
use Rattle.fancy_lex.proofs.escape.boundary.unclosed_error.Goals as goal

pub returns-in-Ok : goal.returns-in-Ok
unfolding chars
returns-in-Ok c = ap (λ t. error_at c.args.reach (invalid_escape (chars t))) (sym c.in-Ok.ensures.ok)
