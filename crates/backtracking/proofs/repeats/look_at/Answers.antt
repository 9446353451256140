use Rattle.fancy_syntax.specs.Spanned.{spanned_of}
use Rattle.backtracking.proofs.repeats.look_at.Goals as goal

pub returns-in-OneWay : goal.returns-in-OneWay
returns-in-OneWay c = c.looked_at_fast.ensures c.args.options.unicode (spanned_of c.args.node)
