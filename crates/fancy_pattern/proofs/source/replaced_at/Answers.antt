use Rattle.std.proofs.Common.{sym, ◌∙◌}
use Rattle.fancy_pattern.proofs.SourceWalk.{none_replaced}
use Rattle.fancy_pattern.proofs.source.replaced_at.Goals as goal

pub returns-then-may_be_replaced : goal.returns-then-may_be_replaced
returns-then-may_be_replaced c = λ t e. c.replaced.ensures

pub returns-else-may_be_replaced : goal.returns-else-may_be_replaced
returns-else-may_be_replaced c = λ t e.
    none_replaced c.args.unicode c.args.seen c.args.c t _ e (sym c.may_be_replaced.ensures ∙ c.if-may_be_replaced.false)
