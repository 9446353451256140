use Rattle.std.proofs.Common.{rules}
use Rattle.fancy_syntax.specs.declared.expr.Expr.{the_lemmas}
use Rattle.fancy_pattern.proofs.needs.leaf_needs.Goals as goal

pub returns-in-Delegate : goal.returns-in-Delegate
returns-in-Delegate c =
    let e = c.delegate_needs.ensures c.args.oniguruma_mode in
    search (rules, the_lemmas, e, c.as_str-in-Delegate.ensures.value)

pub returns-in-Any : goal.returns-in-Any
returns-in-Any c =
    let e = c.any_needs.ensures c.args.oniguruma_mode in
    search (rules, the_lemmas, e)
