use Rattle.std.proofs.Common.{subst, chars}
use Rattle.fancy_syntax.specs.InfoViews.{IsTreeOf, info_of}
use Rattle.fancy_syntax.specs.View.{view}
use Rattle.patterns_lint.proofs.slow.parsed_with_lines.Goals as goal

pub returns : goal.returns
returns c =
    let tree = c.in-Ok.parsed.tree in
    subst (λ f. IsTreeOf f (chars c.args.subject.pattern.now) (view tree.expr) (info_of tree)) c.with_lines-flags.ensures
    (rw c.in-Ok.is at c.in_ok-parsed.ensures.tree)
