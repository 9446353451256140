use Rattle.std.proofs.Common.{arith}
use Rattle.class_rules.proofs.CutLemmas.{cut_parts}
use Rattle.class_rules.proofs.class_source.cut.Goals as goal

pub returns : goal.returns
returns c =
    let outer = c.in_ok-front.ensures in
    let inner = c.in_ok-before.ensures in (
      cut_parts _ c.in_ok-front.front.now _ _ _ c.args.span.start c.args.span.end outer.front outer.back inner.front inner.back,
      inner.front_len,
      omega (arith, inner.front_len, inner.back_len, outer.front_len),
    )
