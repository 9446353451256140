use Rattle.class_rules.proofs.ProblemLemmas.{keeps_push}
use Rattle.class_rules.proofs.misread.add_hyphens.Goals as goal

pub loop-item-preserved : goal.loop-item-preserved
loop-item-preserved c =
    keeps_push _ _ _ _ c.loop-item.found.items _ _ c.in_ok-push.ensures.items c.loop-item.invariant
    (λ text. c.is_hyphen_range.ensures c.if-not-is_hyphen_range.false)
