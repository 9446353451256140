use Rattle.class_rules.proofs.ProblemLemmas.{keeps_push}
use Rattle.class_rules.proofs.mixed_range.add_mixed.Goals as goal

pub loop-item-preserved : goal.loop-item-preserved
loop-item-preserved c =
    keeps_push _ _ _ _ c.loop-item.found.items _ _ c.in_ok-push.ensures.items c.loop-item.invariant
    (λ text. rw c.in-Some.is at c.in_ok-first.ensures)
