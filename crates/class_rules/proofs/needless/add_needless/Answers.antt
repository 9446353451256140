use Rattle.class_rules.proofs.ProblemLemmas.{keeps_push}
use Rattle.class_rules.proofs.needless.add_needless.Goals as goal

pub loop-span-preserved : goal.loop-span-preserved
loop-span-preserved c =
    keeps_push _ _ _ _ c.loop-span.found.items _ _ c.in_ok-push.ensures.items c.loop-span.invariant
    (λ text. c.in_ok-is_needless.ensures c.if-not-branch.false)
