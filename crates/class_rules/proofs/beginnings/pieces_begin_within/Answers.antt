use Rattle.class_rules.proofs.BeginningLemmas.{begins_here, begins_later}
use Rattle.class_rules.proofs.beginnings.pieces_begin_within.Goals as goal

pub returns-then-are_optional : goal.returns-then-are_optional
returns-then-are_optional c _ =
    c.loop.invariant (begins_here c.args.unicode _ _ _ _ _ _ c.in-Some.ensures.cases.0
    c.in-Some-split_first.ensures.cases.0
    (c.in_ok-starts_within.ensures c.if-not-branch.false) (c.are_optional.ensures c.if-are_optional.true))

pub loop-preserved : goal.loop-preserved
loop-preserved c begins =
    c.loop.invariant (begins_later c.args.unicode _ _ _ _ _ _ c.in-Some.ensures.cases.0
    c.in-Some-split_first.ensures.cases.0
    (c.in_ok-starts_within.ensures c.if-not-branch.false) (c.repeat_alike.ensures c.if-not-repeat_alike.false) begins)
