use Rattle.std.proofs.Common.{arith, drop, refl, suc, true, false}
use Rattle.fancy_syntax.specs.View.{view}
use Rattle.backtracking.proofs.WayLemmas.{known, longest_stops, longest_more}
use Rattle.backtracking.proofs.checker.count_matched.Goals as goal

pub returns-in-Some-false : goal.returns-in-Some-false
returns-in-Some-false c =
    let i = c.loop-count.count in
    let char = c.index-text-count.result in
    c.loop-count.invariant 0 i (drop i c.args.text.now) (omega arith)
    (longest_stops c.args.unicode (view c.args.tree.now) c.args.text.now i char c.loop-count-test.true c.index-text-count.is
    (known _ _ char _ c.in-Some-false.field-0 false c.in-Some-false.is c.in-Some-false.field-0-test c.in_ok-may_match.ensures))

pub loop-count-preserved : goal.loop-count-preserved
loop-count-preserved c n m v h k =
    let i = c.loop-count.count in
    let char = c.index-text-count.result in
    c.loop-count.invariant (suc n) m v (omega (arith, h))
    (longest_more c.args.unicode (view c.args.tree.now) c.args.text.now v i char n (suc n) c.loop-count-test.true c.index-text-count.is
    (known _ _ char _ c.in-Some-true.field-0 true c.in-Some-true.is c.in-Some-true.field-0-test c.in_ok-may_match.ensures) refl k)
