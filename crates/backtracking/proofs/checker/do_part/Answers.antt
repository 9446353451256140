use Rattle.std.proofs.Common.{sym, ◌∙◌}
use Rattle.std.proofs.lemmas.Bool.{false≢true}
use Rattle.backtracking.proofs.WayLemmas.{part_here, part_later}
use Rattle.backtracking.specs.declared.decision.Decision.TheVariants.{Branch}
use Rattle.backtracking.proofs.checker.do_part.Goals as goal

pub returns-then-not-is_same : goal.returns-then-not-is_same
returns-then-not-is_same c _ = let other = c.in-Some.other.now in
    c.loop-one.invariant (part_here c.args.first.now c.loop-one.one-index (Branch 0) other c.loop-one.rest.now c.in-Some.more.now
    c.loop-one-test.true c.in-Some.ensures.cases.0 (λ e. false≢true (sym c.if-not-is_same.true ∙ c.is_same.ensures.1 e)))

pub loop-one-preserved : goal.loop-one-preserved
loop-one-preserved c p = let other = c.in-Some.other.now in
    c.loop-one.invariant (part_later c.args.first.now c.loop-one.one-index (Branch 0) other c.loop-one.rest.now
    c.in-Some.more.now c.loop-one-test.true c.in-Some.ensures.cases.0 (c.is_same.ensures.0 c.if-not-is_same.false) p)
