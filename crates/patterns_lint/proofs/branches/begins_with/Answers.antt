use Rattle.std.proofs.Common.{◌+◌, ◌&&◌, drop, sym, ap, ◌∙◌}
use Rattle.fancy_syntax.specs.View.{views}
use Rattle.patterns_lint.specs.Branches.{begins_with}
use Rattle.patterns_lint.proofs.BranchLemmas.{begins_next, begins_none, begins_end}
use Rattle.patterns_lint.proofs.branches.begins_with.Goals as goal

pub loop-piece-preserved : goal.loop-piece-preserved
loop-piece-preserved c =
    let es = c.args.earlier.now in
    let i = c.loop-piece.piece-index in
    let more = views c.in-Some.more.now in
    let next = begins_next es i c.piece-item.result c.loop-piece.rest.now c.in-Some.first.now c.in-Some.more.now
    c.loop-piece-test.true c.piece-item.is (rw c.in-Some.is at c.split_first.ensures.cases).0 in
    c.loop-piece.invariant ∙ next
    ∙ ap (λ b. b && begins_with (views (drop (i + 1) es)) more) (sym c.covers.ensures ∙ c.if-not-covers.false)

pub returns-then-not-covers : goal.returns-then-not-covers
returns-then-not-covers c =
    let es = c.args.earlier.now in
    let i = c.loop-piece.piece-index in
    let more = views c.in-Some.more.now in
    let next = begins_next es i c.piece-item.result c.loop-piece.rest.now c.in-Some.first.now c.in-Some.more.now
    c.loop-piece-test.true c.piece-item.is (rw c.in-Some.is at c.split_first.ensures.cases).0 in
    sym (c.loop-piece.invariant ∙ next
    ∙ ap (λ b. b && begins_with (views (drop (i + 1) es)) more) (sym c.covers.ensures ∙ c.if-not-covers.true))

pub returns-in_default : goal.returns-in_default
returns-in_default c =
    sym (c.loop-piece.invariant
    ∙ begins_none c.args.earlier.now c.loop-piece.piece-index c.piece-item.result c.loop-piece.rest.now
    c.loop-piece-test.true c.piece-item.is (rw c.in_default.is at c.split_first.ensures.cases))

pub returns : goal.returns
returns c =
    sym (c.loop-piece.invariant ∙ begins_end c.args.earlier.now c.loop-piece.piece-index c.loop-piece.rest.now
    c.loop-piece-test.false)
