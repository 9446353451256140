use Rattle.std.proofs.Common.{ap, chars, sym}
use Rattle.std.proofs.lemmas.List.{get_or_default}
use Rattle.std.proofs.lemmas.Result.{err_from_is_err_and}
use Rattle.editor_documents.proofs.ChangeLemmas.{first_of, wrong_first, next_change, no_next_change, last_change, no_changes}
use Rattle.editor_documents.proofs.change.with_changes.Goals as goal

pub returns-in_err-changed-2-clause-position : goal.returns-in_err-changed-2-clause-position
returns-in_err-changed-2-clause-position c =
    let p = err_from_is_err_and c.from_residual-in_err-changed-2.result c.from_residual-in_err-changed-2.ensures.1 in
    rw (p.1, p.2) (λ h.
    no_next_change c.args.encoding c.in-Some.later.now c.loop-change.change-index _ _ _ _ c.loop-change-test.true
    (get_or_default c.in-Some.later.now c.loop-change.change-index _ _ c.loop-change-test.true) (ap chars c.as_str.ensures.value)
    c.loop-change.invariant (c.in_err-changed-2.ensures.position h))

pub loop-change-preserved : goal.loop-change-preserved
loop-change-preserved c =
    next_change c.args.encoding c.in-Some.later.now c.loop-change.change-index _ _ _ _ c.loop-change-test.true
    (get_or_default c.in-Some.later.now c.loop-change.change-index _ _ c.loop-change-test.true) (ap chars c.as_str.ensures.value)
    c.loop-change.invariant _ c.in_ok-changed-2.ensures.ok

pub returns-clause-ok : goal.returns-clause-ok
returns-clause-ok c = last_change _ _ _ _ _ c.loop-change-test.false c.loop-change.invariant

pub returns-in_default-clause-ok : goal.returns-in_default-clause-ok
returns-in_default-clause-ok c = no_changes _ _ _ _ c.in_default.ensures.cases (ap chars (sym c.in_ok-from_str.ensures.ok))

pub returns-in_err-changed-clause-position : goal.returns-in_err-changed-clause-position
returns-in_err-changed-clause-position c =
    let p = err_from_is_err_and c.from_residual-in_err-changed.result c.from_residual-in_err-changed.ensures.1 in
    rw (p.1, p.2) (λ h. wrong_first _ _ _ _ _ c.in-Some.ensures.cases.0 (c.in_err-changed.ensures.position h))

pub loop-change-init : goal.loop-change-init
loop-change-init c = first_of _ _ _ _ _ c.in-Some.ensures.cases.0 _ c.in_ok-changed.ensures.ok
