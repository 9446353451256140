use Rattle.std.proofs.Common.{◌≡◌, ◌∙◌, ap, subst, refl}
use Rattle.std.proofs.lemmas.Result.{IfOk-at_ok}
use Rattle.patterns_program.specs.Accepted.{IsEntryAccepted}
use Rattle.patterns_program.proofs.work.Work.process.Goals as goal

pub returns-in_ok-write_ended-in-Stays-clause-check : goal.returns-in_ok-write_ended-in-Stays-clause-check
returns-in_ok-write_ended-in-Stays-clause-check c = λ is_check good.
    subst (λ flags. IsEntryAccepted flags c.args.entry) (c.in_ok-end_last.ensures.flags ∙ c.see_dialect.ensures.flags ∙ c.see_flags.ensures.flags)
    (c.subject-subject.ensures (rw c.in-Stays.is at
    (c.in_ok-outcome.ensures.check (ap (λ job. job.command) (c.in_ok-end_last.ensures.job ∙ c.see_dialect.ensures.job ∙ c.see_flags.ensures.job) ∙ is_check))
    (IfOk-at_ok (λ outcome. c.in-Stays.outcome ≡ outcome) good refl)))

pub returns-else-writes_all-clause-check : goal.returns-else-writes_all-clause-check
returns-else-writes_all-clause-check c = λ is_check good.
    subst (λ flags. IsEntryAccepted flags c.args.entry) (c.in_ok-end_last.ensures.flags ∙ c.see_dialect.ensures.flags ∙ c.see_flags.ensures.flags)
    (c.subject-subject.ensures (rw c.in-Stays.is at
    (c.in_ok-outcome.ensures.check (ap (λ job. job.command) (c.in_ok-end_last.ensures.job ∙ c.see_dialect.ensures.job ∙ c.see_flags.ensures.job) ∙ is_check))
    (IfOk-at_ok (λ outcome. c.in-Stays.outcome ≡ outcome) good refl)))
