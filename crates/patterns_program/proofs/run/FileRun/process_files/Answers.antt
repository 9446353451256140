use Rattle.std.proofs.Common.{◌≡◌, ◌∙◌, sym, ap, subst, refl, Ok, IsTrue}
use Rattle.std.proofs.lemmas.Result.{IfOk-at_ok}
use Rattle.patterns_program.specs.Accepted.{AreArgumentsAccepted}
use Rattle.patterns_program.proofs.run.FileRun.process_files.Goals as goal

pub returns-in_ok-writeln-clause-accepted : goal.returns-in_ok-writeln-clause-accepted
returns-in_ok-writeln-clause-accepted g c = λ some ok is_check has_flags.
    let done = IfOk-at_ok (λ outcome. c.and-outcome-3.result ≡ outcome) ok refl in
    let files = (c.and-outcome-2.ensures.good.0 (c.and-outcome-3.ensures.good.0 done).0).0 in
    let arguments = (c.and-outcome.ensures.good.0 (c.loop-done.invariant files)).1 in
    let job = c.begin_reports.ensures in
    subst AreArgumentsAccepted job
    (c.process_arguments.ensures.accepted some (c.in_ok-process_arguments.was ∙ ap Ok arguments)
    (ap (λ job. job.command) job ∙ is_check) (subst (λ job. IsTrue job.choices.has_flags) (sym job) has_flags))

pub returns-else-not-self-clause-accepted : goal.returns-else-not-self-clause-accepted
returns-else-not-self-clause-accepted g c = λ some ok is_check has_flags.
    let done = IfOk-at_ok (λ outcome. c.and-outcome-3.result ≡ outcome) ok refl in
    let files = (c.and-outcome-2.ensures.good.0 (c.and-outcome-3.ensures.good.0 done).0).0 in
    let arguments = (c.and-outcome.ensures.good.0 (c.loop-done.invariant files)).1 in
    let job = c.begin_reports.ensures in
    subst AreArgumentsAccepted job
    (c.process_arguments.ensures.accepted some (c.in_ok-process_arguments.was ∙ ap Ok arguments)
    (ap (λ job. job.command) job ∙ is_check) (subst (λ job. IsTrue job.choices.has_flags) (sym job) has_flags))
