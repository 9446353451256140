use Rattle.std.proofs.Common.{◌≡◌, ◌∙◌, sym, ap, subst, Ok, IsTrue}
use Rattle.patterns_program.specs.Accepted.{AreArgumentsAccepted}
use Rattle.patterns_program.proofs.run.run_plan.Goals as goal

pub returns-in-Ok-clause-accepted : goal.returns-in-Ok-clause-accepted
returns-in-Ok-clause-accepted g c = λ some zero is_check has_flags.
    let job = c.new-2.ensures in
    subst AreArgumentsAccepted job
    (c.process_files.ensures.accepted some (c.in-Ok.is ∙ ap Ok (c.status.ensures.good.0 zero))
    (ap (λ job. job.command) job ∙ is_check) (subst (λ job. IsTrue job.choices.has_flags) (sym job) has_flags))
