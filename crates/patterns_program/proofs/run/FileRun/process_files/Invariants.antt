use Rattle.std.proofs.Common.{◌≡◌}
use Rattle.patterns_program.specs.declared.outcome.Outcome.TheVariants.{Good}
use Rattle.patterns_program.proofs.run.FileRun.process_files.Given as goal

-- the outcome is good only if it was before the files
abbrev pub invariant-loop-done : goal.invariant-loop-done
invariant-loop-done g l = l.outcome ≡ Good → l.initial.outcome ≡ Good
