use Rattle.std.proofs.Common.{◌≡◌, chars}
use Rattle.std.specs.List.{AllWithin}
use Rattle.fancy_lex.specs.Flags.{flags_of}
use Rattle.fancy_syntax.specs.InfoViews.{HasTree}
use Rattle.patterns_program.specs.declared.job.Command.TheVariants.{Check}
use Rattle.patterns_program.specs.declared.outcome.Outcome.TheVariants.{Good}
use Rattle.patterns_program.proofs.run.FileRun.process_lines.Given as goal

-- the job and the flags stay, and for `check` the patterns before the index are accepted, if the outcome is good
abbrev pub invariant-loop-pattern : goal.invariant-loop-pattern
invariant-loop-pattern g l = record {
  job : l.self.work.job ≡ l.initial.self.work.job;
  flags : l.self.work.flags ≡ l.initial.self.work.flags;
  accepted : l.self.work.job.command ≡ Check → l.self.outcome ≡ Good →
      AllWithin (λ pattern. HasTree (flags_of l.self.work.flags) (chars pattern.now)) l.patterns 0 l.pattern-index;
}
