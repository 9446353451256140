use Rattle.std.proofs.Common.{◌≡◌, ◌∙◌, ap, subst, refl, chars, All}
use Rattle.std.proofs.lemmas.Result.{IfOk-at_ok}
use Rattle.fancy_lex.specs.Flags.{flags_of}
use Rattle.fancy_syntax.specs.InfoViews.{HasTree}
use Rattle.patterns_program.proofs.run.FileRun.process_arguments.Goals as goal

pub returns : goal.returns
returns g c = record {
  accepted = λ some ok is_check has_flags.
      let job = c.args.self.now.work.job in
      subst (λ flags. All (λ pattern. HasTree (flags_of flags) (chars pattern.now)) job.patterns.now)
      (c.in_ok-begin.ensures.flags has_flags)
      (c.in_ok-process_lines.ensures.check (ap (λ job. job.command) c.in_ok-begin.ensures.job ∙ is_check)
      (IfOk-at_ok (λ outcome. c.process_lines.new.self.outcome ≡ outcome) ok refl));
}
