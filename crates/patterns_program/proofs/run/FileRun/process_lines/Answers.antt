use Rattle.std.proofs.Common.{◌≡◌, ◌∙◌, sym, ap, subst, chars, length, slice_index_or, All}
use Rattle.std.specs.Prelude.{unwrap_or}
use Rattle.std.specs.List.{AllWithin}
use Rattle.std.proofs.lemmas.List.{get_or_default}
use Rattle.std.proofs.lemmas.List.Elements.{AllWithin-more, AllWithin-upto, All-from_all_within}
use Rattle.fancy_lex.specs.Flags.{flags_of}
use Rattle.fancy_syntax.specs.InfoViews.{HasTree}
use Rattle.patterns_program.proofs.run.FileRun.process_lines.Goals as goal

pub loop-pattern-preserved : goal.loop-pattern-preserved
loop-pattern-preserved g c = record {
  job = c.pattern.ensures.job ∙ c.loop-pattern.invariant.job;
  flags = c.pattern.ensures.flags ∙ c.loop-pattern.invariant.flags;
  accepted = λ is_check good.
      let patterns = c.args.patterns.now in
      let index = c.loop-pattern.pattern-index in
      let was_check = ap (λ job. job.command) (sym c.pattern.ensures.job) ∙ is_check in
      AllWithin-more (λ pattern. HasTree (flags_of c.pattern.new.self.work.flags) (chars pattern.now)) patterns 0 index
      (subst (λ flags. AllWithin (λ pattern. HasTree (flags_of flags) (chars pattern.now)) patterns 0 index)
      (sym c.pattern.ensures.flags) (c.loop-pattern.invariant.accepted was_check (c.pattern.ensures.before good)))
      (λ d. subst (λ flags. HasTree (flags_of flags) (chars (slice_index_or patterns index d).now))
      (ap (λ flags. unwrap_or flags c.loop-pattern.self.work.flags) c.of_line.ensures.flags ∙ sym c.pattern.ensures.flags)
      (subst (λ pattern. HasTree (flags_of (unwrap_or c.of_line.result.flags c.loop-pattern.self.work.flags)) (chars pattern.now))
      (c.of_line.ensures.pattern ∙ get_or_default patterns index _ d c.loop-pattern-test.true)
      (c.in_ok-pattern.ensures.check was_check good)));
}

pub returns : goal.returns
returns g c = record {
  check = λ is_check good.
      let patterns = c.args.patterns.now in
      let index = c.loop-pattern.pattern-index in
      subst (λ flags. All (λ pattern. HasTree (flags_of flags) (chars pattern.now)) patterns) c.loop-pattern.invariant.flags
      (All-from_all_within (λ pattern. HasTree (flags_of c.loop-pattern.self.work.flags) (chars pattern.now)) patterns
      (AllWithin-upto (λ pattern. HasTree (flags_of c.loop-pattern.self.work.flags) (chars pattern.now)) patterns 0 index
      (length patterns) c.loop-pattern-test.false
      (c.loop-pattern.invariant.accepted (ap (λ job. job.command) c.loop-pattern.invariant.job ∙ is_check) good)));
}
