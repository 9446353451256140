use Rattle.std.proofs.Common.{ap, ◌∙◌}
use Rattle.fancy_grammar.specs.PatternNeeds.{with_needs}
use Rattle.fancy_pattern.proofs.KnownLemmas.{set_known}
use Rattle.fancy_pattern.proofs.context.Context.set.Goals as goal

pub returns-clause-context : goal.returns-clause-context
returns-clause-context c k h l allowed is = record {
  flags = c.with_needs-self.ensures ∙ ap (λ f. with_needs f c.args.needs) is.flags;
  opened = is.opened;
  left = is.left;
  needs = set_known k h.flags (with_needs h.flags c.args.needs) c.args.self.now.needs.now l allowed is.needs;
}
