use Rattle.std.proofs.Common.{ap, sym, ◌∙◌}
use Rattle.fancy_grammar.specs.PatternNeeds.{inline_flags}
use Rattle.fancy_pattern.proofs.OutputLemmas.{added_nothing, added_as}
use Rattle.fancy_pattern.proofs.SettledLemmas.{nothing_set, sets_nothing}
use Rattle.fancy_pattern.proofs.flags.put_inline_flags.Goals as goal

pub returns-then-are_met : goal.returns-then-are_met
returns-then-are_met c =
    let f = c.args.context.now.flags in
    let met = c.are_met.ensures.0 c.if-are_met.true in (
      added_as _ _ _ _ (added_nothing _) (sym (nothing_set f) ∙ ap (inline_flags f) (sym met)),
      sets_nothing c.args.context.now c.args.needs met,
    )
