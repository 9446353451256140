use Rattle.std.proofs.Common.{subst}
use Rattle.std.specs.Prelude.{OnOk}
use Rattle.fancy_grammar.specs.PatternNeeds.{inline_flags}
use Rattle.fancy_pattern.specs.TextOutput.{Added}
use Rattle.fancy_pattern.proofs.WritesLemmas.{on_both}
use Rattle.fancy_pattern.proofs.flags.put_new_flags.Goals as goal

pub returns : goal.returns
returns c =
    on_both c.put_flag_change.result _ _
    (subst (λ f. OnOk c.put_flag_change.result (Added c.args.out.now c.put_flag_change.new.out
    (inline_flags c.args.context.now.flags f))) c.set.ensures.flags c.put_flag_change.ensures)
    c.set.ensures.context
