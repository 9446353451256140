use Rattle.patterns_config.proofs.LevelsLemmas.{option_at, options_end}
use Rattle.patterns_config.proofs.file_settings.FileSettings.set_levels.Goals as goal

pub loop-option-preserved : goal.loop-option-preserved
loop-option-preserved c rule =
    option_at (λ option. option.now) c.args.self.now.found.items c.loop-option.option-index c.option-item.result
    (rw c.deref-option-items.ensures.value at c.loop-option-test.true) (rw c.deref-option-items.ensures.value at c.option-item.is)
    (c.loop-option.invariant rule) (c.set_option.ensures rule)

pub returns : goal.returns
returns c rule =
    options_end (λ option. option.now) c.args.self.now.found.items c.loop-option.option-index
    (rw c.deref-option-items.ensures.value at c.loop-option-test.false) (c.loop-option.invariant rule)
