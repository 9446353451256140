use Rattle.std.proofs.lemmas.List.{get_or_default}
use Rattle.patterns_config.proofs.LevelsLemmas.{given_at, given_end}
use Rattle.patterns_config.proofs.file_settings.set_arguments.Goals as goal

pub loop-one-preserved : goal.loop-one-preserved
loop-one-preserved c rule =
    given_at (λ one. record { name = one.name.now; level = one.level }) c.args.levels.now c.loop-one.one-index _ c.loop-one-test.true
    (get_or_default c.args.levels.now c.loop-one.one-index _ _ c.loop-one-test.true) (c.loop-one.invariant rule) (c.set.ensures rule)

pub returns : goal.returns
returns c rule =
    given_end (λ one. record { name = one.name.now; level = one.level }) c.args.levels.now c.loop-one.one-index c.loop-one-test.false
    (c.loop-one.invariant rule)
