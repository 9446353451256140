use Rattle.std.proofs.Common.{string_bytes, subst}
use Rattle.lint_rules.specs.Chosen.{level_of}
use Rattle.patterns_config.specs.Levels.{GivesLevel}
use Rattle.patterns_config.proofs.LevelsLemmas.{given_at, given_end}
use Rattle.patterns_config.proofs.file_settings.set_rules.Goals as goal

pub loop-name-preserved : goal.loop-name-preserved
loop-name-preserved c rule =
    given_at (λ name. record { name = string_bytes name; level = c.args.level }) c.args.names.now c.loop-name.name-index c.name-item.result
    c.loop-name-test.true c.name-item.is (c.loop-name.invariant rule)
    (subst (λ name. GivesLevel name c.args.level rule (level_of c.loop-name.chosen.levels rule) (level_of c.set.new.chosen.levels rule))
    c.as_str.ensures.value (c.set.ensures rule))

pub returns : goal.returns
returns c rule =
    given_end (λ name. record { name = string_bytes name; level = c.args.level }) c.args.names.now c.loop-name.name-index
    c.loop-name-test.false (c.loop-name.invariant rule)
