use Rattle.std.proofs.Common.{subst, ◌∙◌, ap}
use Rattle.lint_rules.specs.Chosen.{level_of, default_level}
use Rattle.patterns_config.specs.Levels.{GiveLevels, levels_of_options}
use Rattle.patterns_config.specs.FileSettings.{options_of}
use Rattle.patterns_config.proofs.LevelsLemmas.{given_both}
use Rattle.patterns_config.proofs.file_settings.levels_with.Goals as goal

pub returns-clause-exact : goal.returns-clause-exact
returns-clause-exact c rule =
    given_both
    (subst (λ before. GiveLevels rule (levels_of_options (options_of c.args.settings.now)) before (level_of c.set_levels.new.chosen.levels rule))
    (c.by_default-chosen.ensures rule ∙ ap (λ is_json. default_level is_json rule) c.is_json_with.ensures) (c.set_levels.ensures rule))
    (c.set_arguments.ensures rule)
