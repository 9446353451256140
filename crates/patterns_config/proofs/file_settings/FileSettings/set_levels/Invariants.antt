use Rattle.std.proofs.Common.{drop, map}
use Rattle.lint_rules.specs.Chosen.{level_of}
use Rattle.lint_rules.specs.declared.rule.Rule.{Rule}
use Rattle.patterns_config.specs.FileSettings.{options_of}
use Rattle.patterns_config.specs.Levels.{levels_of_options}
use Rattle.patterns_config.proofs.LevelsLemmas.{GivesAsAll}
use Rattle.patterns_config.proofs.file_settings.FileSettings.set_levels.Given as goal

-- the options from the index on give each rule what all of them give
abbrev pub invariant-loop-option : goal.invariant-loop-option
invariant-loop-option l = (rule : Rule) →
    GivesAsAll rule (levels_of_options (map (λ option. option.now) (drop l.option-index l.self.found.items))) (levels_of_options (options_of l.self))
    (level_of l.initial.chosen.levels rule) (level_of l.chosen.levels rule)
