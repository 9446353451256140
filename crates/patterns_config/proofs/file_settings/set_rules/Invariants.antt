use Rattle.std.proofs.Common.{drop}
use Rattle.patterns_config.specs.Levels.{levels_of_names}
use Rattle.patterns_config.proofs.LevelsLemmas.{GivesAsAll}
use Rattle.lint_rules.specs.Chosen.{level_of}
use Rattle.lint_rules.specs.declared.rule.Rule.{Rule}
use Rattle.patterns_config.proofs.file_settings.set_rules.Given as goal

-- the names from the index on give each rule what all of them give
abbrev pub invariant-loop-name : goal.invariant-loop-name
invariant-loop-name l = (rule : Rule) → GivesAsAll rule (levels_of_names l.level (drop l.name-index l.names)) (levels_of_names l.level l.names)
    (level_of l.initial.chosen.levels rule) (level_of l.chosen.levels rule)
