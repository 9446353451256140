use Rattle.std.proofs.Common.{drop}
use Rattle.lint_rules.specs.Chosen.{level_of}
use Rattle.lint_rules.specs.declared.rule.Rule.{Rule}
use Rattle.patterns_config.specs.Levels.{levels_of_arguments}
use Rattle.patterns_config.proofs.LevelsLemmas.{GivesAsAll}
use Rattle.patterns_config.proofs.file_settings.set_arguments.Given as goal

-- the arguments from the index on give each rule what all of them give
abbrev pub invariant-loop-one : goal.invariant-loop-one
invariant-loop-one l = (rule : Rule) →
    GivesAsAll rule (levels_of_arguments (drop l.one-index l.levels)) (levels_of_arguments l.levels) (level_of l.initial.chosen.levels rule)
    (level_of l.chosen.levels rule)
