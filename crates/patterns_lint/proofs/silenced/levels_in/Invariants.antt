use Rattle.lint_rules.specs.Chosen.{level_of}
use Rattle.lint_rules.specs.declared.rule.Rule.{Rule}
use Rattle.patterns_lint.specs.Silenced.{IsSameOrSilent}
use Rattle.patterns_lint.proofs.silenced.levels_in.Given as goal

abbrev pub invariant-loop-trivium : goal.invariant-loop-trivium
invariant-loop-trivium l = (rule : Rule) → IsSameOrSilent (level_of l.chosen.levels rule) (level_of l.levels.levels rule)
