use Rattle.lint_rules.specs.Chosen.{level_of}
use Rattle.lint_rules.specs.declared.rule.Rule.{Rule}
use Rattle.patterns_lint.specs.Silenced.{IsSameOrSilent}
use Rattle.patterns_lint.proofs.silenced.silence.Given as goal

abbrev pub invariant-loop-name : goal.invariant-loop-name
invariant-loop-name l = (rule : Rule) → IsSameOrSilent (level_of l.initial.chosen.levels rule) (level_of l.chosen.levels rule)
