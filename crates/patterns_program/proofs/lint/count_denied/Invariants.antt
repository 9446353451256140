use Rattle.std.proofs.Common.{Contains}
use Rattle.std.specs.Bool.{OnTrue}
use Rattle.lint_rules.specs.declared.chosen.Level.{Level}
use Rattle.patterns_program.proofs.lint.count_denied.Given as goal

abbrev pub invariant-loop-one : goal.invariant-loop-one
invariant-loop-one l = OnTrue l.is_denied (Contains l.chosen.levels Level.Deny)
