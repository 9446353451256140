use Rattle.std.proofs.Common.{◌≢◌, ℕ, ◌<◌, slice_index_or}
use Rattle.lint_rules.specs.Rules.{rule_name}
use Rattle.lint_rules.specs.declared.rule.RuleRow.{RuleRow}
use Rattle.lint_rules.proofs.rule.Rule.named.Given as goal

-- the rules before the index have other names
abbrev pub invariant-loop-row : goal.invariant-loop-row
invariant-loop-row l = (k : ℕ) (d : RuleRow) → k < l.row-index → rule_name (slice_index_or l.row-items k d).rule ≢ l.name
