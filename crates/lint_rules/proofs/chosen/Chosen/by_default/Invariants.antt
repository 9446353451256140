use Rattle.std.proofs.Common.{◌≡◌, ℕ, ◌<◌, slice_index_or}
use Rattle.lint_rules.specs.Chosen.{level_of, default_level}
use Rattle.lint_rules.specs.declared.rule.RuleRow.{RuleRow}
use Rattle.lint_rules.proofs.chosen.Chosen.by_default.Given as goal

-- the rules before the index have their levels
abbrev pub invariant-loop-row : goal.invariant-loop-row
invariant-loop-row l = (k : ℕ) (d : RuleRow) → k < l.row-index →
    level_of l.chosen.levels (slice_index_or l.row-items k d).rule ≡ default_level l.is_json (slice_index_or l.row-items k d).rule
