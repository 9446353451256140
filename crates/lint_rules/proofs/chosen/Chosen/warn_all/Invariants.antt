use Rattle.std.proofs.Common.{◌≡◌, ℕ, ◌<◌, false, slice_index_or}
use Rattle.lint_rules.specs.Chosen.{level_of, default_level, warned}
use Rattle.lint_rules.specs.declared.rule.RuleRow.{RuleRow}
use Rattle.lint_rules.proofs.chosen.Chosen.warn_all.Given as goal

-- the rules before the index have become warnings
abbrev pub invariant-loop-row : goal.invariant-loop-row
invariant-loop-row l = (k : ℕ) (d : RuleRow) → k < l.row-index → level_of l.self.levels (slice_index_or l.row-items k d).rule
    ≡ warned (default_level false (slice_index_or l.row-items k d).rule) (level_of l.old.levels (slice_index_or l.row-items k d).rule)
