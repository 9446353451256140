use Rattle.std.proofs.Common.{◌≡◌}
use Rattle.fancy_c.proofs.group_rows.with_groups.Given as goal

abbrev pub invariant-loop-row : goal.invariant-loop-row
invariant-loop-row l = l.tree.expr ≡ l.fn.expr
