use Rattle.std.proofs.Common.{◌≡◌, ℕ, ◌<◌}
use Rattle.fancy_c.specs.InfoRows.{name_at}
use Rattle.fancy_c.proofs.group_name.fancy_group_name_nonnull.Given as goal

abbrev pub invariant-loop-i : goal.invariant-loop-i
invariant-loop-i l = (k : ℕ) → k < l.i → (name_at l.names k).group ≡ l.group → ⊥
