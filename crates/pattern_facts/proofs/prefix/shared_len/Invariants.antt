use Rattle.std.proofs.Common.{◌≡◌, ◌+◌, nat_eq, drop}
use Rattle.std.specs.List.{common_prefix_len}
use Rattle.pattern_facts.proofs.prefix.shared_len.Given as goal

-- so many are the same, and the others are compared
abbrev pub invariant-loop-i : goal.invariant-loop-i
invariant-loop-i l = common_prefix_len nat_eq l.first l.second
    ≡ l.i + common_prefix_len nat_eq (drop l.i l.first) (drop l.i l.second)
