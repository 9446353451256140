use Rattle.std.proofs.Common.{◌≡◌}
use Rattle.class_rules.proofs.subsumed.OneCharacterBranches.containing.Given as goal

abbrev pub invariant-loop-other : goal.invariant-loop-other
invariant-loop-other l = l.known.flags ≡ l.fn.known.flags
