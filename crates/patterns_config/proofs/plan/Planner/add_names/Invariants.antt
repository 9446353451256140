use Rattle.std.proofs.Common.{IsTrue}
use Rattle.patterns_config.proofs.plan.Planner.add_names.Given as goal

abbrev pub invariant-loop-name : goal.invariant-loop-name
invariant-loop-name g l = IsTrue l.self.is_complete → IsTrue l.initial.self.is_complete
