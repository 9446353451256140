use Rattle.std.proofs.Common.{◌≤◌, ◌-◌}
use Rattle.json_rpc.proofs.long_text.piece_end.Given as goal

abbrev pub invariant-loop-end : goal.invariant-loop-end
invariant-loop-end l = l.text.start ≤ l.end

abbrev pub decreases-loop-end : goal.decreases-loop-end
decreases-loop-end l = l.text.end - l.end
