use Rattle.std.proofs.Common.{◌≡◌, take}
use Rattle.fancy_syntax.proofs.SameLemmas.{positioned_views}
use Rattle.fancy_syntax.proofs.expr.equality.+same.Given as goal

abbrev pub invariant-is_same_list-loop-i : goal.invariant-is_same_list-loop-i
invariant-is_same_list-loop-i l =
    positioned_views l.with_positions (take l.i l.trees) ≡ positioned_views l.with_positions (take l.i l.others)
