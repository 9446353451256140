use Rattle.std.proofs.Common.{◌≡◌, ◌+◌, ℕ, List, drop}
use Rattle.fancy_syntax.specs.View.{view}
use Rattle.backtracking.specs.TwoWays.{IsLongest}
use Rattle.backtracking.proofs.checker.count_matched.Given as goal

abbrev pub invariant-loop-count : goal.invariant-loop-count
invariant-loop-count l = (n m : ℕ) (v : List ℕ) → m ≡ l.count + n → IsLongest l.unicode (view l.tree) n (drop l.count l.text) v →
    IsLongest l.unicode (view l.tree) m l.text v
