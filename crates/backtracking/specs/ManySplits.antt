-- Three ways over a word make n ways over n repetitions of it.
use Rattle.std.specs.Prelude.{ℕ, zero, suc, ◌<◌, Bool, List, [], ◌++◌}
use Rattle.fancy_grammar.specs.Tree.{Tree}
use Rattle.backtracking.specs.ManyWays.{times}
use Rattle.backtracking.specs.ThreeWays.{IsWayAcross}
use Rattle.backtracking.specs.TwoWays.{Part}
use Rattle.backtracking.specs.declared.decision.Decision.{Decision}

-- the decisions n times
abbrev pub repeated : ℕ → List Decision → List Decision
repeated zero ds = []
repeated (suc n) ds = ds ++ repeated n ds

-- of n repetitions of a word k by turns of x, one across, and the others by turns of y
abbrev pub split : List Decision → List Decision → List Decision → ℕ → ℕ → List Decision
split ds es fs zero k = []
split ds es fs (suc n) zero = es ++ repeated n fs
split ds es fs (suc n) (suc k) = ds ++ split ds es fs n k

-- Over n repetitions of the word there is a way across for each k below n, and no two are the same: there are n ways.
pub record HasManySplits (unicode : Bool) (x : Tree) (ts : List Tree) (y : Tree) (w : List ℕ) (ds es fs : List Decision) : Type 0 where
  pub ways : (n k : ℕ) → k < n → IsWayAcross unicode x ts y (times n w) (split ds es fs n k)
  pub different : (n j k : ℕ) → j < k → k < n → Part (split ds es fs n j) (split ds es fs n k)
