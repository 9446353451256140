-- Two ways over a word make exponentially many over its repetitions.
use Rattle.std.specs.Prelude.{◌≡◌, ◌≢◌, ℕ, zero, suc, Bool, List, [], ◌∷◌, ◌++◌, length, if◌then◌else◌}
use Rattle.fancy_grammar.specs.Tree.{Tree}
use Rattle.backtracking.specs.TwoWays.{IsWay, Part}
use Rattle.backtracking.specs.declared.decision.Decision.{Decision}

-- the word n times
abbrev pub times : ℕ → List ℕ → List ℕ
times zero w = []
times (suc n) w = w ++ times n w

-- for each repetition of a word one of two ways
abbrev pub chosen : List Decision → List Decision → List Bool → List Decision
chosen ds es [] = []
chosen ds es (b ∷ bs) = (if b then ds else es) ++ chosen ds es bs

-- Over n repetitions of the word each choice of one of the two ways, n times, is a way, and no two choices give the same
-- one: there are 2^n ways.
pub record HasManyWays (unicode : Bool) (t : Tree) (w : List ℕ) (ds es : List Decision) : Type 0 where
  pub ways : (bs : List Bool) → IsWay unicode t (times (length bs) w) (chosen ds es bs)
  pub different : (bs cs : List Bool) → length bs ≡ length cs → bs ≢ cs → Part (chosen ds es bs) (chosen ds es cs)
