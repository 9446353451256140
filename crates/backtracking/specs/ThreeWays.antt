-- The ways of a concatenation over a text: turns of one repeat, the trees between, and turns of another repeat.
use Rattle.std.specs.Prelude.{ℕ, Bool, List, ◌∷◌}
use Rattle.fancy_grammar.specs.Tree.{Tree, trees_of}
use Rattle.backtracking.specs.TwoWays.{Rest, at, GoesAll, Turns, Part, IsWay}
use Rattle.backtracking.specs.declared.decision.Decision.{Decision}
use Rattle.backtracking.specs.declared.decision.Decision.TheVariants.{Done}

-- a way of matching all of the text by turns of x, then the trees ts, then turns of y
pub record IsWayAcross (unicode : Bool) (x : Tree) (ts : List Tree) (y : Tree) (w : List ℕ) (ds : List Decision) : Type 0 where
  pub count : ℕ
  pub left : Rest  -- what remains after the turns of x
  pub crossed : Rest  -- what remains after the trees
  pub turns_of_x : Turns unicode x count (at ds w) (at (Done ∷ left.decisions) left.text)
  pub between : GoesAll unicode (trees_of ts) left crossed
  pub turns_of_y : IsWay unicode y crossed.text crossed.decisions

-- three ways of matching the same text: by turns of x, across, and by turns of y; the first two are different
pub record AreThreeWays (unicode : Bool) (x : Tree) (ts : List Tree) (y : Tree) (w : List ℕ) (ds es fs : List Decision) : Type 0 where
  pub first : IsWay unicode x w ds
  pub across : IsWayAcross unicode x ts y w es
  pub last : IsWay unicode y w fs
  pub part : Part ds es
