-- The turns of a repeat as engines take them: after the least number of turns they take none that is empty.
use Rattle.std.specs.Prelude.{◌≢◌, ℕ, ◌+◌, ◌<◌, ◌≤◌}
use Rattle.fancy_lex.specs.Quantifier.{most}
use Rattle.pattern_matches.specs.Parts.{Position, Parts, Then, Times}

-- the parts of P that are not empty
abbrev pub NotEmpty : Parts → Position → Position → Type 0
NotEmpty P p q = P p q × (p ≢ q)

-- lo parts of P, and then more that are not empty; `most` is no limit
pub record EngineTurns (P : Parts) (lo hi : ℕ) (p q : Position) : Type 0 where
  pub more : ℕ
  pub few : hi < most → lo + more ≤ hi
  pub turns : Then (Times P lo) (Times (NotEmpty P) more) p q
