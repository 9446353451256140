-- Trees that match the same parts.
use Rattle.std.specs.Prelude.{ℕ, zero, suc, Bool}
use Rattle.fancy_grammar.specs.Tree.{Tree, Trees, no_trees, more_trees}
use Rattle.pattern_matches.specs.Parts.{Position, Parts}
use Rattle.pattern_matches.specs.Matches.{Assertions, Matches}

-- each part of P is one of Q
abbrev pub Within : Parts → Parts → Type 0
Within P Q = (p q : Position) → P p q → Q p q

-- wherever the assertions hold, each part that t matches u matches too
abbrev pub Covers : Bool → Tree → Tree → Type 0
Covers unicode u t = (holds : Assertions) → Within (Matches unicode holds t) (Matches unicode holds u)

-- the two match the same parts of each text
pub record SameMatches (unicode : Bool) (t u : Tree) : Type 0 where
  pub there : Covers unicode u t
  pub back : Covers unicode t u

-- the trees without the one at index i
abbrev pub without : Trees → ℕ → Trees
without no_trees i = no_trees
without (more_trees t ts) zero = ts
without (more_trees t ts) (suc i) = more_trees t (without ts i)
