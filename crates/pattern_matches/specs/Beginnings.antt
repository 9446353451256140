-- Trees that match from each position from which another tree does, as a branch whose beginning an earlier one matches.
use Rattle.std.specs.Prelude.{Bool, ⊤}
use Rattle.fancy_grammar.specs.Tree.{Tree, Trees, no_trees, more_trees}
use Rattle.pattern_matches.specs.Parts.{Position}
use Rattle.pattern_matches.specs.Matches.{Assertions, Matches}
use Rattle.pattern_matches.specs.SameMatches.{Covers}

-- the tree matches some part that begins at p
abbrev pub MatchesFrom : Bool → Assertions → Tree → Position → Type 0
MatchesFrom unicode holds t p = (q : Position) × Matches unicode holds t p q

-- t matches from each position from which u does
abbrev pub CoversStarts : Bool → Tree → Tree → Type 0
CoversStarts unicode t u =
    (holds : Assertions) (p : Position) → MatchesFrom unicode holds u p → MatchesFrom unicode holds t p

-- each of the trees matches the empty part at each position
abbrev pub AreOptional : Bool → Trees → Type 0
AreOptional unicode no_trees = ⊤
AreOptional unicode (more_trees t ts) =
    ((holds : Assertions) (p : Position) → Matches unicode holds t p p) × AreOptional unicode ts

-- The pieces of a branch begin with what those of an earlier one match: piece by piece, up to one where it is enough
-- that the earlier one matches from the same position, or to the end. What is left of the earlier branch is optional.
pub data BeginsWithin (unicode : Bool) : Trees → Trees → Type 0 where
  ended : {us ts : Trees} → AreOptional unicode ts → BeginsWithin unicode us ts
  last : {u t : Tree} {us ts : Trees} → CoversStarts unicode t u → AreOptional unicode ts →
      BeginsWithin unicode (more_trees u us) (more_trees t ts)
  piece : {u t : Tree} {us ts : Trees} → Covers unicode t u → BeginsWithin unicode us ts →
      BeginsWithin unicode (more_trees u us) (more_trees t ts)
