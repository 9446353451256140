-- Whether matches lie at the start or the end of a text because an assertion says so.
use Rattle.std.specs.Prelude.{◌≡◌, Bool, true, false, ◌&&◌, ◌||◌, nat_lt, []}
use Rattle.fancy_lex.specs.declared.escape.Assertion.{Assertion}
use Rattle.fancy_lex.specs.declared.escape.Assertion.TheVariants.{StartText, EndText}
use Rattle.fancy_grammar.specs.Label as label
use Rattle.fancy_grammar.specs.Label.{Leaf, Wrap, Row}
use Rattle.fancy_grammar.specs.Tree.{Tree, Trees, leaf, over, row, no_trees, more_trees}
use Rattle.fancy_grammar.specs.declared.kinds.LookAround.{LookAround}
use Rattle.fancy_grammar.specs.declared.kinds.LookAround.TheVariants.{LookAhead, LookBehind}
use Rattle.pattern_matches.specs.Matches.{Assertions, Matches}
use Rattle.pattern_matches.specs.Parts.{Position}

-- a side of a text, or of a part: its start, or its end
pub data Side : Type 0 where
  front : Side
  back : Side

-- the assertion holds only at this side of a text
abbrev pub asserts : Side → Assertion → Bool
asserts front StartText = true
asserts back EndText = true
asserts _ _ = false

-- the look-around sees a match that has this side where the look-around is
abbrev pub touches : Side → LookAround → Bool
touches front LookAhead = true
touches back LookBehind = true
touches _ _ = false

abbrev pub is_leaf_anchored : Side → Leaf → Bool
is_leaf_anchored s (label.assertion a) = asserts s a
is_leaf_anchored s _ = false

-- whether the node is the assertion of this side
abbrev pub is_side : Side → Tree → Bool
is_side s (leaf l) = is_leaf_anchored s l
is_side s (over w t) = false
is_side s (row r ts) = false

-- a node over a tree that is anchored or not
abbrev pub is_wrap_anchored : Side → Wrap → Bool → Bool
is_wrap_anchored s label.group b = b
is_wrap_anchored s (label.look_around l) b = touches s l && b
is_wrap_anchored s (label.repeat lo hi greedy) b = nat_lt 0 lo && b
is_wrap_anchored s _ b = false

-- a row of a tree before others: one of the pieces is enough, and each branch is needed
abbrev pub is_row_anchored : Row → Bool → Bool → Bool
is_row_anchored label.concat a b = a || b
is_row_anchored label.alt a b = a && b
is_row_anchored _ a b = false

abbrev pub is_none_anchored : Row → Bool
is_none_anchored label.alt = true
is_none_anchored _ = false

abbrev mutual
  pub is_anchored : Side → Tree → Bool
  is_anchored s (leaf l) = is_leaf_anchored s l
  is_anchored s (over w t) = is_wrap_anchored s w (is_anchored s t)
  is_anchored s (row r ts) = are_anchored s r ts

  pub are_anchored : Side → Row → Trees → Bool
  are_anchored s r no_trees = is_none_anchored r
  are_anchored s r (more_trees t ts) = is_row_anchored r (is_anchored s t) (are_anchored s r ts)

-- ---- what that says of matches

-- the part from p to q has this side where the text has it
abbrev pub LiesAt : Side → Position → Position → Type 0
LiesAt front p q = p.before ≡ []
LiesAt back p q = q.after ≡ []

-- the assertions of a text's start and end hold nowhere else
pub record AreTextSides (holds : Assertions) : Type 0 where
  pub start : (p : Position) → holds StartText p ≡ true → p.before ≡ []
  pub end : (p : Position) → holds EndText p ≡ true → p.after ≡ []

-- each match of the tree has this side where the text has it
abbrev pub MatchesLieAt : Side → Bool → Tree → Type 0
MatchesLieAt s unicode t = (holds : Assertions) → AreTextSides holds → (p q : Position) → Matches unicode holds t p q →
    LiesAt s p q
