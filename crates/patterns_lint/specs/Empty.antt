-- What matches the empty text, as far as the form of a tree says, and what that says of matches.
use Rattle.std.specs.Prelude.{◌≡◌, ◌≢◌, ◌⊎◌, Bool, true, false, ◌&&◌, ◌||◌, ◌==◌, not}
use Rattle.fancy_grammar.specs.Label as label
use Rattle.fancy_grammar.specs.Label.{Leaf, Wrap, Row}
use Rattle.fancy_grammar.specs.Tree.{Tree, leaf, over, row, Trees, no_trees, more_trees}
use Rattle.pattern_matches.specs.Matches.{Assertions, Matches}
use Rattle.pattern_matches.specs.Parts.{Position}

-- whether a leaf matches nothing but the empty text: assertions, conditions, verbs and what else takes no character
abbrev pub leaf_matches_only_empty : Leaf → Bool
leaf_matches_only_empty label.empty = true
leaf_matches_only_empty (label.assertion a) = true
leaf_matches_only_empty label.keep_out = true
leaf_matches_only_empty label.continue_from_previous_match_end = true
leaf_matches_only_empty (label.backref_exists n level) = true
leaf_matches_only_empty (label.verb v) = true
leaf_matches_only_empty label.clear = true
leaf_matches_only_empty _ = false

abbrev mutual
  -- whether a tree matches nothing but the empty text: look-around does, and what holds only such trees
  pub matches_only_empty : Tree → Bool
  matches_only_empty (leaf l) = leaf_matches_only_empty l
  matches_only_empty (over label.group t) = matches_only_empty t
  matches_only_empty (over (label.look_around l) t) = true
  matches_only_empty (over (label.repeat lo hi greedy) t) = matches_only_empty t
  matches_only_empty (over label.atomic_group t) = matches_only_empty t
  matches_only_empty (over label.define_group t) = true
  matches_only_empty (over label.stopper t) = true
  matches_only_empty (over w t) = false
  matches_only_empty (row label.expression ts) = false
  matches_only_empty (row r ts) = all_match_only_empty ts

  pub all_match_only_empty : Trees → Bool
  all_match_only_empty no_trees = true
  all_match_only_empty (more_trees t ts) = matches_only_empty t && all_match_only_empty ts

-- whether a leaf can match the empty text; of a reference, a call or a verb it is not said
abbrev pub leaf_can_match_empty : Leaf → Bool
leaf_can_match_empty label.empty = true
leaf_can_match_empty (label.assertion a) = true
leaf_can_match_empty label.keep_out = true
leaf_can_match_empty label.continue_from_previous_match_end = true
leaf_can_match_empty (label.backref_exists n level) = true
leaf_can_match_empty label.clear = true
leaf_can_match_empty _ = false

abbrev mutual
  -- whether a tree can match the empty text: what may repeat no times can, an alternation where one branch can, and a
  -- concatenation or a conditional where all that it holds can
  pub can_match_empty : Tree → Bool
  can_match_empty (leaf l) = leaf_can_match_empty l
  can_match_empty (over label.group t) = can_match_empty t
  can_match_empty (over (label.look_around l) t) = true
  can_match_empty (over (label.repeat lo hi greedy) t) = (lo == 0) || can_match_empty t
  can_match_empty (over label.atomic_group t) = can_match_empty t
  can_match_empty (over label.define_group t) = true
  can_match_empty (over label.stopper t) = true
  can_match_empty (over w t) = false
  can_match_empty (row label.concat ts) = all_can_match_empty ts
  can_match_empty (row label.alt ts) = any_can_match_empty ts
  can_match_empty (row label.expression ts) = false
  can_match_empty (row label.conditional ts) = all_can_match_empty ts

  pub all_can_match_empty : Trees → Bool
  all_can_match_empty no_trees = true
  all_can_match_empty (more_trees t ts) = can_match_empty t && all_can_match_empty ts

  pub any_can_match_empty : Trees → Bool
  any_can_match_empty no_trees = false
  any_can_match_empty (more_trees t ts) = can_match_empty t || any_can_match_empty ts

abbrev mutual
  -- whether a tree matches the empty text at every position: what may repeat no times does, an alternation where one
  -- branch does, and a concatenation where all that it holds does
  pub matches_everywhere : Tree → Bool
  matches_everywhere (leaf label.empty) = true
  matches_everywhere (leaf l) = false
  matches_everywhere (over label.group t) = matches_everywhere t
  matches_everywhere (over (label.repeat lo hi greedy) t) = (lo == 0) || matches_everywhere t
  matches_everywhere (over label.atomic_group t) = matches_everywhere t
  matches_everywhere (over w t) = false
  matches_everywhere (row label.concat ts) = all_match_everywhere ts
  matches_everywhere (row label.alt ts) = any_matches_everywhere ts
  matches_everywhere (row r ts) = false

  pub all_match_everywhere : Trees → Bool
  all_match_everywhere no_trees = true
  all_match_everywhere (more_trees t ts) = matches_everywhere t && all_match_everywhere ts

  pub any_matches_everywhere : Trees → Bool
  any_matches_everywhere no_trees = false
  any_matches_everywhere (more_trees t ts) = matches_everywhere t || any_matches_everywhere ts

abbrev mutual
  -- whether a capturing group is in a tree
  pub has_group : Tree → Bool
  has_group (leaf l) = false
  has_group (over label.group t) = true
  has_group (over (label.ast_group name position) t) = false
  has_group (over w t) = has_group t
  has_group (row r ts) = any_has_group ts

  pub any_has_group : Trees → Bool
  any_has_group no_trees = false
  any_has_group (more_trees t ts) = has_group t || any_has_group ts

-- the empty pattern
abbrev pub is_empty : Tree → Bool
is_empty (leaf label.empty) = true
is_empty _ = false

-- a look-around whose contents match everywhere. One with a capturing group may be there for the group, and one with no
-- contents is meant.
abbrev pub is_useless_look_around : Tree → Bool
is_useless_look_around (over (label.look_around l) t) = matches_everywhere t && not (has_group t) && not (is_empty t)
is_useless_look_around _ = false

-- ---- matches

-- each match of the tree is empty
abbrev pub HasOnlyEmptyMatches : Bool → Tree → Type 0
HasOnlyEmptyMatches unicode t = (holds : Assertions) (p q : Position) → Matches unicode holds t p q → p ≡ q

-- no match of the tree is empty
abbrev pub HasNoEmptyMatch : Bool → Tree → Type 0
HasNoEmptyMatch unicode t = (holds : Assertions) (p q : Position) → Matches unicode holds t p q → p ≢ q

-- the tree matches the empty part at each position
abbrev pub HasEachEmptyMatch : Bool → Tree → Type 0
HasEachEmptyMatch unicode t = (holds : Assertions) (p : Position) → Matches unicode holds t p p

-- the tree has no match
abbrev pub HasNoMatch : Bool → Tree → Type 0
HasNoMatch unicode t = (holds : Assertions) (p q : Position) → Matches unicode holds t p q → ⊥

-- whether the tree matches does not depend on the position: it matches the empty part at each, or nothing
abbrev pub IsDecided : Bool → Tree → Type 0
IsDecided unicode t = HasEachEmptyMatch unicode t ⊎ HasNoMatch unicode t
