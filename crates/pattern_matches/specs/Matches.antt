-- Which parts of a text a tree matches. These are a set: in which order an engine tries them, and which of them it
-- reports, is not said.
use Rattle.std.specs.Prelude.{◌≡◌, ℕ, Bool, true, ◌⊎◌, List, IsSomeAnd}
use Rattle.regex_class.specs.Ranges.{Range, in_ranges}
use Rattle.regex_hir.specs.Text.{is_scalar}
use Rattle.fancy_lex.specs.declared.escape.Assertion.{Assertion}
use Rattle.fancy_grammar.specs.Label as label
use Rattle.fancy_grammar.specs.Label.{Leaf, Wrap, Row}
use Rattle.fancy_grammar.specs.Tree.{Tree, Trees, leaf, over, row, no_trees, more_trees, any, literal, delegate}
use Rattle.fancy_grammar.specs.declared.kinds.LookAround.{LookAround}
use Rattle.fancy_grammar.specs.declared.kinds.LookAround.TheVariants.{LookAhead, LookAheadNeg, LookBehind, LookBehindNeg}
use Rattle.class_meaning.specs.ClassMeaning.{MatchesOneOf}
use Rattle.class_meaning.specs.EnginePattern.{engine_pattern}
use Rattle.pattern_matches.specs.Parts.{Position, Parts, One, Then, Repeated}

-- the engine reads the node, a class, a literal or a dot, as one character of these ranges
abbrev pub IsOneOf : Bool → Tree → List Range → Type 0
IsOneOf unicode t ranges = IsSomeAnd (engine_pattern unicode t) (λ (config, text). MatchesOneOf config text ranges)

-- the code of a character that the node matches
pub record HasCharacter (unicode : Bool) (t : Tree) (c : ℕ) : Type 0 where
  pub ranges : List Range
  pub reads : IsOneOf unicode t ranges
  pub inside : in_ranges ranges c ≡ true
  pub scalar : is_scalar c ≡ true

-- where each assertion holds; the definitions and laws here are about every such choice
abbrev pub Assertions : Type 0
Assertions = Assertion → Position → Bool

-- what a leaf matches
abbrev pub LeafMatches : Bool → Assertions → Leaf → Position → Position → Type 0
LeafMatches unicode holds label.empty p q = p ≡ q
LeafMatches unicode holds (label.assertion a) p q = (p ≡ q) × (holds a p ≡ true)
LeafMatches unicode holds (label.any newline crlf) p q = One (HasCharacter unicode (any newline crlf)) p q
LeafMatches unicode holds (label.literal text casei) p q = One (HasCharacter unicode (literal text casei)) p q
LeafMatches unicode holds (label.delegate text casei) p q = One (HasCharacter unicode (delegate text casei)) p q
LeafMatches unicode holds _ p q = ⊥

-- what a look-around over a tree that matches P needs at a position
abbrev pub Sees : LookAround → Parts → Position → Type 0
Sees LookAhead P p = (q : Position) × P p q
Sees LookAheadNeg P p = (q : Position) → P p q → ⊥
Sees LookBehind P p = (q : Position) × P q p
Sees LookBehindNeg P p = (q : Position) → P q p → ⊥

-- what a node over a tree that matches P does
abbrev pub WrapMatches : Wrap → Parts → Position → Position → Type 0
WrapMatches label.group P p q = P p q
WrapMatches (label.look_around l) P p q = (p ≡ q) × Sees l P p
WrapMatches (label.repeat lo hi greedy) P p q = Repeated P lo hi p q
WrapMatches _ P p q = ⊥

-- what a row of no trees matches
abbrev pub NoneMatch : Row → Position → Position → Type 0
NoneMatch label.concat p q = p ≡ q
NoneMatch _ p q = ⊥

-- what a row of a tree that matches P, before others that match Q, does
abbrev pub MoreMatch : Row → Parts → Parts → Position → Position → Type 0
MoreMatch label.concat P Q p q = Then P Q p q
MoreMatch label.alt P Q p q = P p q ⊎ Q p q
MoreMatch _ P Q p q = ⊥

abbrev mutual
  -- the tree matches the part from p to q
  pub Matches : Bool → Assertions → Tree → Position → Position → Type 0
  Matches unicode holds (leaf l) p q = LeafMatches unicode holds l p q
  Matches unicode holds (over w t) p q = WrapMatches w (Matches unicode holds t) p q
  Matches unicode holds (row r ts) p q = RowMatches unicode holds r ts p q

  pub RowMatches : Bool → Assertions → Row → Trees → Position → Position → Type 0
  RowMatches unicode holds r no_trees p q = NoneMatch r p q
  RowMatches unicode holds r (more_trees t ts) p q =
      MoreMatch r (Matches unicode holds t) (RowMatches unicode holds r ts) p q
