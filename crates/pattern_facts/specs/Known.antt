-- What is known of the matches of a node.
use Rattle.std.specs.Prelude.{◌≡◌, ◌≢◌, ◌+◌, ◌<◌, ⊤, Bool, true, false, ◌⊎◌, List, ◌++◌, length, Option, None, Some, IsSomeAnd}
use Rattle.std.specs.List.{AllZip}
use Rattle.fancy_lex.specs.Text.{bytes}
use Rattle.fancy_grammar.specs.Label as label
use Rattle.fancy_grammar.specs.Label.{Leaf, Wrap, Row}
use Rattle.fancy_grammar.specs.Tree.{Tree, Trees, leaf, over, row, no_trees, more_trees, any, literal, delegate}
use Rattle.class_meaning.specs.ClassMeaning.{IsMeaningOf}
use Rattle.class_meaning.specs.EnginePattern.{engine_pattern}
use Rattle.class_meaning.specs.declared.class_text.ClassMeaning.{ClassMeaning}
use Rattle.class_meaning.specs.declared.class_text.ClassMeaning.TheVariants.{Characters, Refused, NotOneCharacter}
use Rattle.pattern_matches.specs.Defined.{IsDefined}
use Rattle.pattern_matches.specs.Lengths.{min_length, max_length}
use Rattle.pattern_matches.specs.Matches.{Assertions, Matches}
use Rattle.pattern_matches.specs.Parts.{Position}
use Rattle.pattern_facts.specs.Anchors.{MatchesLieAt, is_anchored}
use Rattle.pattern_facts.specs.Anchors as side
use Rattle.pattern_facts.specs.Bytes.{AreBytes}
use Rattle.pattern_facts.specs.Lengths.{AreLengths, IsWithin, Measure, can_be_empty, is_constant}
use Rattle.pattern_facts.specs.declared.lengths.Lengths.{Lengths}
use Rattle.pattern_facts.specs.declared.node_facts.Facts.{Facts}

-- ---- not known

abbrev pub IsNoSet : ClassMeaning → Type 0
IsNoSet (Characters set) = ⊥
IsNoSet (Refused error) = ⊤
IsNoSet NotOneCharacter = ⊤

-- what the engine makes of the class, literal or dot is not seen to be one character
abbrev pub IsUnread : Bool → Tree → Type 0
IsUnread unicode t =
    IsSomeAnd (engine_pattern unicode t) (λ (config, text). (m : ClassMeaning) × IsMeaningOf config text m × IsNoSet m)

abbrev pub IsLeafUnknown : Bool → Leaf → Type 0
IsLeafUnknown unicode label.empty = ⊥
IsLeafUnknown unicode (label.assertion a) = ⊥
IsLeafUnknown unicode (label.any newline crlf) = IsUnread unicode (any newline crlf)
IsLeafUnknown unicode (label.literal text casei) = IsUnread unicode (literal text casei)
IsLeafUnknown unicode (label.delegate text casei) = IsUnread unicode (delegate text casei)
IsLeafUnknown unicode _ = ⊤

abbrev pub IsWrapUnknown : Wrap → Type 0
IsWrapUnknown label.group = ⊥
IsWrapUnknown (label.look_around l) = ⊥
IsWrapUnknown (label.repeat lo hi greedy) = hi < lo
IsWrapUnknown _ = ⊤

abbrev pub IsRowUnknown : Row → Type 0
IsRowUnknown label.concat = ⊥
IsRowUnknown label.alt = ⊥
IsRowUnknown _ = ⊤

abbrev mutual
  -- what the tree matches is not defined, because of one of its nodes, or is not seen to be
  pub IsUnknown : Bool → Tree → Type 0
  IsUnknown unicode (leaf l) = IsLeafUnknown unicode l
  IsUnknown unicode (over w t) = IsWrapUnknown w ⊎ IsUnknown unicode t
  IsUnknown unicode (row r ts) = IsRowUnknown r ⊎ IsOneUnknown unicode ts

  pub IsOneUnknown : Bool → Trees → Type 0
  IsOneUnknown unicode no_trees = ⊥
  IsOneUnknown unicode (more_trees t ts) = IsUnknown unicode t ⊎ IsOneUnknown unicode ts

-- ---- known

-- whether the node is a leaf that matches only empty parts
abbrev pub is_empty_leaf : Tree → Bool
is_empty_leaf (leaf label.empty) = true
is_empty_leaf (leaf (label.assertion a)) = true
is_empty_leaf _ = false

-- the facts are those of the tree, whose matches are defined
pub record IsKnownAs (unicode : Bool) (t : Tree) (f : Facts) : Type 0 where
  pub defined : IsDefined unicode t
  pub characters : AreLengths (min_length t) (max_length t) f.characters
  pub bytes : AreBytes unicode t f.bytes
  pub start : f.is_anchored_at_start ≡ is_anchored side.front t
  pub end : f.is_anchored_at_end ≡ is_anchored side.back t

abbrev pub IsFactsOf : Bool → Tree → Option Facts → Type 0
IsFactsOf unicode t None = IsUnknown unicode t
IsFactsOf unicode t (Some f) = IsKnownAs unicode t f

-- a row for each of these nodes is added
abbrev pub Adds : Bool → List Tree → List (Option Facts) → List (Option Facts) → Type 0
Adds unicode ts old new = (more : List (Option Facts)) × (new ≡ old ++ more) × AllZip (IsFactsOf unicode) ts more

-- ---- what that says of matches

-- each match has a length within these, and all have one length where they say so
pub record AreLongAs (unicode : Bool) (t : Tree) (size : Measure) (l : Lengths) : Type 0 where
  pub within : (holds : Assertions) (p q : Position) → Matches unicode holds t p q → IsWithin size l p q
  pub constant : is_constant l ≡ true → (holds : Assertions) (p q : Position) → Matches unicode holds t p q →
      size q.before ≡ size p.before + l.min

-- What the tree matches is defined, and its matches are as the facts say: so many characters and bytes; not empty; at
-- the start or the end of the text.
pub record HasFacts (unicode : Bool) (t : Tree) (f : Facts) : Type 0 where
  pub known : IsKnownAs unicode t f
  pub characters : AreLongAs unicode t length f.characters
  pub bytes : AreLongAs unicode t bytes f.bytes
  pub not_empty : can_be_empty f.characters ≡ false → (holds : Assertions) (p q : Position) →
      Matches unicode holds t p q → p ≢ q
  pub start : f.is_anchored_at_start ≡ true → MatchesLieAt side.front unicode t
  pub end : f.is_anchored_at_end ≡ true → MatchesLieAt side.back unicode t

-- what a row says of its node
abbrev pub IsRowOf : Bool → Tree → Option Facts → Type 0
IsRowOf unicode t None = IsUnknown unicode t
IsRowOf unicode t (Some f) = HasFacts unicode t f
