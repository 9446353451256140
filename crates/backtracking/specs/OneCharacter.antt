-- What a node that matches one character may match, and what it does not.
use Rattle.std.specs.Prelude.{◌≡◌, ℕ, Bool, true, false, List, IsSomeAnd}
use Rattle.regex_class.specs.Ranges.{Range, in_ranges}
use Rattle.fancy_grammar.specs.Tree.{Tree, any, literal, delegate}
use Rattle.class_meaning.specs.ClassMeaning.{MatchesOneOf}
use Rattle.class_meaning.specs.EnginePattern.{engine_pattern}

-- the node is of a kind that matches one character: a dot, a literal or a class
abbrev pub is_character : Tree → Bool
is_character (any newline crlf) = true
is_character (literal text casei) = true
is_character (delegate text casei) = true
is_character _ = false

-- the matching engine reads the node's pattern as one character of some ranges; `is_in` says whether the one of this code is in them
pub record MatchesIf (unicode : Bool) (t : Tree) (c : ℕ) (is_in : Bool) : Type 0 where
  pub ranges : List Range
  pub reads : IsSomeAnd (engine_pattern unicode t) (λ (config, text). MatchesOneOf config text ranges)
  pub holds : in_ranges ranges c ≡ is_in

-- the node matches one character, and may match the one of this code
abbrev pub MayMatch : Bool → Tree → ℕ → Type 0
MayMatch unicode t c = MatchesIf unicode t c true

-- the node matches one character, but not the one of this code
abbrev pub DoesNotMatch : Bool → Tree → ℕ → Type 0
DoesNotMatch unicode t c = MatchesIf unicode t c false
