-- The trees of which `Matches` says what an engine matches. Of a tree with any other node it says nothing: there a node
-- that is not listed here matches no part.
use Rattle.std.specs.Prelude.{◌≤◌, Bool, List, ⊤}
use Rattle.regex_class.specs.Ranges.{Range}
use Rattle.fancy_grammar.specs.Label as label
use Rattle.fancy_grammar.specs.Label.{Leaf, Wrap, Row}
use Rattle.fancy_grammar.specs.Tree.{Tree, Trees, leaf, over, row, no_trees, more_trees, any, literal, delegate}
use Rattle.pattern_matches.specs.Matches.{IsOneOf}

-- the engine reads the node as one character of some ranges
abbrev pub IsOneCharacter : Bool → Tree → Type 0
IsOneCharacter unicode t = (ranges : List Range) × IsOneOf unicode t ranges

-- empty, an assertion, and a dot, a literal or a class of one character
abbrev pub IsLeafDefined : Bool → Leaf → Type 0
IsLeafDefined unicode label.empty = ⊤
IsLeafDefined unicode (label.assertion a) = ⊤
IsLeafDefined unicode (label.any newline crlf) = IsOneCharacter unicode (any newline crlf)
IsLeafDefined unicode (label.literal text casei) = IsOneCharacter unicode (literal text casei)
IsLeafDefined unicode (label.delegate text casei) = IsOneCharacter unicode (delegate text casei)
IsLeafDefined unicode _ = ⊥

-- a capturing group, a look-around, and a repeat whose minimum is not above its maximum
abbrev pub IsWrapDefined : Wrap → Type 0
IsWrapDefined label.group = ⊤
IsWrapDefined (label.look_around l) = ⊤
IsWrapDefined (label.repeat lo hi greedy) = lo ≤ hi
IsWrapDefined _ = ⊥

-- a concatenation and an alternation
abbrev pub IsRowDefined : Row → Type 0
IsRowDefined label.concat = ⊤
IsRowDefined label.alt = ⊤
IsRowDefined _ = ⊥

abbrev mutual
  -- each node of the tree is one of these
  pub IsDefined : Bool → Tree → Type 0
  IsDefined unicode (leaf l) = IsLeafDefined unicode l
  IsDefined unicode (over w t) = IsWrapDefined w × IsDefined unicode t
  IsDefined unicode (row r ts) = IsRowDefined r × AreDefined unicode ts

  pub AreDefined : Bool → Trees → Type 0
  AreDefined unicode no_trees = ⊤
  AreDefined unicode (more_trees t ts) = IsDefined unicode t × AreDefined unicode ts
