-- The labels of a tree's nodes: everything that a node holds except the trees below it. Texts are lists of characters.
-- An unresolved node holds its reach, and one that remains after references are resolved holds its position.
use Rattle.std.specs.Prelude.{ℕ, ℤ, Bool, true, false, List, Option}
use Rattle.fancy_lex.specs.declared.escape.Assertion.{Assertion}
use Rattle.fancy_lex.specs.Target.{Target}
use Rattle.fancy_grammar.specs.declared.kinds.LookAround.{LookAround}
use Rattle.fancy_grammar.specs.declared.kinds.BacktrackingControlVerb.{BacktrackingControlVerb}

-- a reference before it is resolved
pub data AstReference : Type 0 where
  ast_backref : Target → Bool → Option ℤ → AstReference
  ast_call : Target → AstReference
  ast_condition : Target → Option ℤ → AstReference

-- a node that holds no tree
pub data Leaf : Type 0 where
  empty : Leaf
  any : Bool → Bool → Leaf
  assertion : Assertion → Leaf
  general_newline : Bool → Leaf
  literal : List ℕ → Bool → Leaf
  literal_bytes : List ℕ → Leaf
  delegate : List ℕ → Bool → Leaf
  backref : ℕ → Bool → Leaf
  backref_at_level : ℕ → ℤ → Bool → Leaf
  keep_out : Leaf
  continue_from_previous_match_end : Leaf
  backref_exists : ℕ → Option ℤ → Leaf
  subroutine_call : ℕ → Leaf
  verb : BacktrackingControlVerb → Leaf
  clear : Leaf
  ast_node : AstReference → ℕ → Leaf

-- whether a leaf holds nothing
abbrev pub is_bare : Leaf → Bool
is_bare empty = true
is_bare keep_out = true
is_bare continue_from_previous_match_end = true
is_bare clear = true
is_bare _ = false

-- a node over one tree
pub data Wrap : Type 0 where
  group : Wrap
  look_around : LookAround → Wrap
  repeat : ℕ → ℕ → Bool → Wrap
  atomic_group : Wrap
  define_group : Wrap
  repeater : Wrap
  stopper : Wrap
  ast_group : Option (List ℕ) → ℕ → Wrap

-- a node over several trees: an expression has two, a conditional three
pub data Row : Type 0 where
  concat : Row
  alt : Row
  expression : Row
  conditional : Row
