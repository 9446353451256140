-- A pattern as a tree.
use Rattle.std.specs.Prelude.{ℕ, zero, suc, ◌+◌, max, ℤ, Bool, true, false, List, [], ◌∷◌, Option}
use Rattle.fancy_lex.specs.declared.escape.Assertion.{Assertion}
use Rattle.fancy_grammar.specs.Label as label
use Rattle.fancy_grammar.specs.Label.{Leaf, Wrap, Row, AstReference}
use Rattle.fancy_grammar.specs.declared.kinds.LookAround.{LookAround}
use Rattle.fancy_grammar.specs.declared.kinds.BacktrackingControlVerb.{BacktrackingControlVerb}

mutual
  pub data Tree : Type 0 where
    leaf : Leaf → Tree
    over : Wrap → Tree → Tree
    row : Row → Trees → Tree

  pub data Trees : Type 0 where
    no_trees : Trees
    more_trees : Tree → Trees → Trees

abbrev pub trees_of : List Tree → Trees
trees_of [] = no_trees
trees_of (t ∷ ts) = more_trees t (trees_of ts)

abbrev pub list_of : Trees → List Tree
list_of no_trees = []
list_of (more_trees t ts) = t ∷ list_of ts

-- ---- the nodes by name, each with the trees that it holds

pattern abbrev pub empty : Tree
empty = leaf label.empty

pattern abbrev pub any : Bool → Bool → Tree
any newline crlf = leaf (label.any newline crlf)

pattern abbrev pub assertion : Assertion → Tree
assertion a = leaf (label.assertion a)

pattern abbrev pub general_newline : Bool → Tree
general_newline unicode = leaf (label.general_newline unicode)

pattern abbrev pub literal : List ℕ → Bool → Tree
literal text casei = leaf (label.literal text casei)

pattern abbrev pub literal_bytes : List ℕ → Tree
literal_bytes bytes = leaf (label.literal_bytes bytes)

pattern abbrev pub delegate : List ℕ → Bool → Tree
delegate text casei = leaf (label.delegate text casei)

pattern abbrev pub backref : ℕ → Bool → Tree
backref n casei = leaf (label.backref n casei)

pattern abbrev pub backref_at_level : ℕ → ℤ → Bool → Tree
backref_at_level n level casei = leaf (label.backref_at_level n level casei)

pattern abbrev pub keep_out : Tree
keep_out = leaf label.keep_out

pattern abbrev pub continue_from_previous_match_end : Tree
continue_from_previous_match_end = leaf label.continue_from_previous_match_end

pattern abbrev pub backref_exists : ℕ → Option ℤ → Tree
backref_exists n level = leaf (label.backref_exists n level)

pattern abbrev pub subroutine_call : ℕ → Tree
subroutine_call n = leaf (label.subroutine_call n)

pattern abbrev pub verb : BacktrackingControlVerb → Tree
verb v = leaf (label.verb v)

pattern abbrev pub clear : Tree
clear = leaf label.clear

pattern abbrev pub ast_node : AstReference → ℕ → Tree
ast_node r position = leaf (label.ast_node r position)

pattern abbrev pub group : Tree → Tree
group t = over label.group t

pattern abbrev pub look_around : Tree → LookAround → Tree
look_around t l = over (label.look_around l) t

pattern abbrev pub repeat : Tree → ℕ → ℕ → Bool → Tree
repeat t lo hi greedy = over (label.repeat lo hi greedy) t

pattern abbrev pub atomic_group : Tree → Tree
atomic_group t = over label.atomic_group t

-- a Repeat directly in an AtomicGroup: what a possessive quantifier is parsed as
pattern abbrev pub atomic_repeat : Tree → ℕ → ℕ → Bool → Tree
atomic_repeat t lo hi greedy = over label.atomic_group (over (label.repeat lo hi greedy) t)

pattern abbrev pub define_group : Tree → Tree
define_group t = over label.define_group t

pattern abbrev pub repeater : Tree → Tree
repeater t = over label.repeater t

pattern abbrev pub stopper : Tree → Tree
stopper t = over label.stopper t

pattern abbrev pub ast_group : Option (List ℕ) → ℕ → Tree → Tree
ast_group name position t = over (label.ast_group name position) t

pattern abbrev pub expression : Tree → Tree → Tree
expression a e = row label.expression (more_trees a (more_trees e no_trees))

pattern abbrev pub conditional : Tree → Tree → Tree → Tree
conditional c t f = row label.conditional (more_trees c (more_trees t (more_trees f no_trees)))

pattern abbrev pub concat : Trees → Tree
concat ts = row label.concat ts

pattern abbrev pub alt : Trees → Tree
alt ts = row label.alt ts

-- ---- the children

-- the immediate children in text order; the contents of a capturing group are not among them
abbrev pub children : Tree → List Tree
children (leaf l) = []
children (over (label.ast_group name position) t) = []
children (over w t) = t ∷ []
children (row r ts) = list_of ts

-- whether the node is one that has no children
abbrev pub is_leaf : Tree → Bool
is_leaf (leaf l) = true
is_leaf (over (label.ast_group name position) t) = true
is_leaf _ = false

-- whether the node itself allocates nothing: it has no text, no bytes, no tree and no target
abbrev pub holds_nothing : Tree → Bool
holds_nothing (leaf (label.literal text casei)) = false
holds_nothing (leaf (label.literal_bytes bytes)) = false
holds_nothing (leaf (label.delegate text casei)) = false
holds_nothing (leaf (label.ast_node r position)) = false
holds_nothing (leaf l) = true
holds_nothing _ = false

-- the trees with the one at index i set to u, if there is one
abbrev pub with_tree : Trees → ℕ → Tree → Trees
with_tree no_trees i u = no_trees
with_tree (more_trees t ts) zero u = more_trees u ts
with_tree (more_trees t ts) (suc i) u = more_trees t (with_tree ts i u)

-- the tree with its child at index i set to u, for an i below the number of children
abbrev pub with_child : Tree → ℕ → Tree → Tree
with_child (leaf l) i u = leaf l
with_child (over w t) i u = over w u
with_child (row r ts) i u = row r (with_tree ts i u)

-- whether the children are a list
abbrev pub is_list : Tree → Bool
is_list (concat ts) = true
is_list (alt ts) = true
is_list _ = false

-- ---- the measures of a tree

abbrev mutual
  -- how many nodes, with those in an ast_group; a raw tree may have an ast_group, and no parsed tree has one
  pub nodes : Tree → ℕ
  nodes (leaf l) = 1
  nodes (over w t) = suc (nodes t)
  nodes (row r ts) = suc (nodes_all ts)

  pub nodes_all : Trees → ℕ
  nodes_all no_trees = 0
  nodes_all (more_trees t ts) = nodes t + nodes_all ts

abbrev mutual
  -- how many levels, with those in an ast_group
  pub levels : Tree → ℕ
  levels (leaf l) = 1
  levels (over w t) = suc (levels t)
  levels (row r ts) = suc (levels_all ts)

  pub levels_all : Trees → ℕ
  levels_all no_trees = 0
  levels_all (more_trees t ts) = max (levels t) (levels_all ts)
