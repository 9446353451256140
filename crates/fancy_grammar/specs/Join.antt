-- How the trees of pieces and of branches become one tree.
use Rattle.std.specs.Prelude.{Bool, true, false, List, [], ◌∷◌, if◌then◌else◌}
use Rattle.fancy_grammar.specs.Tree.{Tree, Trees, empty, concat, alt, trees_of}

abbrev pub is_empty : Tree → Bool
is_empty empty = true
is_empty _ = false

-- the trees that are not Empty
abbrev pub solid : List Tree → List Tree
solid [] = []
solid (t ∷ ts) = if is_empty t then solid ts else t ∷ solid ts

-- Empty for no tree, the tree itself for one, and otherwise the trees in one node
abbrev pub one_or : (Trees → Tree) → List Tree → Tree
one_or node [] = empty
one_or node (t ∷ []) = t
one_or node (t ∷ u ∷ ts) = node (trees_of (t ∷ u ∷ ts))

-- a branch of these pieces; the Empties are left out
abbrev pub join : List Tree → Tree
join ts = one_or concat (solid ts)

-- a choice among these branches; the Empties stay
abbrev pub choice : List Tree → Tree
choice ts = one_or alt ts
