-- A tree with its positions, or without them.
use Rattle.std.specs.Prelude.{ℕ, Bool, if◌then◌else◌}
use Rattle.fancy_grammar.specs.Label.{Leaf, Wrap, ast_node, ast_group}
use Rattle.fancy_grammar.specs.Tree.{Tree, leaf, over, row, Trees, no_trees, more_trees}

-- the position if asked for, and otherwise 0
abbrev pub position_if : Bool → ℕ → ℕ
position_if asked position = if asked then position else 0

abbrev pub leaf_positioned : Bool → Leaf → Leaf
leaf_positioned asked (ast_node r position) = ast_node r (position_if asked position)
leaf_positioned asked l = l

abbrev pub wrap_positioned : Bool → Wrap → Wrap
wrap_positioned asked (ast_group name position) = ast_group name (position_if asked position)
wrap_positioned asked w = w

abbrev mutual
  -- the tree with its positions if asked for, and otherwise with each set to 0
  pub positioned : Bool → Tree → Tree
  positioned asked (leaf l) = leaf (leaf_positioned asked l)
  positioned asked (over w t) = over (wrap_positioned asked w) (positioned asked t)
  positioned asked (row r ts) = row r (positioned_all asked ts)

  pub positioned_all : Bool → Trees → Trees
  positioned_all asked no_trees = no_trees
  positioned_all asked (more_trees t ts) = more_trees (positioned asked t) (positioned_all asked ts)
