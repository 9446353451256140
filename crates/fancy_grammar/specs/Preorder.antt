-- The nodes of a tree in preorder: each before the nodes it contains, in text order.
use Rattle.std.specs.Prelude.{List, [], ◌∷◌, ◌++◌}
use Rattle.fancy_grammar.specs.Tree.{Tree, leaf, over, row, Trees, no_trees, more_trees}

abbrev mutual
  pub preorder : Tree → List Tree
  preorder (leaf l) = leaf l ∷ []
  preorder (over w t) = over w t ∷ preorder t
  preorder (row r ts) = row r ts ∷ preorder_all ts

  pub preorder_all : Trees → List Tree
  preorder_all no_trees = []
  preorder_all (more_trees t ts) = preorder t ++ preorder_all ts
