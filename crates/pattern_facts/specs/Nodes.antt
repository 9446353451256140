-- The nodes of a tree in preorder: each before those below it, in text order. The contents of an unresolved group are
-- not below it.
use Rattle.std.specs.Prelude.{List, [], ◌∷◌, ◌++◌}
use Rattle.fancy_grammar.specs.Label as label
use Rattle.fancy_grammar.specs.Tree.{Tree, Trees, leaf, over, row, no_trees, more_trees}

abbrev mutual
  -- the nodes below a tree's root
  pub nodes_below : Tree → List Tree
  nodes_below (leaf l) = []
  nodes_below (over (label.ast_group name position) t) = []
  nodes_below (over w t) = t ∷ nodes_below t
  nodes_below (row r ts) = nodes_of_all ts

  pub nodes_of_all : Trees → List Tree
  nodes_of_all no_trees = []
  nodes_of_all (more_trees t ts) = (t ∷ nodes_below t) ++ nodes_of_all ts

abbrev pub nodes_of : Tree → List Tree
nodes_of t = t ∷ nodes_below t
