-- A text is read as a tree, up to the positions of calls that refer to no group, which depend on the text.
use Rattle.std.specs.Prelude.{◌≡◌}
use Rattle.fancy_lex.specs.Text.{Text}
use Rattle.fancy_lex.specs.declared.flags.Flags.{Flags}
use Rattle.fancy_grammar.specs.Label.{Leaf, Wrap, ast_node, ast_group}
use Rattle.fancy_grammar.specs.GroupInfo.{GroupInfo}
use Rattle.fancy_grammar.specs.ReadBack.{IsOnlyResult, read}
use Rattle.fancy_grammar.specs.Tree.{Tree, leaf, over, row, Trees, no_trees, more_trees}

-- the node with its position, if it has one, set to 0
abbrev pub unpositioned_leaf : Leaf → Leaf
unpositioned_leaf (ast_node r position) = ast_node r 0
unpositioned_leaf l = l

abbrev pub unpositioned_wrap : Wrap → Wrap
unpositioned_wrap (ast_group name position) = ast_group name 0
unpositioned_wrap w = w

abbrev mutual
  -- the tree with each position set to 0
  pub unpositioned : Tree → Tree
  unpositioned (leaf l) = leaf (unpositioned_leaf l)
  unpositioned (over w t) = over (unpositioned_wrap w) (unpositioned t)
  unpositioned (row r ts) = row r (unpositioned_all ts)

  pub unpositioned_all : Trees → Trees
  unpositioned_all no_trees = no_trees
  unpositioned_all (more_trees t ts) = more_trees (unpositioned t) (unpositioned_all ts)

-- the text is read as a tree that differs from this one only in positions, with this group information, and has no
-- other result
abbrev pub IsReadAs : Flags → Text → Tree → GroupInfo → Type 0
IsReadAs f text t m = (u : Tree) × IsOnlyResult f text (read u m) × (unpositioned u ≡ unpositioned t)
