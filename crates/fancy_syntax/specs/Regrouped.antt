-- A tree of the code, as the resolver reads it: each Group in it is a capturing group that has a number.
use Rattle.std.specs.Prelude.{Bool, true, false, ◌&&◌, [], Some}
use Rattle.fancy_grammar.specs.Label as label
use Rattle.fancy_grammar.specs.Tree.{Tree, leaf, over, row, Trees, no_trees, more_trees, ast_group}
use Rattle.fancy_syntax.specs.View.{view}
use Rattle.fancy_syntax.specs.declared.expr.Expr.{Expr}

-- a group with a name has a number, whatever the others are; which name it is makes no difference
abbrev mutual
  pub regrouped : Tree → Tree
  regrouped (over label.group t) = ast_group (Some []) 0 (regrouped t)
  regrouped (leaf l) = leaf l
  regrouped (over w t) = over w (regrouped t)
  regrouped (row r ts) = row r (regrouped_all ts)

  pub regrouped_all : Trees → Trees
  regrouped_all no_trees = no_trees
  regrouped_all (more_trees t ts) = more_trees (regrouped t) (regrouped_all ts)

abbrev pub raw : Expr → Tree
raw e = regrouped (view e)

abbrev mutual
  -- there is no reference, and no group of which it is undecided whether it has a number
  pub is_settled : Tree → Bool
  is_settled (leaf (label.ast_node r reach)) = false
  is_settled (leaf l) = true
  is_settled (over (label.ast_group name reach) t) = false
  is_settled (over w t) = is_settled t
  is_settled (row r ts) = all_settled ts

  pub all_settled : Trees → Bool
  all_settled no_trees = true
  all_settled (more_trees t ts) = is_settled t && all_settled ts
