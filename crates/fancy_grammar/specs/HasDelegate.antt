-- Whether a tree holds a Delegate.
use Rattle.std.specs.Prelude.{Bool, true, false, ◌||◌}
use Rattle.fancy_grammar.specs.Tree.{Tree, Trees, no_trees, more_trees, concat, alt, group, repeat, delegate}

abbrev mutual
  -- only nodes that have a text are searched; the contents of a DefineGroup are not
  pub has_delegate : Tree → Bool
  has_delegate (delegate s casei) = true
  has_delegate (concat ts) = any_has_delegate ts
  has_delegate (alt ts) = any_has_delegate ts
  has_delegate (group t) = has_delegate t
  has_delegate (repeat t lo hi greedy) = has_delegate t
  has_delegate _ = false

  pub any_has_delegate : Trees → Bool
  any_has_delegate no_trees = false
  any_has_delegate (more_trees t ts) = has_delegate t || any_has_delegate ts
