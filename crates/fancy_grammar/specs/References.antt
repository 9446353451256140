-- Whether the references of a tree refer to groups that it has.
use Rattle.std.specs.Prelude.{ℕ, Bool, true, false, nat_le}
use Rattle.std.specs.List.{list_all}
use Rattle.fancy_grammar.specs.Preorder.{preorder}
use Rattle.fancy_grammar.specs.Tree.{Tree, backref, backref_at_level, backref_exists, subroutine_call, ast_node, ast_group}

-- whether the node is no reference, or refers to one of this many groups or to the whole pattern; an `AstNode` does not,
-- since it is not resolved yet
abbrev pub is_resolved : ℕ → Tree → Bool
is_resolved groups (backref n casei) = nat_le n groups
is_resolved groups (backref_at_level n level casei) = nat_le n groups
is_resolved groups (backref_exists n level) = nat_le n groups
is_resolved groups (subroutine_call n) = nat_le n groups
is_resolved groups (ast_node r position) = false
is_resolved groups (ast_group name position t) = false
is_resolved groups _ = true

-- whether this is so for each node of the tree
abbrev pub are_resolved : ℕ → Tree → Bool
are_resolved groups t = list_all (is_resolved groups) (preorder t)
