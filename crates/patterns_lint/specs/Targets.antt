-- References to groups that are not there.
use Rattle.std.specs.Prelude.{ℕ, Bool, true, false, nat_lt, if◌then◌else◌, Option, Some, None}
use Rattle.fancy_grammar.specs.Tree.{Tree, backref, backref_at_level, backref_exists, subroutine_call}
use Rattle.fancy_grammar.specs.Tree.{ast_node, ast_group}

-- a number that is above the number of groups
abbrev pub above : ℕ → ℕ → Option ℕ
above total n = if nat_lt total n then Some n else None

-- the group of a back reference, where there are fewer groups
abbrev pub missing_group : ℕ → Tree → Option ℕ
missing_group total (backref n casei) = above total n
missing_group total (backref_at_level n level casei) = above total n
missing_group _ _ = None

-- the group of a condition, where there are fewer groups
abbrev pub missing_condition_group : ℕ → Tree → Option ℕ
missing_condition_group total (backref_exists n level) = above total n
missing_condition_group _ _ = None

-- a call of a group where there are fewer, or one that was not resolved: no other node of a parsed tree is as it was
-- read
abbrev pub is_unresolved_call : ℕ → Tree → Bool
is_unresolved_call total (subroutine_call n) = nat_lt total n
is_unresolved_call total (ast_node r position) = true
is_unresolved_call total (ast_group name position t) = true
is_unresolved_call _ _ = false
