-- The kinds of groups that hold one alternation, and the node of each.
use Rattle.std.specs.Prelude.{ℕ, Option}
use Rattle.fancy_lex.specs.Text.{Text}
use Rattle.fancy_grammar.specs.Tree.{Tree, look_around, atomic_group, define_group, repeater as repeater_of}
use Rattle.fancy_grammar.specs.Tree.{ast_group}
use Rattle.fancy_grammar.specs.declared.kinds.LookAround.{LookAround}

pub data GroupKind : Type 0 where
  capture : Option Text → GroupKind  -- a capturing group, with its name if it has one
  flag_group : GroupKind  -- a group that sets flags
  look : LookAround → GroupKind
  atomic : GroupKind
  define : GroupKind
  repeater : GroupKind  -- an absent repeater

-- the node around the contents of a group that opens at the reach p
abbrev pub group_node : GroupKind → ℕ → Tree → Tree
group_node (capture name) p t = ast_group name p t
group_node flag_group p t = t
group_node (look l) p t = look_around t l
group_node atomic p t = atomic_group t
group_node define p t = define_group t
group_node repeater p t = repeater_of t
