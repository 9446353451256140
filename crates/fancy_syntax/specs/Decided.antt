-- A raw tree with the nodes that the code makes of its capturing groups while it reads: a Group if it is decided that the
-- group has a number.
use Rattle.std.specs.Prelude.{◌≡◌, ℕ, Bool, true, false, None, List, if◌then◌else◌, map}
use Rattle.fancy_grammar.specs.Ranks.{is_counted}
use Rattle.fancy_grammar.specs.GroupKind.{group_node}
use Rattle.fancy_grammar.specs.Label as label
use Rattle.fancy_grammar.specs.Label.{Wrap}
use Rattle.fancy_grammar.specs.Tree.{Tree, leaf, over, row, Trees, no_trees, more_trees, group, ast_group}
use Rattle.fancy_syntax.specs.Parsed.{group_kind}
use Rattle.fancy_syntax.specs.declared.grammar.group.kind.GroupKind.{GroupKind}
use Rattle.fancy_syntax.specs.declared.grammar.group.kind.GroupKind.TheVariants as code

-- under the flag that ignores groups without a name, they are undecided: each has a number only if no group has a name
abbrev pub decided_wrap : Bool → Wrap → Wrap
decided_wrap ignore (label.ast_group name reach) =
    if is_counted ignore name then label.group else label.ast_group name reach
decided_wrap ignore w = w

abbrev mutual
  -- the tree in which each capturing group that has a number whatever follows is a Group
  pub decided : Bool → Tree → Tree
  decided ignore (leaf l) = leaf l
  decided ignore (over w t) = over (decided_wrap ignore w) (decided ignore t)
  decided ignore (row r ts) = row r (decided_all ignore ts)

  pub decided_all : Bool → Trees → Trees
  decided_all ignore no_trees = no_trees
  decided_all ignore (more_trees t ts) = more_trees (decided ignore t) (decided_all ignore ts)

abbrev pub all_decided : Bool → List Tree → List Tree
all_decided ignore l = map (decided ignore) l

-- the node around the contents of a group that opens at the reach
abbrev pub made : GroupKind → ℕ → Tree → Tree
made (code.Capture name) reach t = group t
made code.Undecided reach t = ast_group None reach t
made kind reach t = group_node (group_kind kind) reach t

-- a capturing group without a name is undecided exactly if the flag is set
abbrev pub IsDecidedKind : Bool → GroupKind → Type 0
IsDecidedKind ignore (code.Capture None) = ignore ≡ false
IsDecidedKind ignore code.Undecided = ignore ≡ true
IsDecidedKind ignore kind = Unit {0}
