-- What is true of every parsed tree, and how its group information describes it.
use Rattle.std.specs.Prelude.{◌≡◌, ℕ, ◌+◌, ◌*◌, ◌<◌, ◌≤◌, Bool, true, false, List, [], ◌∷◌, length, filter, filter_map}
use Rattle.std.specs.Prelude.{map}
use Rattle.std.specs.Prelude.{Option, Some, None, find, nat_le, nat_lt, if◌then◌else◌}
use Rattle.std.specs.List.{AllByRecursion, list_any}
use Rattle.fancy_lex.specs.Text.{Text, bytes}
use Rattle.fancy_lex.specs.declared.flags.Flags.{Flags}
use Rattle.fancy_grammar.specs.Ranks.{Opening, only_named, is_counted, numbered_openings}
use Rattle.fancy_grammar.specs.Depth.{max_levels}
use Rattle.fancy_grammar.specs.Items.{openings, numbers_in, role_of}
use Rattle.fancy_grammar.specs.Label as label
use Rattle.fancy_grammar.specs.GroupInfo.{GroupInfo, ascending, is_call}
use Rattle.fancy_grammar.specs.Preorder.{preorder}
use Rattle.fancy_grammar.specs.Resolved.{resolved_in}
use Rattle.fancy_grammar.specs.Tree.{Tree, leaf, over, row, group, ast_group, list_of, nodes, levels}

-- a Literal holds one character, a LiteralBytes one byte above ASCII, an Alt two children or more, and an AstNode a
-- call
abbrev pub IsParsedTreeNode : Tree → Type 0
IsParsedTreeNode (leaf (label.literal w casei)) = length w ≡ 1
IsParsedTreeNode (leaf (label.literal_bytes w)) = (length w ≡ 1) × AllByRecursion (λ b. (0x80 ≤ b) × (b ≤ 0xFF)) w
IsParsedTreeNode (row label.alt ts) = 2 ≤ length (list_of ts)
IsParsedTreeNode (leaf (label.ast_node r reach)) = is_call (role_of r) ≡ true
IsParsedTreeNode (over (label.ast_group name reach) t) = ⊥
IsParsedTreeNode _ = Unit {0}

-- this is true of each node
abbrev pub IsParsedTree : Tree → Type 0
IsParsedTree t = AllByRecursion IsParsedTreeNode (preorder t)

-- a tree parsed from n bytes has at most 2 n + 1 nodes, and at most `max_levels` levels
abbrev pub IsSmall : Tree → ℕ → Type 0
IsSmall t n = (nodes t ≤ 2 * n + 1) × (levels t ≤ max_levels)

abbrev pub is_group : Tree → Bool
is_group (over label.group t) = true
is_group _ = false

-- the Groups in preorder; the k-th has the number k
abbrev pub groups : Tree → List Tree
groups t = filter is_group (preorder t)

-- the numbers ascend, from above k up to n
abbrev pub AscendingNumbers : ℕ → ℕ → List ℕ → Type 0
AscendingNumbers k n [] = Unit {0}
AscendingNumbers k n (m ∷ l) = (k < m) × (m ≤ n) × AscendingNumbers m n l

-- each name has at least one number, and its numbers ascend from 1 to at most the total
abbrev pub AreNamed : ℕ → List (Text × List ℕ) → Type 0
AreNamed total l = AllByRecursion (λ e. (0 < length e.1) × AscendingNumbers 0 total e.1) l

-- whether the node is a call, resolved or not
abbrev pub is_call_node : Tree → Bool
is_call_node (leaf (label.subroutine_call n)) = true
is_call_node (leaf (label.ast_node r reach)) = is_call (role_of r)
is_call_node _ = false

-- whether some node is a call
abbrev pub has_call : Tree → Bool
has_call t = list_any is_call_node (preorder t)

-- the group that a back reference refers to
abbrev pub group_referred : Tree → Option ℕ
group_referred (leaf (label.backref n casei)) = Some n
group_referred (leaf (label.backref_at_level n level casei)) = Some n
group_referred _ = None

-- the groups that the back references refer to, in text order
abbrev pub groups_referred : Tree → List ℕ
groups_referred t = filter_map group_referred (preorder t)

-- how the group information of a parsed tree describes it
pub record IsParsedTreeWith (t : Tree) (m : GroupInfo) : Type 0 where
  pub nodes : IsParsedTree t
  pub groups : length (groups t) ≡ m.total_groups
  pub names : AreNamed m.total_groups m.named_groups
  pub calls : has_call t ≡ m.contains_subroutines
  pub backrefs : m.backrefs ≡ ascending (filter (λ n. nat_le n m.total_groups) (groups_referred t))
  pub out_of_range : m.out_of_range_backref ≡ find (λ n. nat_lt m.total_groups n) (groups_referred t)

-- ---- the groups of the raw tree, before they have numbers

-- the capturing groups among the nodes that have a number: their numbers, from c + 1 on, their openings and contents
abbrev pub numbered_in : Bool → ℕ → List Tree → List (ℕ × Opening × Tree)
numbered_in named c [] = []
numbered_in named c (ast_group name reach t ∷ l) =
    if is_counted named name
    then (c + 1, record { reach = reach; name = name }, t) ∷ numbered_in named (c + 1) l
    else numbered_in named c l
numbered_in named c (_ ∷ l) = numbered_in named c l

-- the groups of the raw tree that have a number, in preorder
abbrev pub numbered_groups : Flags → Tree → List (ℕ × Opening × Tree)
numbered_groups f r = numbered_in (only_named f (openings r)) 0 (preorder r)

-- the openings of these groups are the ones that have a number, in text order; the k-th Group of the parsed tree t
-- holds the contents of the k-th of them, resolved with k groups opened before them
pub record HasGroupsOf (f : Flags) (text : Text) (r t : Tree) : Type 0 where
  pub in_order : map (λ g. g.1) (numbered_groups f r) ≡ numbered_openings f (openings r)
  pub insides : groups t ≡
      map (λ g. group (resolved_in (bytes text) (only_named f (openings r)) (numbers_in f r) g.0 g.2))
      (numbered_groups f r)
