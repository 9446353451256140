-- A node with the spans of all its nodes, and those of its children.
use Rattle.std.specs.Prelude.{◌≡◌, ℕ, suc, List, [], ◌∷◌, ◌++◌, length, take, drop}
use Rattle.std.specs.List.{IsAmong}
use Rattle.fancy_grammar.specs.Label as label
use Rattle.fancy_grammar.specs.Tree.{Tree, leaf, over, row, Trees, no_trees, more_trees}
use Rattle.fancy_syntax.specs.Children.{children_of, remaining_children}
use Rattle.fancy_syntax.specs.View.{view}
use Rattle.fancy_syntax.specs.declared.expr.Expr.{Expr}
use Rattle.fancy_syntax.specs.declared.span.Span.{Span}
use Rattle.fancy_syntax.specs.declared.spanned.SpannedChildren.{SpannedChildren}
use Rattle.fancy_syntax.specs.declared.spanned.SpannedNode.{SpannedNode}
use Rattle.fancy_syntax.specs.declared.spanned.SpannedTree.{SpannedTree}

-- How many nodes each node of a tree has, including itself, in preorder. The contents of an unresolved group do not
-- count, since they are not its children.
abbrev mutual
  pub sizes : Tree → List ℕ
  sizes (leaf l) = 1 ∷ []
  sizes (over (label.ast_group name position) t) = 1 ∷ []
  sizes (over w t) = suc (length (sizes t)) ∷ sizes t
  sizes (row r ts) = suc (length (sizes_all ts)) ∷ sizes_all ts

  pub sizes_all : Trees → List ℕ
  sizes_all no_trees = []
  sizes_all (more_trees t ts) = sizes t ++ sizes_all ts

-- a node, with the spans of it and of its descendants in preorder, and the number of nodes of each of these
pub record Spanned : Type 0 where
  pub expr : Expr
  pub spans : List Span
  pub sizes : List ℕ

-- there are as many spans as nodes
pub record IsWhole (p : Spanned) : Type 0 where
  pub sized : p.sizes ≡ sizes (view p.expr)
  pub spanned : length p.spans ≡ length p.sizes

abbrev pub spanned_of : SpannedNode → Spanned
spanned_of n = record { expr = n.expr.now; spans = n.spans.now; sizes = n.sizes.now }

abbrev pub spanned_of_tree : SpannedTree → Spanned
spanned_of_tree t = record { expr = t.tree.expr; spans = t.spans.items; sizes = t.sizes.items }

-- the first span; an empty one if there is none
abbrev pub first_span : List Span → Span
first_span [] = record { start = 0; end = 0 }
first_span (s ∷ ss) = s

-- the first number; 0 if there is none
abbrev pub first_size : List ℕ → ℕ
first_size [] = 0
first_size (n ∷ ns) = n

-- nodes side by side: the first has as many of the spans as the first number says, the next as many of the others
abbrev pub side_by_side : List Expr → List Span → List ℕ → List Spanned
side_by_side [] s n = []
side_by_side (e ∷ es) s n =
    (record { expr = e; spans = take (first_size n) s; sizes = take (first_size n) n })
    ∷ side_by_side es (drop (first_size n) s) (drop (first_size n) n)

-- the children of a node, with the spans of each
abbrev pub spanned_children : Spanned → List Spanned
spanned_children p = side_by_side (children_of p.expr) (drop 1 p.spans) (drop 1 p.sizes)

-- p is a node of the tree whose root is q
pub data IsNodeOf (p : Spanned) : Spanned → Type 0 where
  root : IsNodeOf p p
  below : {q c : Spanned} → IsAmong (spanned_children q) c → IsNodeOf p c → IsNodeOf p q

-- the children that an iterator has still to return
abbrev pub remaining_spanned : SpannedChildren → List Spanned
remaining_spanned i = side_by_side (remaining_children i.exprs) i.spans.now i.sizes.now
