-- Whether a text is read as a tree is decided by one reading of it.
use Rattle.std.proofs.Common.{◌≡◌, ℕ, true, false, refl, ap, ◌∙◌}
use Rattle.fancy_lex.specs.Located.{Kind}
use Rattle.fancy_lex.specs.Text.{Text}
use Rattle.fancy_lex.specs.declared.flags.Flags.{Flags}
use Rattle.fancy_grammar.specs.ParseResult.{IsTreeOf, IsErrorOf}
use Rattle.fancy_grammar.specs.Label as label
use Rattle.fancy_grammar.specs.Label.{Leaf, Wrap}
use Rattle.fancy_grammar.specs.GroupInfo.{GroupInfo}
use Rattle.fancy_grammar.specs.Positioned.{leaf_positioned, wrap_positioned, positioned, positioned_all}
use Rattle.fancy_grammar.specs.ReadAs.{unpositioned_leaf, unpositioned_wrap, unpositioned, unpositioned_all, IsReadAs}
use Rattle.fancy_grammar.specs.Tree.{Tree, leaf, over, row, Trees, no_trees, more_trees}
use Rattle.fancy_grammar.proofs.Verdict.{only_tree, only_read, no_error}

-- ---- a text that has a tree

pub read_as : (f : Flags) (text : Text) (u t : Tree) (m : GroupInfo) → IsTreeOf f text u m →
    unpositioned u ≡ unpositioned t →
    IsReadAs f text t m
read_as f text u t m a same = (u, only_read f text u m a, same)

-- if the text is read as this tree, the tree that it has differs from it only in positions, and the group information
-- is the same
pub read_as_only : (f : Flags) (text : Text) (u t : Tree) (k m : GroupInfo) → IsTreeOf f text u k →
    IsReadAs f text t m → (unpositioned u ≡ unpositioned t) × (k ≡ m)
read_as_only f text u t k m a (v, is, same) =
    let (e, d) = only_tree f text v u m k is.is a in (ap unpositioned e ∙ same, d)

-- ---- a text that has an error

pub error_not_read : (f : Flags) (text : Text) (t : Tree) (m : GroupInfo) (k : Kind) (p : ℕ) → IsErrorOf f text k p →
    IsReadAs f text t m → ⊥
error_not_read f text t m k p b (u, is, same) = no_error f text u m k p is.is b

-- ---- a tree with its positions, and without them

leaf_kept : (l : Leaf) → leaf_positioned true l ≡ l
leaf_kept (label.ast_node r position) = refl
leaf_kept _ = refl

wrap_kept : (w : Wrap) → wrap_positioned true w ≡ w
wrap_kept (label.ast_group name position) = refl
wrap_kept _ = refl

leaf_cleared : (l : Leaf) → leaf_positioned false l ≡ unpositioned_leaf l
leaf_cleared (label.ast_node r position) = refl
leaf_cleared _ = refl

wrap_cleared : (w : Wrap) → wrap_positioned false w ≡ unpositioned_wrap w
wrap_cleared (label.ast_group name position) = refl
wrap_cleared _ = refl

mutual
  pub positioned_is : (t : Tree) → positioned true t ≡ t
  positioned_is (leaf l) = ap leaf (leaf_kept l)
  positioned_is (over w t) = λ i. over (wrap_kept w i) (positioned_is t i)
  positioned_is (row r ts) = ap (row r) (positioned_all_is ts)

  positioned_all_is : (ts : Trees) → positioned_all true ts ≡ ts
  positioned_all_is no_trees = refl
  positioned_all_is (more_trees t ts) = λ i. more_trees (positioned_is t i) (positioned_all_is ts i)

mutual
  pub unpositioned_is : (t : Tree) → positioned false t ≡ unpositioned t
  unpositioned_is (leaf l) = ap leaf (leaf_cleared l)
  unpositioned_is (over w t) = λ i. over (wrap_cleared w i) (unpositioned_is t i)
  unpositioned_is (row r ts) = ap (row r) (unpositioned_all_is ts)

  unpositioned_all_is : (ts : Trees) → positioned_all false ts ≡ unpositioned_all ts
  unpositioned_all_is no_trees = refl
  unpositioned_all_is (more_trees t ts) = λ i. more_trees (unpositioned_is t i) (unpositioned_all_is ts i)
