-- Positions in nodes change nothing of what a tree matches.
use Rattle.std.proofs.Common.{◌≡◌, Bool, subst}
use Rattle.fancy_grammar.specs.Label as label
use Rattle.fancy_grammar.specs.Label.{Leaf, Wrap}
use Rattle.fancy_grammar.specs.ReadAs.{unpositioned, unpositioned_all, unpositioned_leaf, unpositioned_wrap}
use Rattle.fancy_grammar.specs.Tree.{Tree, Trees, leaf, over, row, no_trees, more_trees}
use Rattle.pattern_matches.specs.Defined.{IsDefined, AreDefined, IsLeafDefined, IsWrapDefined}
use Rattle.pattern_matches.specs.SameMatches.{SameMatches}
use Rattle.pattern_matches.proofs.ReplaceLemmas.{AllSame, no_more, next, same, both, other_way, replaced_over, replaced_row}

leaf_case : (u : Bool) (l : Leaf) → SameMatches u (leaf l) (leaf (unpositioned_leaf l))
leaf_case u (label.ast_node r position) = record { there = λ s p q k. absurd k; back = λ s p q k. absurd k }
leaf_case u _ = same u _

over_case : (u : Bool) (w : Wrap) (t : Tree) → SameMatches u (over w t) (over (unpositioned_wrap w) t)
over_case u (label.ast_group name position) t = record { there = λ s p q k. absurd k; back = λ s p q k. absurd k }
over_case u _ t = same u _

mutual
  unpositioned_same : (u : Bool) (t : Tree) → SameMatches u t (unpositioned t)
  unpositioned_same u (leaf l) = leaf_case u l
  unpositioned_same u (over w t) =
      both u _ _ _ (over_case u w t) (replaced_over u (unpositioned_wrap w) t (unpositioned t) (unpositioned_same u t))
  unpositioned_same u (row r ts) = replaced_row u r ts (unpositioned_all ts) (unpositioned_all_same u ts)

  unpositioned_all_same : (u : Bool) (ts : Trees) → AllSame u ts (unpositioned_all ts)
  unpositioned_all_same u no_trees = no_more
  unpositioned_all_same u (more_trees t ts) = next (unpositioned_same u t) (unpositioned_all_same u ts)

-- trees that are the same but for positions
pub same_but_for_positions : (u : Bool) (t v : Tree) → unpositioned t ≡ unpositioned v → SameMatches u t v
same_but_for_positions u t v e =
    both u _ _ _ (subst (SameMatches u t) e (unpositioned_same u t)) (other_way u _ _ (unpositioned_same u v))

-- ---- and nothing of whether it is defined

leaf_defined : (u : Bool) (l : Leaf) → IsLeafDefined u l → IsLeafDefined u (unpositioned_leaf l)
leaf_defined u (label.ast_node r position) k = k
leaf_defined u _ k = k

leaf_was : (u : Bool) (l : Leaf) → IsLeafDefined u (unpositioned_leaf l) → IsLeafDefined u l
leaf_was u (label.ast_node r position) k = k
leaf_was u _ k = k

wrap_defined : (w : Wrap) → IsWrapDefined w → IsWrapDefined (unpositioned_wrap w)
wrap_defined (label.ast_group name position) k = k
wrap_defined _ k = k

wrap_was : (w : Wrap) → IsWrapDefined (unpositioned_wrap w) → IsWrapDefined w
wrap_was (label.ast_group name position) k = k
wrap_was _ k = k

mutual
  unpositioned_defined : (u : Bool) (t : Tree) → IsDefined u t → IsDefined u (unpositioned t)
  unpositioned_defined u (leaf l) k = leaf_defined u l k
  unpositioned_defined u (over w t) k = (wrap_defined w k.0, unpositioned_defined u t k.1)
  unpositioned_defined u (row r ts) k = (k.0, all_defined u ts k.1)

  all_defined : (u : Bool) (ts : Trees) → AreDefined u ts → AreDefined u (unpositioned_all ts)
  all_defined u no_trees k = k
  all_defined u (more_trees t ts) k = (unpositioned_defined u t k.0, all_defined u ts k.1)

mutual
  was_defined : (u : Bool) (t : Tree) → IsDefined u (unpositioned t) → IsDefined u t
  was_defined u (leaf l) k = leaf_was u l k
  was_defined u (over w t) k = (wrap_was w k.0, was_defined u t k.1)
  was_defined u (row r ts) k = (k.0, all_were u ts k.1)

  all_were : (u : Bool) (ts : Trees) → AreDefined u (unpositioned_all ts) → AreDefined u ts
  all_were u no_trees k = k
  all_were u (more_trees t ts) k = (was_defined u t k.0, all_were u ts k.1)

pub defined_but_for_positions : (u : Bool) (t v : Tree) → unpositioned t ≡ unpositioned v → IsDefined u t → IsDefined u v
defined_but_for_positions u t v e k = was_defined u v (subst (IsDefined u) e (unpositioned_defined u t k))
