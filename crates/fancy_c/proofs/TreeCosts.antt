-- The bytes that the texts of a raw tree have, and the names of its groups, each with six more.
use Rattle.std.proofs.Common.{◌≡◌, ℕ, ◌+◌, ◌≤◌, List, [], ◌∷◌, ◌&&◌, Option, Some, None, length, arith}
use Rattle.std.proofs.lemmas.Bool.{cond_both}
use Rattle.fancy_lex.specs.Target.{Target, by_name}
use Rattle.fancy_lex.specs.Text.{Text, bytes}
use Rattle.fancy_lex.specs.declared.flags.Flags.{Flags}
use Rattle.fancy_lex.specs.declared.counts.Counts.{Counts}
use Rattle.fancy_grammar.specs.Grammar.{branches_of, conditional_of, clear_or_stopper}
use Rattle.fancy_grammar.specs.GroupKind.{GroupKind, capture, flag_group, look, atomic, define, repeater, group_node}
use Rattle.fancy_grammar.specs.Join.{join, choice, solid, is_empty, one_or}
use Rattle.fancy_grammar.specs.Label as label
use Rattle.fancy_grammar.specs.Label.{Leaf, Wrap, ast_call}
use Rattle.fancy_grammar.specs.Quantified.{is_swapped, quantified, Suffix}
use Rattle.fancy_grammar.specs.Tree.{leaf, Tree, Trees, no_trees, more_trees, concat, alt, trees_of, list_of}
use Rattle.fancy_grammar.specs.Tree.{over, row}

abbrev pub target_cost : Target → ℕ
target_cost (by_name w) = bytes w
target_cost _ = 0

abbrev pub leaf_cost : Leaf → ℕ
leaf_cost (label.literal w casei) = bytes w
leaf_cost (label.literal_bytes w) = length w
leaf_cost (label.delegate w casei) = bytes w
leaf_cost (label.ast_node (ast_call g) reach) = target_cost g
leaf_cost _ = 0

abbrev pub name_cost : Option Text → ℕ
name_cost None = 0
name_cost (Some w) = bytes w + 6

abbrev pub wrap_cost : Wrap → ℕ
wrap_cost (label.ast_group name reach) = name_cost name
wrap_cost _ = 0

abbrev mutual
  pub cost : Tree → ℕ
  cost (leaf l) = leaf_cost l
  cost (over w t) = wrap_cost w + cost t
  cost (row r ts) = cost_all ts

  pub cost_all : Trees → ℕ
  cost_all no_trees = 0
  cost_all (more_trees t ts) = cost t + cost_all ts

abbrev pub costs : List Tree → ℕ
costs [] = 0
costs (t ∷ ts) = cost t + costs ts

list_cost : (ts : List Tree) → cost_all (trees_of ts) ≡ costs ts
list_cost [] = omega arith
list_cost (t ∷ ts) = omega (arith, list_cost ts)

back_cost : (ts : Trees) → costs (list_of ts) ≡ cost_all ts
back_cost no_trees = omega arith
back_cost (more_trees t ts) = omega (arith, back_cost ts)

solid_cost : (ts : List Tree) → costs (solid ts) ≤ costs ts
solid_cost [] = omega arith
solid_cost (t ∷ ts) =
    let more = solid_cost ts in
    cond_both (is_empty t) _ _ (λ us. costs us ≤ costs (t ∷ ts)) (λ _. omega (arith, more)) (λ _. omega (arith, more))

one_cost : (ts : List Tree) → cost (one_or concat ts) ≤ costs ts
one_cost [] = omega arith
one_cost (t ∷ []) = omega arith
one_cost (t ∷ u ∷ ts) = omega (arith, list_cost (t ∷ u ∷ ts))

pub join_cost : (ts : List Tree) → cost (join ts) ≤ costs ts
join_cost ts = omega (arith, one_cost (solid ts), solid_cost ts)

pub choice_cost : (ts : List Tree) → cost (choice ts) ≤ costs ts
choice_cost [] = omega arith
choice_cost (t ∷ []) = omega arith
choice_cost (t ∷ u ∷ ts) = omega (arith, list_cost (t ∷ u ∷ ts))

pub quantified_cost : (f : Flags) (c : Counts) (m : Suffix) (a : Tree) → cost (quantified f c m a) ≤ cost a
quantified_cost f c m a =
    cond_both (is_swapped f c) _ _ (λ b. cost b ≤ cost a) (λ _. omega arith) (λ _.
    cond_both m.possessive _ _ (λ b. cost b ≤ cost a) (λ _. omega arith) (λ _. omega arith))

pub branches_cost : (r : Tree) → cost (branches_of r).0 + cost (branches_of r).1 ≤ cost r
branches_cost (alt (more_trees t ts)) = omega (arith, choice_cost (list_of ts), back_cost ts)
branches_cost r = omega arith

pub conditional_cost : (c t f : Tree) → cost (conditional_of c t f) ≤ cost c + (cost t + cost f)
conditional_cost c t f =
    cond_both (is_empty t && is_empty f) _ _ (λ x. cost x ≤ cost c + (cost t + cost f)) (λ _. omega arith)
    (λ _. omega arith)

pub clear_or_stopper_cost : (a : Tree) → cost (clear_or_stopper a) ≤ cost a
clear_or_stopper_cost a = cond_both (is_empty a) _ _ (λ x. cost x ≤ cost a) (λ _. omega arith) (λ _. omega arith)

abbrev pub kind_cost : GroupKind → ℕ
kind_cost (capture name) = name_cost name
kind_cost _ = 0

pub node_cost : (h : GroupKind) (p : ℕ) (r : Tree) → cost (group_node h p r) ≤ kind_cost h + cost r
node_cost (capture name) p r = omega arith
node_cost flag_group p r = omega arith
node_cost (look l) p r = omega arith
node_cost atomic p r = omega arith
node_cost define p r = omega arith
node_cost repeater p r = omega arith
