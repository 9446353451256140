-- What does not depend on the positions of calls that refer to no group.
use Rattle.std.proofs.Common.{◌≡◌, Bool, List, [], ◌∷◌, ◌++◌, refl, sym, ap, ap₂, ◌∙◌, map, ◌||◌}
use Rattle.std.proofs.Common.{filter_map}
use Rattle.std.specs.List.{list_any, cons_option}
use Rattle.fancy_lex.specs.declared.flags.Flags.{Flags}
use Rattle.fancy_grammar.specs.ParsedTree.{is_call_node, has_call, group_referred, groups_referred}
use Rattle.fancy_grammar.specs.Join.{is_empty}
use Rattle.fancy_grammar.specs.Label as label
use Rattle.fancy_grammar.specs.Label.{Leaf}
use Rattle.fancy_grammar.specs.GroupInfo.{GroupInfo}
use Rattle.fancy_grammar.specs.Pattern.{is_alt}
use Rattle.fancy_grammar.specs.Preorder.{preorder, preorder_all}
use Rattle.fancy_grammar.specs.Quantified.{is_repeatable}
use Rattle.fancy_grammar.specs.ReadAs.{unpositioned, unpositioned_all}
use Rattle.fancy_grammar.specs.Tree.{Tree, leaf, over, row, Trees, no_trees, more_trees}
use Rattle.fancy_grammar.proofs.Writable.{is_numbered, is_numbered_call_of_all}

-- ---- a single tree

pub empty_unpositioned : (t : Tree) → is_empty (unpositioned t) ≡ is_empty t
empty_unpositioned (leaf (label.ast_node r p)) = refl
empty_unpositioned (over (label.ast_group n p) t) = refl
empty_unpositioned _ = refl

pub repeatable_unpositioned : (f : Flags) (t : Tree) → is_repeatable f (unpositioned t) ≡ is_repeatable f t
repeatable_unpositioned f (leaf (label.ast_node r p)) = refl
repeatable_unpositioned f (over (label.ast_group n p) t) = refl
repeatable_unpositioned f _ = refl

pub alt_unpositioned : (t : Tree) → is_alt (unpositioned t) ≡ is_alt t
alt_unpositioned (leaf (label.ast_node r p)) = refl
alt_unpositioned (over (label.ast_group n p) t) = refl
alt_unpositioned (row label.alt ts) = refl
alt_unpositioned (row label.concat ts) = refl
alt_unpositioned (row label.expression ts) = refl
alt_unpositioned (row label.conditional ts) = refl
alt_unpositioned _ = refl

-- ---- its nodes

both_unpositioned : (l m : List Tree) → map unpositioned (l ++ m) ≡ map unpositioned l ++ map unpositioned m
both_unpositioned [] m = refl
both_unpositioned (t ∷ l) m = ap (λ k. unpositioned t ∷ k) (both_unpositioned l m)

mutual
  preorder_unpositioned : (t : Tree) → preorder (unpositioned t) ≡ map unpositioned (preorder t)
  preorder_unpositioned (leaf l) = refl
  preorder_unpositioned (over w t) = ap (λ k. unpositioned (over w t) ∷ k) (preorder_unpositioned t)
  preorder_unpositioned (row r ts) = ap (λ k. unpositioned (row r ts) ∷ k) (all_unpositioned ts)

  all_unpositioned : (ts : Trees) → preorder_all (unpositioned_all ts) ≡ map unpositioned (preorder_all ts)
  all_unpositioned no_trees = refl
  all_unpositioned (more_trees t ts) =
      ap₂ (λ a b. a ++ b) (preorder_unpositioned t) (all_unpositioned ts) ∙ sym
      (both_unpositioned (preorder t) (preorder_all ts))

-- whether some node is such
module _ (such : Tree → Bool) (free : (t : Tree) → such (unpositioned t) ≡ such t) where
  any_mapped : (l : List Tree) → list_any such (map unpositioned l) ≡ list_any such l
  any_mapped [] = refl
  any_mapped (t ∷ l) = ap₂ (λ a b. a || b) (free t) (any_mapped l)

  any_free : (t : Tree) → list_any such (preorder (unpositioned t)) ≡ list_any such (preorder t)
  any_free t = ap (list_any such) (preorder_unpositioned t) ∙ any_mapped (preorder t)

  pub same_any : (t u : Tree) → unpositioned t ≡ unpositioned u → list_any such (preorder t) ≡ list_any such (preorder u)
  same_any t u e = sym (any_free t) ∙ (ap (λ v. list_any such (preorder v)) e ∙ any_free u)

numbered_free : (μ : GroupInfo) (t : Tree) → is_numbered μ (unpositioned t) ≡ is_numbered μ t
numbered_free μ (leaf (label.ast_node r p)) = refl
numbered_free μ (over (label.ast_group n p) t) = refl
numbered_free μ _ = refl

of_all_free : (μ : GroupInfo) (t : Tree) → is_numbered_call_of_all μ (unpositioned t) ≡ is_numbered_call_of_all μ t
of_all_free μ (leaf (label.ast_node r p)) = refl
of_all_free μ (over (label.ast_group n p) t) = refl
of_all_free μ _ = refl

call_free : (t : Tree) → is_call_node (unpositioned t) ≡ is_call_node t
call_free (leaf (label.ast_node r p)) = refl
call_free (over (label.ast_group n p) t) = refl
call_free _ = refl

referred_free : (t : Tree) → group_referred (unpositioned t) ≡ group_referred t
referred_free (leaf (label.ast_node r p)) = refl
referred_free (over (label.ast_group n p) t) = refl
referred_free _ = refl

referred_mapped : (l : List Tree) → filter_map group_referred (map unpositioned l) ≡ filter_map group_referred l
referred_mapped [] = refl
referred_mapped (t ∷ l) = ap₂ cons_option (referred_free t) (referred_mapped l)

pub referred_unpositioned : (t : Tree) → groups_referred (unpositioned t) ≡ groups_referred t
referred_unpositioned t = ap (filter_map group_referred) (preorder_unpositioned t) ∙ referred_mapped (preorder t)

module _ (t u : Tree) (e : unpositioned t ≡ unpositioned u) where
  pub same_referred : groups_referred t ≡ groups_referred u
  same_referred = sym (referred_unpositioned t) ∙ (ap groups_referred e ∙ referred_unpositioned u)

  pub same_call : has_call t ≡ has_call u
  same_call = same_any is_call_node call_free t u e

  pub same_numbered : (μ : GroupInfo) → list_any (is_numbered μ) (preorder t) ≡ list_any (is_numbered μ) (preorder u)
  same_numbered μ = same_any (is_numbered μ) (numbered_free μ) t u e

  pub same_of_all : (μ : GroupInfo) →
      list_any (is_numbered_call_of_all μ) (preorder t) ≡ list_any (is_numbered_call_of_all μ) (preorder u)
  same_of_all μ = same_any (is_numbered_call_of_all μ) (of_all_free μ) t u e
