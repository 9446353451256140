-- Resolving keeps the nodes of a raw tree in their order, and its items are those of its nodes.
use Rattle.std.proofs.Common.{◌≡◌, ℕ, ◌+◌, Bool, true, false, if◌then◌else◌, List, [], ◌∷◌, ◌++◌, Some}
use Rattle.std.proofs.Common.{None, refl, sym, ap, ◌∙◌, arith, append_assoc, append-nil}
use Rattle.fancy_lex.specs.Text.{Text}
use Rattle.fancy_grammar.specs.Meaning.{Meaning, number, refers_to, Role}
use Rattle.fancy_grammar.specs.Ranks.{is_counted}
use Rattle.fancy_grammar.specs.ParsedTree.{is_group, is_call_node, group_referred}
use Rattle.fancy_grammar.specs.Items.{Item, items, items_all, opened_by, referred_by, role_of}
use Rattle.fancy_grammar.specs.Items.{target_of}
use Rattle.fancy_grammar.specs.Label.{AstReference, ast_backref, ast_call, ast_condition}
use Rattle.fancy_grammar.specs.GroupInfo.{is_call, back_number}
use Rattle.fancy_grammar.specs.Preorder.{preorder, preorder_all}
use Rattle.fancy_grammar.specs.Resolved.{resolved_in, resolved_all, reference_node}
use Rattle.fancy_grammar.specs.Tree.{Tree, leaf, over, row, Trees, no_trees, more_trees, group, ast_node, ast_group}
use Rattle.fancy_grammar.proofs.ItemLemmas.{counted, counted_first}

-- ---- the items of nodes

-- what a node of a tree opens or refers to
abbrev pub items_at : Tree → List Item
items_at (leaf l) = referred_by l
items_at (over w t) = opened_by w
items_at (row r ts) = []

-- the items of each, one after another
abbrev pub items_of_all : List Tree → List Item
items_of_all [] = []
items_of_all (t ∷ l) = items_at t ++ items_of_all l

both_items : (a b : List Tree) → items_of_all (a ++ b) ≡ items_of_all a ++ items_of_all b
both_items [] b = refl
both_items (t ∷ a) b = ap (λ l. items_at t ++ l) (both_items a b) ∙ sym (append_assoc (items_at t) _ _)

mutual
  pub items_of_nodes : (t : Tree) → items t ≡ items_of_all (preorder t)
  items_of_nodes (leaf l) = sym (append-nil (referred_by l))
  items_of_nodes (over w t) = ap (λ m. opened_by w ++ m) (items_of_nodes t)
  items_of_nodes (row r ts) = all_items ts

  all_items : (ts : Trees) → items_all ts ≡ items_of_all (preorder_all ts)
  all_items no_trees = refl
  all_items (more_trees t ts) =
      (λ i. items_of_nodes t i ++ all_items ts i) ∙ sym (both_items (preorder t) (preorder_all ts))

-- ---- the nodes that resolving keeps

-- the node of a reference has no children and is no group; it is a call if the reference is one, and refers to a group
-- if the reference is a back reference
pub record IsNodeOf (role : Role) (m : Meaning) (node : Tree) : Type 0 where
  pub alone : preorder node ≡ node ∷ []
  pub no_group : is_group node ≡ false
  pub calls : is_call_node node ≡ is_call role
  pub refers : group_referred node ≡ back_number role m

pub of_reference : (z : ℕ) (m : Meaning) (r : AstReference) (position : ℕ) →
    IsNodeOf (role_of r) m (reference_node z m r position)
of_reference z (number n) (ast_backref t casei None) position =
    record { alone = refl; no_group = refl; calls = refl; refers = refl }
of_reference z (number n) (ast_backref t casei (Some level)) position =
    record { alone = refl; no_group = refl; calls = refl; refers = refl }
of_reference z _ (ast_backref t casei level) position =
    record { alone = refl; no_group = refl; calls = refl; refers = refl }
of_reference z (number n) (ast_call t) position = record { alone = refl; no_group = refl; calls = refl; refers = refl }
of_reference z _ (ast_call t) position = record { alone = refl; no_group = refl; calls = refl; refers = refl }
of_reference z (number n) (ast_condition t level) position =
    record { alone = refl; no_group = refl; calls = refl; refers = refl }
of_reference z _ (ast_condition t level) position = record { alone = refl; no_group = refl; calls = refl; refers = refl }

module _ (z : ℕ) (named : Bool) (numbers_of : Text → List ℕ) where
  abbrev there : ℕ → Tree → Tree
  there = resolved_in z named numbers_of

  -- the nodes that remain, resolved, if c groups with a number open before them
  abbrev pub kept : ℕ → List Tree → List Tree
  kept c [] = []
  kept c (ast_group name position t ∷ l) =
      if is_counted named name then group (there (c + 1) t) ∷ kept (c + 1) l else kept c l
  kept c (t ∷ l) = there c t ∷ kept c l

  -- after a capturing group with these contents, which remains if it has a number
  abbrev pub kept_if : Bool → ℕ → Tree → List Tree → List Tree
  kept_if b c t l = if b then group (there (c + 1) t) ∷ kept (c + 1) l else kept c l

  kept_append : (c k : ℕ) (a b : List Tree) → k ≡ c + counted named (items_of_all a) →
      kept c (a ++ b) ≡ kept c a ++ kept k b
  kept_append c k [] b e = let same : c ≡ k = omega (arith, e) in ap (λ m. kept m b) same
  kept_append c k (ast_group name position t ∷ a) b e =
      (elim (is_counted named name) as (λ d. k ≡ (if d then c + 1 else c) + counted named (items_of_all a) →
      kept_if d c t (a ++ b) ≡ kept_if d c t a ++ kept k b) [
        | true ↦ λ e. ap (λ l. group (there (c + 1) t) ∷ l) (kept_append (c + 1) k a b e)
        | false ↦ λ e. kept_append c k a b e
      ]) (e ∙ counted_first named _ c (items_of_all a))
  kept_append c k (ast_node r position ∷ a) b e = ap (λ l. there c (ast_node r position) ∷ l) (kept_append c k a b e)
  kept_append c k (t ∷ a) b e = ap (λ l. there c t ∷ l) (kept_append c k a b e)

  mutual
    pub resolved_nodes : (c : ℕ) (t : Tree) → preorder (there c t) ≡ kept c (preorder t)
    resolved_nodes c (ast_group name position t) =
        elim (is_counted named name) as (λ b. preorder (if b then group (there (c + 1) t) else there c t)
        ≡ kept_if b c t (preorder t)) [
          | true ↦ ap (λ l. group (there (c + 1) t) ∷ l) (resolved_nodes (c + 1) t)
          | false ↦ resolved_nodes c t
        ]
    resolved_nodes c (ast_node r position) =
        (of_reference z (refers_to numbers_of c (role_of r) (target_of r)) r position).alone
    resolved_nodes c (leaf l) = refl
    resolved_nodes c (over w t) = ap (λ m. over w (there c t) ∷ m) (resolved_nodes c t)
    resolved_nodes c (row r ts) =
        ap (λ m. row r (resolved_all z named numbers_of c ts) ∷ m) (all_nodes c ts)

    all_nodes : (c : ℕ) (ts : Trees) → preorder_all (resolved_all z named numbers_of c ts) ≡ kept c (preorder_all ts)
    all_nodes c no_trees = refl
    all_nodes c (more_trees t ts) =
        let k = c + counted named (items t) in
        (λ i. resolved_nodes c t i ++ all_nodes k ts i)
        ∙ sym (kept_append c k (preorder t) (preorder_all ts) (ap (λ l. c + counted named l) (items_of_nodes t)))
