-- A tree without a capturing group and without a reference stays as it is.
use Rattle.std.proofs.Common.{◌≡◌, ℕ, List, [], ◌∷◌, ◌++◌, refl, ap, ap₂}
use Rattle.fancy_grammar.specs.Items.{Item, items, items_all}
use Rattle.fancy_grammar.specs.Label as label
use Rattle.fancy_grammar.specs.Tree.{Tree, leaf, over, row, Trees, no_trees, more_trees, ast_node, ast_group}
use Rattle.fancy_grammar.specs.Walk.{Scope, resolved_by, all_resolved_by}
use Rattle.fancy_syntax.specs.Regrouped.{regrouped, regrouped_all}

none_before : (a b : List Item) → a ++ b ≡ [] → a ≡ []
none_before [] b h = refl
none_before (i ∷ a) b h = absurd (cc)

none_after : (a b : List Item) → a ++ b ≡ [] → b ≡ []
none_after [] b h = h
none_after (i ∷ a) b h = absurd (cc)

-- by induction on the tree: nothing in it changes
mutual
  pub resolved_same : (k : Scope) (t : Tree) → items (regrouped t) ≡ [] → (c : ℕ) → resolved_by k c (regrouped t) ≡ t
  resolved_same k (over label.group t) h c = absurd (cc)
  resolved_same k (ast_group name position t) h c = absurd (cc)
  resolved_same k (ast_node r position) h c = absurd (cc)
  resolved_same k (leaf l) h c = refl
  resolved_same k (over w t) h c = ap (over w) (resolved_same k t h c)
  resolved_same k (row r ts) h c = ap (row r) (all_same k ts h c)

  all_same : (k : Scope) (ts : Trees) → items_all (regrouped_all ts) ≡ [] → (c : ℕ) →
      all_resolved_by k c (regrouped_all ts) ≡ ts
  all_same k no_trees h c = refl
  all_same k (more_trees t ts) h c =
      ap₂ more_trees
      (resolved_same k t (none_before (items (regrouped t)) (items_all (regrouped_all ts)) h) c)
      (all_same k ts (none_after (items (regrouped t)) (items_all (regrouped_all ts)) h) _)
