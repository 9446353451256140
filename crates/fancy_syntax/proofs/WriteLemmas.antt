-- A node that holds a list, with one element of the list written.
use Rattle.std.proofs.Common.{◌≡◌, ℕ, zero, suc, List, [], ◌∷◌, Global, Vec, ◌∙◌, ap, sym, refl, option_map, slice_get}
use Rattle.std.proofs.Math.ListN.{set}
use Rattle.std.proofs.lemmas.List.{map-set}
use Rattle.std.proofs.lemmas.Option.{slice_get-map}
use Rattle.std.specs.Vec.{with_item}
use Rattle.fancy_syntax.proofs.ChildrenLemmas.{view_Concat, view_Alt, children_Concat, children_Alt}
use Rattle.fancy_grammar.specs.Tree.{Tree, Trees, concat, alt, more_trees, children, with_child, with_tree, trees_of}
use Rattle.fancy_syntax.specs.View.{view, views}
use Rattle.fancy_syntax.specs.declared.expr.Expr.{Expr, Concat, Alt}

with_tree_at : (ts : List Tree) (i : ℕ) (u : Tree) → with_tree (trees_of ts) i u ≡ trees_of (set ts i u)
with_tree_at [] i u = refl
with_tree_at (t ∷ ts) zero u = refl
with_tree_at (t ∷ ts) (suc i) u = ap (more_trees t) (with_tree_at ts i u)

list_set : (v w : Vec Expr Global) (i : ℕ) (x : Expr) → w ≡ with_item v i x →
    trees_of (views w.items) ≡ with_tree (trees_of (views v.items)) i (view x)
list_set v w i x h = ap (λ u. trees_of (views u.items)) h ∙ ap trees_of (map-set view v.items i x)
    ∙ sym (with_tree_at (views v.items) i (view x))

abbrev Rewrites : Tree → Vec Expr Global → Tree → Vec Expr Global → Type 0
Rewrites e v n w = ((i : ℕ) (x : Expr) → w ≡ with_item v i x → n ≡ with_child e i (view x)) × (w ≡ v → n ≡ e)

rewrites : (f : Trees → Tree) (set_list : (ts : Trees) (i : ℕ) (u : Tree) →
    f (with_tree ts i u) ≡ with_child (f ts) i u) (e n : Tree) (v w : Vec Expr Global)
    → e ≡ f (trees_of (views v.items)) → n ≡ f (trees_of (views w.items)) → Rewrites e v n w
rewrites f set_list e n v w is was = (
  λ i x h. was ∙ ap f (list_set v w i x h) ∙ set_list _ i (view x) ∙ ap (λ t. with_child t i (view x)) (sym is),
  λ h. was ∙ ap (λ u. f (trees_of (views u.items))) h ∙ sym is,
)

pub rewrites_Concat : (e n : Expr) (v w : Vec Expr Global) → e ≡ Concat v → view n ≡ concat (trees_of (views w.items)) →
    Rewrites (view e) v (view n) w
rewrites_Concat e n v w is was = rewrites concat (λ ts i u. refl) (view e) (view n) v w (ap view is ∙ view_Concat v) was

pub rewrites_Alt : (e n : Expr) (v w : Vec Expr Global) → e ≡ Alt v → view n ≡ alt (trees_of (views w.items)) →
    Rewrites (view e) v (view n) w
rewrites_Alt e n v w is was = rewrites alt (λ ts i u. refl) (view e) (view n) v w (ap view is ∙ view_Alt v) was

pub child_Concat : (e : Expr) (v : Vec Expr Global) (i : ℕ) → e ≡ Concat v →
    option_map view (slice_get v.items i) ≡ slice_get (children (view e)) i
child_Concat e v i is = sym (slice_get-map view v.items i) ∙ ap (λ ts. slice_get ts i) (sym (children_Concat e v is))

pub child_Alt : (e : Expr) (v : Vec Expr Global) (i : ℕ) → e ≡ Alt v →
    option_map view (slice_get v.items i) ≡ slice_get (children (view e)) i
child_Alt e v i is = sym (slice_get-map view v.items i) ∙ ap (λ ts. slice_get ts i) (sym (children_Alt e v is))
