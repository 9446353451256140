-- A search among the descendants of a value, child by child.
use Rattle.std.proofs.Common.{◌≡◌, ℕ, zero, suc, ◌<◌, ◌≤◌, ◌⊎◌, inl, inr, ⊎_elim, List, [], ◌∷◌, length, get_or, refl}
use Rattle.std.proofs.Common.{sym, ap, ◌∙◌, subst, arith}
use Rattle.std.specs.List.{IsAmong}
use Rattle.std.proofs.lemmas.List.{get_or-map, length-map}
use Rattle.fancy_syntax.specs.Children.{children_of}
use Rattle.fancy_syntax.specs.Descendants.{IsDescendant, child, deeper}
use Rattle.fancy_grammar.specs.Label as label
use Rattle.fancy_grammar.specs.Tree.{Tree, leaf, over, row, Trees, no_trees, more_trees, list_of, children, levels}
use Rattle.fancy_grammar.specs.Tree.{levels_all, trees_of}
use Rattle.fancy_syntax.specs.View.{view, views}
use Rattle.fancy_syntax.specs.declared.expr.Expr.{Expr}

-- ---- a child is less deep

levels_member : (ts : Trees) (i : ℕ) (d : Tree) → i < length (list_of ts) →
    levels (get_or (list_of ts) i d) ≤ levels_all ts
levels_member no_trees i d h = absurd (omega arith)
levels_member (more_trees t ts) zero d h = omega arith
levels_member (more_trees t ts) (suc i) d h = omega (arith, levels_member ts i d (omega arith))

levels_child : (t : Tree) (i : ℕ) (d : Tree) → i < length (children t) → levels (get_or (children t) i d) < levels t
levels_child (leaf l) i d h = absurd (omega arith)
levels_child (over (label.ast_group name position) t) i d h = absurd (omega arith)
levels_child (over w t) zero d h = omega arith
levels_child (over w t) (suc i) d h = absurd (omega arith)
levels_child (row r ts) i d h = omega (arith, levels_member ts i d h)

pub levels_of_child : (e c : Expr) → views (children_of e) ≡ children (view e) → IsAmong (children_of e) c →
    levels (view c) < levels (view e)
levels_of_child e c same (i, (h, is)) =
    let long : i < length (children (view e)) = omega (arith, length-map (children_of e) view, ap length same) in
    let at : get_or (children (view e)) i (view c) ≡ view c = ap (λ ts. get_or ts i (view c)) (sym same)
    ∙ get_or-map view (children_of e) i c (view c) h ∙ ap view (sym is) in
    subst (λ t. levels t < levels (view e)) at (levels_child (view e) i (view c) long)

-- a tree of a list is at most as deep as the deepest
pub levels_item : (es : List Expr) (i : ℕ) (e : Expr) → i < length es → e ≡ get_or es i e →
    levels (view e) ≤ levels_all (trees_of (views es))
levels_item [] i e h is = absurd (omega arith)
levels_item (x ∷ es) zero e h is = omega (arith, ap (λ y. levels (view y)) is)
levels_item (x ∷ es) (suc i) e h is = omega (arith, levels_item es i e (omega arith) is)

-- the same, with what is known of the iterator that returns the children
pub levels_of_given : (e c : Expr) (all : List Expr) → all ≡ children_of e → views all ≡ children (view e) →
    IsAmong (children_of e) c → levels (view c) < levels (view e)
levels_of_given e c all values trees among = levels_of_child e c (ap views (sym values) ∙ trees) among

-- ---- the children that are left

among_first : (c : Expr) (cs : List Expr) → IsAmong (c ∷ cs) c
among_first c cs = (0, (omega arith, refl))

among_tail : (c d : Expr) (cs : List Expr) → IsAmong cs d → IsAmong (c ∷ cs) d
among_tail c d cs (i, (h, is)) = (suc i, (omega arith, is))

-- those that are left are children of e
pub record Within (e : Expr) (left : List Expr) : Type 0 where
  pub inside : (c : Expr) → IsAmong left c → IsAmong (children_of e) c

pub within_start : (e : Expr) (left : List Expr) → left ≡ children_of e → Within e left
within_start e left h = record { inside = λ c a. subst (λ es. IsAmong es c) h a }

pub within_first : (e c : Expr) (left more : List Expr) → Within e left → left ≡ c ∷ more → IsAmong (children_of e) c
within_first e c left more s h = s.inside c (subst (λ es. IsAmong es c) (sym h) (among_first c more))

pub within_next : (e c : Expr) (left more : List Expr) → Within e left → left ≡ c ∷ more → Within e more
within_next e c left more s h = record {
  inside = λ d a. s.inside d (subst (λ es. IsAmong es d) (sym h) (among_tail c d more a));
}

-- ---- a search among them

-- P holds of c and of all nodes below it
pub record HoldsFrom (P : Expr → Type 0) (c : Expr) : Type 0 where
  pub here : P c
  pub below : (d : Expr) → IsDescendant d c → P d

-- a sweep over the children of e, with some left
pub record Sweep (P : Expr → Type 0) (e : Expr) (left : List Expr) : Type 0 where
  pub inside : (c : Expr) → IsAmong left c → IsAmong (children_of e) c
  pub done_or_left : (c : Expr) → IsAmong (children_of e) c → IsAmong left c ⊎ HoldsFrom P c

among_cases : (c d : Expr) (cs : List Expr) (i : ℕ) → i < length (c ∷ cs) → d ≡ get_or (c ∷ cs) i d →
    (d ≡ c) ⊎ IsAmong cs d
among_cases c d cs zero h is = inl is
among_cases c d cs (suc i) h is = inr (i, (omega arith, is))

pub sweep_start : (P : Expr → Type 0) (e : Expr) (left : List Expr) → left ≡ children_of e → Sweep P e left
sweep_start P e left h = record {
  inside = λ c a. subst (λ es. IsAmong es c) h a;
  done_or_left = λ c a. inl (subst (λ es. IsAmong es c) (sym h) a);
}

pub sweep_first : (P : Expr → Type 0) (e c : Expr) (left more : List Expr) → Sweep P e left → left ≡ c ∷ more →
    IsAmong (children_of e) c
sweep_first P e c left more s h = s.inside c (subst (λ es. IsAmong es c) (sym h) (among_first c more))

sweep_case : (P : Expr → Type 0) (c d : Expr) (more : List Expr) → HoldsFrom P c →
    IsAmong (c ∷ more) d ⊎ HoldsFrom P d → IsAmong more d ⊎ HoldsFrom P d
sweep_case P c d more k (inr x) = inr x
sweep_case P c d more k (inl (i, (h, is))) =
    ⊎_elim (λ e. inr (subst (HoldsFrom P) (sym e) k)) inl (among_cases c d more i h is)

pub sweep_next : (P : Expr → Type 0) (e c : Expr) (left more : List Expr) → Sweep P e left → left ≡ c ∷ more →
    HoldsFrom P c → Sweep P e more
sweep_next P e c left more s h k = record {
  inside = λ d a. s.inside d (subst (λ es. IsAmong es d) (sym h) (among_tail c d more a));
  done_or_left = λ d a. sweep_case P c d more k (subst (λ es. IsAmong es d ⊎ HoldsFrom P d) h (s.done_or_left d a));
}

sweep_none : (P : Expr → Type 0) (c : Expr) → IsAmong [] c ⊎ HoldsFrom P c → HoldsFrom P c
sweep_none P c (inl (i, (h, is))) = absurd (omega arith)
sweep_none P c (inr x) = x

pub sweep_end : (P : Expr → Type 0) (e : Expr) (left : List Expr) → Sweep P e left → left ≡ [] → (d : Expr) →
    IsDescendant d e → P d
sweep_end P e left s h d (child a) =
    (sweep_none P d (subst (λ es. IsAmong es d ⊎ HoldsFrom P d) h (s.done_or_left d a))).here
sweep_end P e left s h d (deeper {c = c} a b) =
    (sweep_none P c (subst (λ es. IsAmong es c ⊎ HoldsFrom P c) h (s.done_or_left c a))).below d b
