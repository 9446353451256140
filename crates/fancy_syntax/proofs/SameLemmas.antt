-- Whether two lists have equal trees.
use Rattle.std.proofs.Common.{◌≡◌, ◌≢◌, ℕ, ◌+◌, ◌<◌, ◌≤◌, Bool, true, false, List, [], ◌∷◌, ◌++◌, length, take, get_or}
use Rattle.std.proofs.Common.{◌∙◌, refl, ap, sym, map, true≢false}
use Rattle.std.specs.Bool.{Decides}
use Rattle.std.proofs.lemmas.List.{get_or-map, length-map, map_more, take_all}
use Rattle.fancy_syntax.proofs.ChildrenLemmas.{list_of_trees_of}
use Rattle.fancy_grammar.specs.Positioned.{positioned, positioned_all}
use Rattle.fancy_grammar.specs.ReadAs.{unpositioned}
use Rattle.fancy_grammar.specs.Same.{same, same_all}
use Rattle.fancy_grammar.proofs.ReadAsLaws.{positioned_is, unpositioned_is}
use Rattle.fancy_grammar.proofs.SameLaws.{same-Decides, all-Decides}
use Rattle.fancy_grammar.specs.Tree.{Tree, list_of, more_trees, trees_of}
use Rattle.fancy_syntax.specs.View.{view, views}
use Rattle.fancy_syntax.specs.declared.expr.Expr.{Expr}

-- ---- with all positions, and with none

pub same_with_positions : (s t : Tree) → same (positioned true s) (positioned true t) ≡ same s t
same_with_positions s t = λ i. same (positioned_is s i) (positioned_is t i)

pub same_without_positions : (s t : Tree) → same (positioned false s) (positioned false t) ≡ same (unpositioned s)
    (unpositioned t)
same_without_positions s t = λ i. same (unpositioned_is s i) (unpositioned_is t i)

-- ---- lists

abbrev pub positioned_view : Bool → Expr → Tree
positioned_view p x = positioned p (view x)

abbrev pub positioned_views : Bool → List Expr → List Tree
positioned_views p = map (positioned_view p)

positioned_all_views : (p : Bool) (xs : List Expr) → positioned_all p (trees_of (views xs)) ≡ trees_of
    (positioned_views p xs)
positioned_all_views p [] = refl
positioned_all_views p (x ∷ xs) = ap (more_trees (positioned_view p x)) (positioned_all_views p xs)

same_lists : (p : Bool) (xs ys : List Expr) →
    Decides (same_all (positioned_all p (trees_of (views xs))) (positioned_all p (trees_of (views ys))))
    (positioned_views p xs ≡ positioned_views p ys)
same_lists p xs ys =
    let there : same_all (positioned_all p (trees_of (views xs))) (positioned_all p (trees_of (views ys)))
    ≡ same_all (trees_of (positioned_views p xs)) (trees_of (positioned_views p ys)) =
    λ i. same_all (positioned_all_views p xs i) (positioned_all_views p ys i) in
    let decides = all-Decides (trees_of (positioned_views p xs)) (trees_of (positioned_views p ys)) in (
      λ e. sym (list_of_trees_of (positioned_views p xs)) ∙ ap list_of (decides.0 (sym there ∙ e))
          ∙ list_of_trees_of (positioned_views p ys),
      λ e. there ∙ decides.1 (ap trees_of e),
    )

false_unless : (r : Bool) → ¬ (r ≡ true) → false ≡ r
false_unless true h = absurd (h refl)
false_unless false h = refl

pub same_all_lengths : (p : Bool) (xs ys : List Expr) → length xs ≢ length ys →
    false ≡ same_all (positioned_all p (trees_of (views xs))) (positioned_all p (trees_of (views ys)))
same_all_lengths p xs ys h =
    false_unless _ (λ e. h (sym (length-map xs (positioned_view p)) ∙ ap length ((same_lists p xs ys).0 e)
    ∙ length-map ys (positioned_view p)))

pub same_all_here : (p : Bool) (xs ys : List Expr) (i : ℕ) (x y : Expr) → i < length xs → i < length ys →
    x ≡ get_or xs i x → y ≡ get_or ys i y → same (positioned p (view x)) (positioned p (view y)) ≡ false →
    false ≡ same_all (positioned_all p (trees_of (views xs))) (positioned_all p (trees_of (views ys)))
same_all_here p xs ys i x y h k ex ey d =
    false_unless _ (λ e.
    let v = positioned_view p in
    let at : v x ≡ v y = ap v ex ∙ sym (get_or-map v xs i x (v x) h)
    ∙ ap (λ ts. get_or ts i (v x)) ((same_lists p xs ys).0 e) ∙ get_or-map v ys i y (v x) k
    ∙ ap v (sym ey) in
    true≢false (sym ((same-Decides (v x) (v y)).1 at) ∙ d))

pub same_all_all : (p : Bool) (xs ys : List Expr) (n : ℕ) → length xs ≤ n → length ys ≤ n →
    positioned_views p (take n xs) ≡ positioned_views p (take n ys) →
    true ≡ same_all (positioned_all p (trees_of (views xs))) (positioned_all p (trees_of (views ys)))
same_all_all p xs ys n h k e =
    sym ((same_lists p xs ys).1
    (ap (positioned_views p) (sym (take_all n xs h)) ∙ e ∙ ap (positioned_views p) (take_all n ys k)))

pub same_all_more : (p : Bool) (xs ys : List Expr) (i : ℕ) (x y : Expr) → i < length xs → i < length ys →
    x ≡ get_or xs i x → y ≡ get_or ys i y → positioned_views p (take i xs) ≡ positioned_views p (take i ys) →
    same (positioned p (view x)) (positioned p (view y)) ≡ true →
    positioned_views p (take (i + 1) xs) ≡ positioned_views p (take (i + 1) ys)
same_all_more p xs ys i x y h k ex ey before e =
    let v = positioned_view p in
    map_more v xs i x h ∙ ap (λ d. map v (take i xs) ++ v d ∷ []) (sym ex) ∙ ap (λ ts. ts ++ v x ∷ []) before
    ∙ ap (λ t. map v (take i ys) ++ t ∷ []) ((same-Decides (v x) (v y)).0 e)
    ∙ ap (λ d. map v (take i ys) ++ v d ∷ []) ey ∙ sym (map_more v ys i y k)
