-- Pieces of branches, one by one.
use Rattle.std.proofs.Common.{◌≡◌, ℕ, suc, Vec, Global, ◌+◌, ◌<◌, ◌≤◌, ◌&&◌, ◌==◌, Bool, true, List, ◌∷◌, length}
use Rattle.std.proofs.Common.{drop, get_or, inl, inr, sym, ap, ◌∙◌, drop-cons, add-one}
use Rattle.std.proofs.lemmas.List.{drop_all}
use Rattle.fancy_syntax.specs.View.{view, views}
use Rattle.fancy_syntax.proofs.ChildrenLemmas.{view_Concat, list_of_trees_of}
use Rattle.fancy_syntax.specs.declared.expr.Expr.{Expr, Concat}
use Rattle.class_rules.specs.Beginnings.{pieces, least, are_optional, StartsWithin, RepeatAlike, BeginsWithin}

-- the pieces of a concatenation are what it holds
pub pieces_Concat : (e : Expr) (v : Vec Expr Global) → e ≡ Concat v → pieces (view e) ≡ views v.items
pieces_Concat e v h = ap (λ x. pieces (view x)) h ∙ ap pieces (view_Concat v) ∙ list_of_trees_of _

-- the trees from i on are the one at i and those after it
trees_suc : (es : List Expr) (i : ℕ) (e : Expr) → i < length es → e ≡ get_or es i e →
    views (drop i es) ≡ view e ∷ views (drop (suc i) es)
trees_suc es i e h is = ap views (drop-cons es i e h ∙ ap (λ x. x ∷ drop (suc i) es) (sym is))

trees_step : (es : List Expr) (i : ℕ) (e : Expr) → i < length es → e ≡ get_or es i e →
    views (drop i es) ≡ view e ∷ views (drop (i + 1) es)
trees_step es i e h is = rw add-one (trees_suc es i e h is)

-- trees are optional if the first of them and the others are
pub optional_next : (es : List Expr) (i : ℕ) (e : Expr) → i < length es → e ≡ get_or es i e →
    (least (view e) == 0) ≡ true → are_optional (views (drop (i + 1) es)) ≡ true →
    are_optional (views (drop i es)) ≡ true
optional_next es i e h is zero others =
    ap are_optional (trees_step es i e h is)
    ∙ ap (λ b. b && are_optional (views (drop (i + 1) es))) zero
    ∙ others

pub optional_end : (es : List Expr) (i : ℕ) → length es ≤ i → are_optional (views (drop i es)) ≡ true
optional_end es i h = ap (λ us. are_optional (views us)) (drop_all i es h)

-- the later pieces begin with what the earlier ones match if the first ones do, and the others are optional
pub begins_here : (unicode : Bool) (rest needed more others : List Expr) (first piece : Expr) →
    rest ≡ first ∷ more → needed ≡ piece ∷ others → StartsWithin unicode (view first) (view piece) →
    are_optional (views others) ≡ true → BeginsWithin unicode (views rest) (views needed)
begins_here unicode rest needed more others first piece is are starts optional =
    rw (is, are) (starts, inl optional)

-- or if the first ones do, which repeat alike, and the others begin so
pub begins_later : (unicode : Bool) (rest needed more others : List Expr) (first piece : Expr) →
    rest ≡ first ∷ more → needed ≡ piece ∷ others → StartsWithin unicode (view first) (view piece) →
    RepeatAlike (view first) (view piece) → BeginsWithin unicode (views more) (views others) →
    BeginsWithin unicode (views rest) (views needed)
begins_later unicode rest needed more others first piece is are starts alike begins =
    rw (is, are) (starts, inr (alike, begins))
