-- Pieces of branches, one by one.
use Rattle.std.proofs.Common.{◌≡◌, ℕ, suc, ◌+◌, ◌<◌, ◌≤◌, ◌&&◌, true, false, List, ◌∷◌, length, drop, get_or}
use Rattle.std.proofs.Common.{sym, ap, ◌∙◌, drop-cons, add-one}
use Rattle.std.proofs.lemmas.List.{drop_all, nil_from_length, length-map}
use Rattle.fancy_syntax.specs.View.{view, views}
use Rattle.fancy_syntax.specs.declared.expr.Expr.{Expr}
use Rattle.patterns_lint.specs.Branches.{covers, begins_with}

-- the trees from i on are the one at i and those after it
trees_suc : (es : List Expr) (i : ℕ) (e : Expr) → i < length es → e ≡ get_or es i e →
    views (drop i es) ≡ view e ∷ views (drop (suc i) es)
trees_suc es i e h is = ap views (drop-cons es i e h ∙ ap (λ x. x ∷ drop (suc i) es) (sym is))

trees_step : (es : List Expr) (i : ℕ) (e : Expr) → i < length es → e ≡ get_or es i e →
    views (drop i es) ≡ view e ∷ views (drop (i + 1) es)
trees_step es i e h is = rw add-one (trees_suc es i e h is)

-- where others follow, their first has to be covered, and the rest begins with the rest
pub begins_next : (es : List Expr) (i : ℕ) (e : Expr) (rest : List Expr) (first : Expr) (more : List Expr) →
    i < length es → e ≡ get_or es i e → rest ≡ first ∷ more → begins_with (views (drop i es)) (views rest)
    ≡ covers (view e) (view first) && begins_with (views (drop (i + 1) es)) (views more)
begins_next es i e rest first more h is other =
    ap (λ ts. begins_with ts (views rest)) (trees_step es i e h is)
    ∙ ap (λ us. begins_with (view e ∷ views (drop (i + 1) es)) (views us)) other

-- where no other follows, they do not begin so
pub begins_none : (es : List Expr) (i : ℕ) (e : Expr) (rest : List Expr) → i < length es → e ≡ get_or es i e →
    length rest ≡ 0 → begins_with (views (drop i es)) (views rest) ≡ false
begins_none es i e rest h is none =
    ap (λ ts. begins_with ts (views rest)) (trees_step es i e h is)
    ∙ ap (λ us. begins_with (view e ∷ views (drop (i + 1) es)) (views us)) (nil_from_length rest none)

-- where all were looked at, they do
pub begins_end : (es : List Expr) (i : ℕ) (rest : List Expr) → length es ≤ i →
    begins_with (views (drop i es)) (views rest) ≡ true
begins_end es i rest h = ap (λ us. begins_with (views us) (views rest)) (drop_all i es h)

-- there are as many trees as expressions
pub length_views : (es : List Expr) → length (views es) ≡ length es
length_views es = length-map es view
