-- Branches of a pattern, and lists of the repeats that a search goes through again.
use Rattle.std.proofs.Common.{◌≡◌, ℕ, ◌-◌, true, false, rules, Bool, List, [], ◌∷◌, ◌++◌, map, take, sym, ap, ◌∙◌, subst, arith}
use Rattle.std.proofs.lemmas.List.{take-map}
use Rattle.std.specs.List.{AllByRecursion, slice_range}
use Rattle.fancy_grammar.specs.Tree.{Tree, concat, trees_of}
use Rattle.fancy_syntax.specs.Spanned.{Spanned, first_span, spanned_children}
use Rattle.fancy_syntax.specs.View.{view, views}
use Rattle.fancy_syntax.specs.declared.expr.Expr.{Expr, Any, the_lemmas}
use Rattle.fancy_syntax.specs.declared.span.Span.{Span}
use Rattle.backtracking.specs.SlowSearches.{any_character, IsBranchOf, IsSlowFrom, IsSlowSearchIn}
use Rattle.backtracking.specs.declared.searches.SlowSearch.{SlowSearch}

-- the dot that a search passes over
pub view_any : view (Any true false) ≡ any_character
view_any = search (rules, the_lemmas)

-- the trees before an index
pub trees_before : (es bs : List Expr) (i : ℕ) → bs ≡ slice_range es 0 i → views bs ≡ take i (views es)
trees_before es bs i is =
    let same : i - 0 ≡ i = omega arith in
    ap views is ∙ ap (λ n. views (take n es)) same ∙ sym (take-map view i es)

-- a slow repeat of a branch is one of the pattern
pub slow_in : (unicode : Bool) (pattern node : Spanned) (trees : List Tree) (spans : List Span) (r : SlowSearch) → IsBranchOf pattern node →
    view node.expr ≡ concat (trees_of trees) → spans ≡ map (λ c. first_span c.spans) (spanned_children node) →
    IsSlowFrom unicode trees spans r → IsSlowSearchIn unicode pattern r
slow_in unicode pattern node trees spans r k is h slow = record {
  node = node;
  is_branch = k;
  trees = trees;
  is_concat = is;
  slow = subst (λ ss. IsSlowFrom unicode trees ss r) h slow;
}

-- one more
pub one_more : (P : SlowSearch → Type 0) (rs : List SlowSearch) (r : SlowSearch) → P r → AllByRecursion P rs → AllByRecursion P (rs ++ (r ∷ []))
one_more P [] r k all = (k, tt)
one_more P (x ∷ xs) r k all = (all.0, one_more P xs r k all.1)
