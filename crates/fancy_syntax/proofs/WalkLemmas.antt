-- Walks over parts, one after another.
use Rattle.std.proofs.Common.{◌≡◌, ℕ, ◌+◌, ◌<◌, ◌≤◌, List, ◌++◌, length, refl, ap}
use Rattle.std.proofs.Common.{◌∙◌, [], ◌∷◌, drop, drop-cons, get_or, add-one, take, set, sym, arith, zero, suc, Option}
use Rattle.std.proofs.Common.{Some, None, Result, Ok, Err, subst}
use Rattle.std.proofs.lemmas.Grind.{take-set_at}
use Rattle.std.proofs.lemmas.List.{take_all}
use Rattle.std.proofs.lemmas.List.{drop_all}
use Rattle.std.proofs.lemmas.List.Sums.{fold-append, length-filter, count_by-le-length}
use Rattle.fancy_lex.specs.Located.{Located}
use Rattle.fancy_lex.specs.declared.error.ReadError.{ReadError}
use Rattle.fancy_lex.specs.declared.error.ReadError.TheVariants.{At, OutOfMemory}
use Rattle.fancy_grammar.specs.Ranks.{Opening, is_counted}
use Rattle.fancy_grammar.proofs.ItemLemmas.{length_openings, counted, counted_first}
use Rattle.fancy_grammar.specs.Items.{Item, opening, reference, items, items_all, openings_in}
use Rattle.fancy_grammar.specs.Tree.{Tree, trees_of, more_trees}
use Rattle.fancy_syntax.specs.WalkViews.{IsErrorRecorded, Walks}
use Rattle.fancy_syntax.specs.Regrouped.{raw, regrouped, regrouped_all}
use Rattle.fancy_syntax.specs.View.{view, views}
use Rattle.fancy_syntax.specs.declared.expr.Expr.{Expr}
use Rattle.fancy_syntax.specs.declared.resolve.progress.Progress as code
use Rattle.fancy_syntax.specs.declared.resolve.progress.Stopped.{Stopped}
use Rattle.fancy_grammar.specs.Walk.{Scope, Progress, progress_after, record_item, resolved_by}
use Rattle.fancy_grammar.specs.Walk.{all_resolved_by}

pub recorded_append : (k : Scope) (s : Progress) (a b : List Item) →
    progress_after k s (a ++ b) ≡ progress_after k (progress_after k s a) b
recorded_append k s a b = fold-append (record_item k) s a b

-- the first error stays the first
first_kept : (k : Scope) (s : Progress) (f : Located) (l : List Item) → s.error ≡ Some f →
    (progress_after k s l).error ≡ Some f
first_kept k s f [] h = h
first_kept k s f (opening o ∷ l) h = first_kept k (record_item k s (opening o)) f l h
first_kept k s f (reference r p ∷ l) h = first_kept k (record_item k s (reference r p)) f l (rw h refl)

pub error_kept : (k : Scope) (s : Progress) (e : Option ReadError) (a b : List Item) →
    IsErrorRecorded e (progress_after k s a).error → IsErrorRecorded e (progress_after k s (a ++ b)).error
error_kept k s None a b h = h
error_kept k s (Some (At reach kind)) a b h =
    ap (λ (q : Progress). q.error) (recorded_append k s a b) ∙ first_kept k (progress_after k s a) _ b h
error_kept k s (Some OutOfMemory) a b h = tt

-- a walk over the last part is the end of one over all
same_end : (k : Scope) (s p : Progress) (l x y : List Item) → l ≡ x ++ y → p ≡ progress_after k s x →
    progress_after k p y ≡ progress_after k s l
same_end k s p l x y h e =
    ap (λ q. progress_after k q y) e ∙ sym (recorded_append k s x y) ∙ ap (progress_after k s) (sym h)

pub walk_ends : {A : Type 0} (r : Result A Stopped) (k : Scope) (s p : Progress) (l x y : List Item)
    (after : code.Progress) (P Q : A → Type 0) → l ≡ x ++ y → p ≡ progress_after k s x →
    ((a : A) → P a → Q a) → Walks r k p y after P → Walks r k s l after Q
walk_ends (Ok a) k s p l x y after P Q h e f w = (f a w.0, w.1 ∙ same_end k s p l x y h e)
walk_ends (Err _) k s p l x y after P Q h e f w =
    subst (λ (q : Progress). IsErrorRecorded after.error q.error) (same_end k s p l x y h e) w

-- a walk passes just as many groups as have a number
passed_is : (k : Scope) (s : Progress) (l : List Item) →
    (progress_after k s l).passed ≡ s.passed + counted k.named l
passed_is k s [] = omega arith
passed_is k s (opening o ∷ l) = passed_is k (record_item k s (opening o)) l ∙ sym (counted_first k.named o s.passed l)
passed_is k s (reference r p ∷ l) = passed_is k (record_item k s (reference r p)) l

pub recorded_passed : (k : Scope) (s p : Progress) (l : List Item) → p ≡ progress_after k s l →
    p.passed ≡ s.passed + counted k.named l
recorded_passed k s p l e = ap (λ (q : Progress). q.passed) e ∙ passed_is k s l

pub recorded_le : (k : Scope) (s p : Progress) (l : List Item) → p ≡ progress_after k s l →
    p.passed ≤ s.passed + length (openings_in l)
recorded_le k s p l e =
    let counts = λ (o : Opening). is_counted k.named o.name in let openings = openings_in l in
    omega (arith, recorded_passed k s p l e, length-filter counts openings, count_by-le-length counts openings)

-- the items of the trees from the i-th on
abbrev pub rest : List Expr → ℕ → List Item
rest es i = items_all (regrouped_all (trees_of (views (drop i es))))

pub rest_next : (es : List Expr) (i : ℕ) (e : Expr) → i < length es → e ≡ get_or es i e →
    rest es i ≡ items (raw e) ++ rest es (i + 1)
rest_next es i e h k = rw (drop-cons es i e, ← k, add-one) refl

pub rest_none : (es : List Expr) (i : ℕ) → length es ≤ i → rest es i ≡ []
rest_none es i h = rw (drop_all i es h) refl

pub count_two : (l x y : List Item) → l ≡ x ++ y →
    length (openings_in l) ≡ length (openings_in x) + length (openings_in y)
count_two l x y h = ap (λ m. length (openings_in m)) h ∙ length_openings x y

-- the trees resolved one after another
abbrev pub resolved_list : Scope → ℕ → List Tree → List Tree
resolved_list k c [] = []
resolved_list k c (t ∷ ts) =
    resolved_by k c (regrouped t) ∷ resolved_list k (c + counted k.named (items (regrouped t))) ts

resolved_trees : (k : Scope) (ts : List Tree) (c : ℕ) →
    all_resolved_by k c (regrouped_all (trees_of ts)) ≡ trees_of (resolved_list k c ts)
resolved_trees k [] c = refl
resolved_trees k (t ∷ ts) c = ap (more_trees (resolved_by k c (regrouped t))) (resolved_trees k ts _)

-- a list whose end from i on is known
front_next : (l r : List Tree) (i : ℕ) (x : Tree) → drop i l ≡ x ∷ r → take (suc i) l ≡ take i l ++ (x ∷ [])
front_next [] r zero x h = absurd (cc)
front_next [] r (suc i) x h = absurd (cc)
front_next (y ∷ l) r zero x h = let same : y ≡ x = cc in rw same refl
front_next (y ∷ l) r (suc i) x h = ap (λ m. y ∷ m) (front_next l r i x h)

drop_next : (l r : List Tree) (i : ℕ) (x : Tree) → drop i l ≡ x ∷ r → drop (suc i) l ≡ r
drop_next [] r zero x h = absurd (cc)
drop_next [] r (suc i) x h = absurd (cc)
drop_next (y ∷ l) r zero x h = cc
drop_next (y ∷ l) r (suc i) x h = drop_next l r i x h

views_append : (a b : List Expr) → views (a ++ b) ≡ views a ++ views b
views_append [] b = refl
views_append (e ∷ a) b = ap (λ l. view e ∷ l) (views_append a b)

-- the end that is not resolved yet, split after its first tree
end_cut : (k : Scope) (c : ℕ) (es : List Expr) (all : List Tree) (i : ℕ) (e : Expr) → i < length es →
    e ≡ get_or es i e → resolved_list k c (views (drop i es)) ≡ drop i all →
    drop i all
    ≡ resolved_by k c (raw e) ∷ resolved_list k (c + counted k.named (items (raw e))) (views (drop (i + 1) es))
end_cut k c es all i e h g d =
    let es_cut : drop i es ≡ e ∷ drop (i + 1) es = rw (drop-cons es i e, ← g, add-one) refl in
    sym d ∙ ap (λ l. resolved_list k c (views l)) es_cut

-- the resolved front, with one more tree
pub front_resolved : (k : Scope) (c : ℕ) (es now : List Expr) (all : List Tree) (i : ℕ) (e e2 : Expr) →
    length now ≡ length es → i < length es → e ≡ get_or es i e →
    view e2 ≡ resolved_by k c (raw e) → views (take i now) ≡ take i all →
    resolved_list k c (views (drop i es)) ≡ drop i all →
    views (take (i + 1) (set now i e2)) ≡ take (i + 1) all
front_resolved k c es now all i e e2 n h g v f d =
    let taken : take (i + 1) (set now i e2) ≡ take i now ++ (e2 ∷ [])
    = take-set_at now i (i + 1) e2 refl (omega arith) in
    ap views taken ∙ views_append (take i now) (e2 ∷ []) ∙ ap (λ l. l ++ (view e2 ∷ [])) f
    ∙ ap (λ x. take i all ++ (x ∷ [])) v
    ∙ sym (front_next all _ i _ (end_cut k c es all i e h g d)) ∙ ap (λ j. take j all) (sym (add-one i))

pub rest_resolved : (k : Scope) (s s2 : Progress) (es : List Expr) (all : List Tree) (i : ℕ) (e : Expr) →
    i < length es → e ≡ get_or es i e → s2 ≡ progress_after k s (items (raw e)) →
    resolved_list k s.passed (views (drop i es)) ≡ drop i all →
    resolved_list k s2.passed (views (drop (i + 1) es)) ≡ drop (i + 1) all
rest_resolved k s s2 es all i e h g n d =
    ap (λ c. resolved_list k c (views (drop (i + 1) es))) (recorded_passed k s s2 (items (raw e)) n)
    ∙ sym (drop_next all _ i _ (end_cut k s.passed es all i e h g d)) ∙ ap (λ j. drop j all) (sym (add-one i))

resolved_length : (k : Scope) (ts : List Tree) (c : ℕ) → length (resolved_list k c ts) ≡ length ts
resolved_length k [] c = refl
resolved_length k (t ∷ ts) c = ap suc (resolved_length k ts _)

views_length : (es : List Expr) → length (views es) ≡ length es
views_length [] = refl
views_length (e ∷ es) = ap suc (views_length es)

-- all are resolved
pub each_resolved : (k : Scope) (c : ℕ) (es now : List Expr) (i : ℕ) → length now ≡ length es → length es ≤ i →
    views (take i now) ≡ take i (resolved_list k c (views es)) →
    trees_of (views now) ≡ all_resolved_by k c (regrouped_all (trees_of (views es)))
each_resolved k c es now i n h f =
    let a : take i now ≡ now = take_all i now (omega arith) in
    let b : take i (resolved_list k c (views es)) ≡ resolved_list k c (views es)
    = take_all i (resolved_list k c (views es)) (omega (arith, resolved_length k (views es) c, views_length es)) in
    ap (λ l. trees_of (views l)) (sym a) ∙ ap trees_of (f ∙ b) ∙ sym (resolved_trees k (views es) c)
