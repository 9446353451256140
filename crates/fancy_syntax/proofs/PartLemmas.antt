-- The items of the nodes that have several children.
use Rattle.std.proofs.Common.{◌≡◌, ◌+◌, ◌≤◌, ◌++◌, List, arith, length, ap, sym, ◌∙◌, rules, Option, Box}
use Rattle.std.proofs.Common.{Global, Result, append-nil, refl}
use Rattle.fancy_lex.specs.declared.error.ReadError.{ReadError}
use Rattle.fancy_grammar.specs.Items.{Item, items, openings_in}
use Rattle.fancy_grammar.specs.Tree.{conditional, expression}
use Rattle.fancy_syntax.specs.WalkViews.{IsErrorRecorded, Walks}
use Rattle.fancy_syntax.specs.Regrouped.{raw, regrouped}
use Rattle.fancy_syntax.specs.View.{view, view_absent}
use Rattle.fancy_grammar.specs.Walk.{Scope, Progress, progress_after, resolved_by}
use Rattle.fancy_syntax.specs.declared.expr.Absent.{Absent, Expression}
use Rattle.fancy_syntax.specs.declared.expr.Expr.{Expr, Conditional, the_lemmas}
use Rattle.fancy_syntax.specs.declared.resolve.progress.Progress as code
use Rattle.fancy_syntax.specs.declared.resolve.progress.Stopped.{Stopped}
use Rattle.fancy_grammar.proofs.ItemLemmas.{length_openings, counted}
use Rattle.fancy_syntax.proofs.WalkLemmas.{recorded_le, recorded_passed, recorded_append, error_kept, walk_ends}

-- the items are those of two trees, or of three
pub record Two (l : List Item) (x y : Expr) : Type 0 where
  pub is : l ≡ items (raw x) ++ items (raw y)

pub record Three (l : List Item) (x y z : Expr) : Type 0 where
  pub is : l ≡ items (raw x) ++ (items (raw y) ++ items (raw z))

view_conditional : (c t f : Box Expr Global) →
    view (Conditional c t f) ≡ conditional (view c.value) (view t.value) (view f.value)
view_conditional c t f = search (rules, the_lemmas)

view_expression : (a b : Box Expr Global) → view_absent (Expression a b) ≡ expression (view a.value) (view b.value)
view_expression a b = search (rules, the_lemmas)

pub three_parts : {e x y z : Expr} {c t f : Box Expr Global} → e ≡ Conditional c t f → x ≡ c.value → y ≡ t.value →
    z ≡ f.value →
    Three (items (raw e)) x y z
three_parts {c} {t} {f} h i j k = record {
  is = ap (λ u. items (regrouped u)) (ap view h ∙ view_conditional c t f)
      ∙ (λ n. items (raw (sym i n)) ++ (items (raw (sym j n)) ++ append-nil (items (raw (sym k n))) n));
}

-- the same for boxes that are borrowed
pub three_borrowed : {e : Expr} {c t f x y z : Box Expr Global} → e ≡ Conditional c t f → x ≡ c → y ≡ t → z ≡ f →
    Three (items (raw e)) x.value y.value z.value
three_borrowed h i j k =
    let value = λ (b : Box Expr Global). b.value in three_parts h (ap value i) (ap value j) (ap value k)

pub two_parts : {e : Absent} {x y : Expr} {a b : Box Expr Global} → e ≡ Expression a b → x ≡ a.value → y ≡ b.value →
    Two (items (regrouped (view_absent e))) x y
two_parts {a} {b} h i j = record {
  is = ap (λ u. items (regrouped u)) (ap view_absent h ∙ view_expression a b)
      ∙ (λ n. items (raw (sym i n)) ++ append-nil (items (raw (sym j n))) n);
}

-- how many openings

pub two_count : {l : List Item} {x y : Expr} → Two l x y →
    length (openings_in l) ≡ length (openings_in (items (raw x))) + length (openings_in (items (raw y)))
two_count {x} {y} p = ap (λ m. length (openings_in m)) p.is ∙ length_openings (items (raw x)) (items (raw y))

pub three_count : {l : List Item} {x y z : Expr} → Three l x y z →
    length (openings_in l)
    ≡ length (openings_in (items (raw x))) +
    (length (openings_in (items (raw y))) + length (openings_in (items (raw z))))
three_count {x} {y} {z} p =
    ap (λ m. length (openings_in m)) p.is ∙ length_openings (items (raw x)) (items (raw y) ++ items (raw z))
    ∙ ap (λ n. length (openings_in (items (raw x))) + n) (length_openings (items (raw y)) (items (raw z)))

-- a walk over the first part, and one over the second, pass at most as many groups as there are openings

pub two_recorded : {l : List Item} {x y : Expr} (k : Scope) (r s : Progress) → Two l x y →
    s ≡ progress_after k r (items (raw x)) →
    s.passed + length (openings_in (items (raw y))) ≤ r.passed + length (openings_in l)
two_recorded {x} k r s p e = omega (arith, two_count p, recorded_le k r s (items (raw x)) e)

pub three_recorded : {l : List Item} {x y z : Expr} (k : Scope) (r s : Progress) → Three l x y z →
    s ≡ progress_after k r (items (raw x)) →
    s.passed + (length (openings_in (items (raw y))) + length (openings_in (items (raw z)))) ≤ r.passed + length
    (openings_in l)
three_recorded {x} k r s p e = omega (arith, three_count p, recorded_le k r s (items (raw x)) e)

pub third_recorded : {l : List Item} {x y z : Expr} (k : Scope) (r s t : Progress) → Three l x y z →
    s ≡ progress_after k r (items (raw x)) →
    t ≡ progress_after k s (items (raw y)) →
    t.passed + length (openings_in (items (raw z))) ≤ r.passed + length (openings_in l)
third_recorded {x} {y} k r s t p e f = omega (arith, three_recorded k r s p e, recorded_le k s t (items (raw y)) f)

-- the error of a walk over one of the parts is that of the walk over all

pub three_error : {l : List Item} {x y z : Expr} (k : Scope) (r : Progress) (e : Option ReadError) → Three l x y z →
    IsErrorRecorded e (progress_after k r (items (raw x))).error → IsErrorRecorded e (progress_after k r l).error
three_error {x} k r e p h = rw p.is (error_kept k r e (items (raw x)) _ h)

pub third_error : {l : List Item} {x y z : Expr} (k : Scope) (r s : Progress) (e : Option ReadError) → Three l x y z →
    s ≡ progress_after k r (items (raw x)) → IsErrorRecorded e (progress_after k s (items (raw y))).error →
    IsErrorRecorded e (progress_after k r l).error
third_error {x} {y} {z} k r s e p f h =
    rw (p.is, recorded_append k r (items (raw x)) _, ← f) (error_kept k s e (items (raw y)) (items (raw z)) h)

-- a walk that resolves the last part, after the groups of the parts before it, ends a walk that resolves all

pub two_resolved : {A : Type 0} {e : Absent} {a b : Box Expr Global} (k : Scope) (r s : Progress) (o : Result A Stopped)
    (after : code.Progress) (x y : Box Expr Global) → e ≡ Expression a b →
    s ≡ progress_after k r (items (raw a.value)) → view x.value ≡ resolved_by k r.passed (raw a.value) →
    Walks o k s (items (raw b.value)) after (λ _. view y.value ≡ resolved_by k s.passed (raw b.value)) →
    Walks o k r (items (regrouped (view_absent e))) after
    (λ _. view_absent (Expression x y) ≡ resolved_by k r.passed (regrouped (view_absent e)))
two_resolved {a} {b} k r s o after x y h f first w =
    let one = recorded_passed k r s (items (raw a.value)) f in
    let parts = two_parts h refl refl in
    walk_ends o k r s _ (items (raw a.value)) (items (raw b.value)) after _ _ parts.is f
    (λ _ second. view_expression x y
    ∙ (λ n. expression (first n) ((second ∙ ap (λ c. resolved_by k c (raw b.value)) one) n))
    ∙ sym (ap (λ u. resolved_by k r.passed (regrouped u)) (ap view_absent h ∙ view_expression a b))) w

pub three_resolved : {A : Type 0} {e : Expr} {c t f u v w : Box Expr Global} (k : Scope) (p q s : Progress)
    (o : Result A Stopped) (after : code.Progress) (x y z : Box Expr Global) → e ≡ Conditional c t f → u ≡ c → v ≡ t →
    w ≡ f → q ≡ progress_after k p (items (raw u.value)) → s ≡ progress_after k q (items (raw v.value)) →
    view x.value ≡ resolved_by k p.passed (raw u.value) → view y.value ≡ resolved_by k q.passed (raw v.value) →
    Walks o k s (items (raw w.value)) after (λ _. view z.value ≡ resolved_by k s.passed (raw w.value)) →
    Walks o k p (items (raw e)) after (λ _. view (Conditional x y z) ≡ resolved_by k p.passed (raw e))
three_resolved {u} {v} {w} k p q s o after x y z h i j l a b first second rest =
    let one = recorded_passed k p q (items (raw u.value)) a in
    let two = recorded_passed k q s (items (raw v.value)) b ∙ ap (λ c. c + counted k.named (items (raw v.value))) one in
    let parts = three_borrowed h i j l in
    let same = h ∙ (λ n. Conditional (sym i n) (sym j n) (sym l n)) in
    walk_ends o k p q _ (items (raw u.value)) (items (raw v.value) ++ items (raw w.value)) after _ _ parts.is a
    (λ _ third. view_conditional x y z
    ∙ (λ n. conditional (first n) ((second ∙ ap (λ c. resolved_by k c (raw v.value)) one) n)
    ((third ∙ ap (λ c. resolved_by k c (raw w.value)) two) n))
    ∙ sym (ap (λ u. resolved_by k p.passed (regrouped u)) (ap view same ∙ view_conditional u v w)))
    (walk_ends o k q s _ (items (raw v.value)) (items (raw w.value)) after _ _ refl b (λ _ h. h) rest)
