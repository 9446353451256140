-- Bytes with parts of them replaced.
use Rattle.std.proofs.Common.{◌≡◌, ◌∙◌, ◌<◌, ◌≤◌, ◌-◌, ◌+◌, ℕ, List, [], ◌∷◌, ◌++◌, refl, sym, ap, subst, arith, length, get_or, take, drop, slice_range, string_bytes, append_assoc, length-append}
use Rattle.std.proofs.lemmas.List.{drop_more, length-take, take-take, take-append-le, drop-append-le, drop-take, length-take-le}
use Rattle.source_literals.specs.Replaced.{AreInOrder, replaced}
use Rattle.source_literals.specs.declared.replaced.Replacement.{Replacement}

pub not_after : (d : ℕ) (ps : List Replacement) (e : ℕ) → AreInOrder d ps e → d ≤ e
not_after d [] e h = h
not_after d (p ∷ ps) e h = omega (arith, not_after p.span.end ps e h.2, h.0, h.1)

-- a list that begins as one that is long enough is so long
long_enough : (n : ℕ) (v w : List ℕ) → take n v ≡ take n w → n ≤ length w → n ≤ length v
long_enough n v w same long = omega (arith, simp length-take at (ap length same), long)

-- of what begins as another, what is before an earlier offset too
begins : (m n : ℕ) (v w : List ℕ) → m ≤ n → take n v ≡ take n w → take m v ≡ take m w
begins m n v w le same = sym (take-take m n v le) ∙ ap (take m) same ∙ take-take m n w le

-- the bytes before the parts stay
pub before_stays : (d : ℕ) (ps : List Replacement) (w : List ℕ) → AreInOrder d ps (length w) →
    take d (replaced w ps) ≡ take d w
before_stays d [] w h = refl
before_stays d (p ∷ ps) w h =
    let v = replaced w ps in
    let same : take p.span.end v ≡ take p.span.end w = before_stays p.span.end ps w h.2 in
    let long : p.span.end ≤ length v = long_enough p.span.end v w same (not_after p.span.end ps (length w) h.2) in
    let front : length (take p.span.start v) ≡ p.span.start = length-take-le p.span.start v (omega (arith, h.1, long)) in
    let inside : d ≤ length (take p.span.start v) = omega (arith, front, h.0) in
    let within : d ≤ length (take p.span.start v ++ string_bytes p.text) =
    omega (arith, length-append (take p.span.start v) (string_bytes p.text), inside) in
    take-append-le d (take p.span.start v ++ string_bytes p.text) (drop p.span.end v) within
    ∙ take-append-le d (take p.span.start v) (string_bytes p.text) inside
    ∙ take-take d p.span.start v h.0
    ∙ begins d p.span.end v w (omega (arith, h.0, h.1)) same

-- what is left past an offset: the bytes up to the first part, its text, and what is left past it
pub step : (d : ℕ) (p : Replacement) (ps : List Replacement) (w : List ℕ) → AreInOrder d (p ∷ ps) (length w) →
    drop d (replaced w (p ∷ ps)) ≡
    (slice_range w d p.span.start ++ string_bytes p.text) ++ drop p.span.end (replaced w ps)
step d p ps w h =
    let v = replaced w ps in
    let same : take p.span.end v ≡ take p.span.end w = before_stays p.span.end ps w h.2 in
    let long : p.span.end ≤ length v = long_enough p.span.end v w same (not_after p.span.end ps (length w) h.2) in
    let front : length (take p.span.start v) ≡ p.span.start = length-take-le p.span.start v (omega (arith, h.1, long)) in
    let inside : d ≤ length (take p.span.start v) = omega (arith, front, h.0) in
    let within : d ≤ length (take p.span.start v ++ string_bytes p.text) =
    omega (arith, length-append (take p.span.start v) (string_bytes p.text), inside) in
    let start : d + (p.span.start - d) ≡ p.span.start = omega (arith, h.0) in
    let cut : drop d (take p.span.start v) ≡ slice_range w d p.span.start =
    ap (drop d) (begins p.span.start p.span.end v w h.1 same)
    ∙ ap (λ n. drop d (take n w)) (sym start)
    ∙ drop-take d (p.span.start - d) w in
    drop-append-le d (take p.span.start v ++ string_bytes p.text) (drop p.span.end v) within
    ∙ ap (λ a. a ++ drop p.span.end v) (drop-append-le d (take p.span.start v) (string_bytes p.text) inside)
    ∙ ap (λ a. (a ++ string_bytes p.text) ++ drop p.span.end v) cut

-- what is written up to a part, the bytes before it, its text and what is left are all the bytes
pub one_more : (w new all : List ℕ) (d : ℕ) (p : Replacement) (ps : List Replacement) →
    AreInOrder d (p ∷ ps) (length w) → new ++ drop d (replaced w (p ∷ ps)) ≡ all →
    ((new ++ slice_range w d p.span.start) ++ string_bytes p.text) ++ drop p.span.end (replaced w ps) ≡ all
one_more w new all d p ps h is =
    let a = slice_range w d p.span.start in
    let t = string_bytes p.text in
    let r = drop p.span.end (replaced w ps) in
    ap (λ x. x ++ r) (append_assoc new a t) ∙ append_assoc new (a ++ t) r
    ∙ ap (λ x. new ++ x) (sym (step d p ps w h)) ∙ is

-- the rest of the parts begins with the part that is read
pub rest_is : (ps : List Replacement) (i : ℕ) (p : Replacement) → i < length ps → p ≡ get_or ps i p →
    drop i ps ≡ p ∷ drop (i + 1) ps
rest_is ps i p within is = drop_more ps i p within ∙ ap (λ x. x ∷ drop (i + 1) ps) (sym is)

pub rest_ordered : (ps : List Replacement) (i : ℕ) (p : Replacement) (d e : ℕ) → i < length ps → p ≡ get_or ps i p →
    AreInOrder d (drop i ps) e → AreInOrder d (p ∷ drop (i + 1) ps) e
rest_ordered ps i p d e within is h = subst (λ x. AreInOrder d x e) (rest_is ps i p within is) h
