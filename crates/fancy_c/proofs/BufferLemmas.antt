-- Items written one after another.
use Rattle.std.proofs.Common.{◌≡◌, ℕ, ◌+◌, ◌<◌, ◌≤◌, List, length, map, set, get_or, ap, sym, ◌∙◌, zero-add, arith}
use Rattle.std.proofs.Math.Seq.{paste}
use Rattle.std.proofs.lemmas.List.{length-map, get_or-map}
use Rattle.std.proofs.lemmas.List.Edits.{paste_more}

-- one more row, which f makes of an item
pub mapped_put : {A B : Type 0} (f : A → B) (rows rows' : List B) (l : List A) (i : ℕ) (z : A) (x : B) →
    x ≡ f (get_or l i z) → rows' ≡ paste rows 0 (map f l) i → length l ≤ length rows → i < length l →
    set rows' i x ≡ paste rows 0 (map f l) (i + 1)
mapped_put f rows rows' l i z x is put capacity here =
    let s = map f l in
    let at : get_or s i (f z) ≡ f (get_or l i z) = get_or-map f l i z (f z) here in
    ap (λ d. set d i x) put
    ∙ ap (λ y. set (paste rows 0 s i) i y) (is ∙ sym at)
    ∙ ap (λ k. set (paste rows 0 s i) k (get_or s i (f z))) (sym (zero-add i))
    ∙ paste_more rows 0 s i (f z) (omega (arith, here, capacity)) (omega (arith, length-map l f, here))
