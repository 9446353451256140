-- What is shown for nodes, one by one.
use Rattle.std.proofs.Common.{◌≡◌, ℕ, ◌+◌, ◌<◌, Bool, List, [], ◌∷◌, ◌++◌, ap, sym, ◌∙◌}
use Rattle.std.proofs.Common.{length, take, map, get_or, set, zero, suc, refl, arith}
use Rattle.std.specs.Prelude.{insert}
use Rattle.std.proofs.lemmas.List.{map-append, take_more}
use Rattle.fancy_grammar.specs.Spans.{Span}
use Rattle.fancy_syntax.specs.Log.{shown}
use Rattle.fancy_syntax.specs.declared.grammar.recorded.Recorded.{Recorded}
use Rattle.fancy_syntax.proofs.RecordingLemmas.{shown_append}

-- the result for the nodes so far, with the result for the next
pub shown_next : (f : Span → Span) (named : Bool) (xs : List Recorded) (i : ℕ) (d : Recorded) (ys zs : List Span) →
    i < length xs → ys ≡ map f (shown named (take i xs)) →
    zs ≡ ys ++ map f (shown named (get_or xs i d ∷ [])) → zs ≡ map f (shown named (take (i + 1) xs))
shown_next f named xs i d ys zs lt before next =
    next ∙ ap (λ l. l ++ map f (shown named (get_or xs i d ∷ []))) before
    ∙ sym (map-append f (shown named (take i xs)) (shown named (get_or xs i d ∷ [])))
    ∙ ap (map f) (sym (shown_append named (take i xs) (get_or xs i d ∷ []))
    ∙ ap (shown named) (sym (take_more xs i d lt)))

-- ---- a node inserted before the last one

-- it is put in the place of the last, which then follows
pub inserted_before_last : {A : Type 0} (xs : List A) (i : ℕ) (x y : A) → length xs ≡ i + 1 → y ≡ get_or xs i y →
    set xs i x ++ y ∷ [] ≡ insert xs i x
inserted_before_last [] i x y n is = absurd (grind arith)
inserted_before_last (a ∷ []) zero x y n is = rw is refl
inserted_before_last (a ∷ b ∷ xs) zero x y n is = absurd (grind arith)
inserted_before_last (a ∷ xs) (suc i) x y n is = ap (a ∷◌) (inserted_before_last xs i x y (omega (arith, n)) is)
