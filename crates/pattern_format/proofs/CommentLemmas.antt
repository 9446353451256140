-- Comments that are collected.
use Rattle.std.proofs.Common.{◌≡◌, ℕ, ◌+◌, ◌<◌, Bool, true, false, not, ◌&&◌, List, [], ◌∷◌, ◌++◌, length, take, map, get_or}
use Rattle.std.proofs.Common.{refl, sym, ap, ap₂, ◌∙◌, if◌then◌else◌}
use Rattle.std.proofs.lemmas.List.{map-append, take_more}
use Rattle.std.proofs.Common.{Bor}
use Rattle.std.specs.Prelude.{nat_eq}
use Rattle.std.specs.Cmp.Lexicographic.{pointwise}
use Rattle.std.proofs.lemmas.Bool.{and_parts, false≢true}
use Rattle.std.proofs.lemmas.Bool.Decides.{Decides-eqb}
use Rattle.std.proofs.lemmas.Slice.Eq.{slice_eq-Decides}
use Rattle.fancy_grammar.specs.Trivia.{Trivium, is_comment}
use Rattle.fancy_syntax.specs.TriviaViews.{trivium_of}
use Rattle.fancy_syntax.specs.declared.trivium.Trivium as code
use Rattle.pattern_format.specs.declared.style.Style.{Style}
use Rattle.pattern_format.specs.Formatted.{comments, add_comment, is_empty, kept_text}

if_append : (b : Bool) (text : List ℕ) (xs ys : List (List ℕ)) →
    (if b then text ∷ (xs ++ ys) else (xs ++ ys)) ≡ (if b then text ∷ xs else xs) ++ ys
if_append true text xs ys = refl
if_append false text xs ys = refl

comments_append : (s : Style) (pattern : List ℕ) (xs ys : List Trivium) →
    comments s pattern (xs ++ ys) ≡ comments s pattern xs ++ comments s pattern ys
comments_append s pattern [] ys = refl
comments_append s pattern (x ∷ xs) ys =
    let text = kept_text s pattern x in
    ap (add_comment s (is_comment x.kind) text) (comments_append s pattern xs ys)
    ∙ if_append (is_comment x.kind && not (is_empty s text)) text (comments s pattern xs) (comments s pattern ys)

-- one more of the trivia is passed
pub one_more : (s : Style) (pattern : List ℕ) (xs : List code.Trivium) (i : ℕ) (d : code.Trivium) (ts us : List (List ℕ)) →
    i < length xs → ts ≡ comments s pattern (map trivium_of (take i xs)) →
    us ≡ ts ++ comments s pattern (trivium_of (get_or xs i d) ∷ []) →
    us ≡ comments s pattern (map trivium_of (take (i + 1) xs))
one_more s pattern xs i d ts us lt before next =
    let x = get_or xs i d in
    next ∙ ap (λ l. l ++ comments s pattern (trivium_of x ∷ [])) before
    ∙ sym (comments_append s pattern (map trivium_of (take i xs)) (trivium_of x ∷ []))
    ∙ ap (comments s pattern) (sym (map-append trivium_of (take i xs) (x ∷ [])))
    ∙ ap (λ l. comments s pattern (map trivium_of l)) (sym (take_more xs i d lt))

-- texts that are compared
pub texts_equal : (xs ys : List (Bor (List ℕ))) → pointwise (λ x y. pointwise nat_eq x.now y.now) xs ys ≡ true →
    map (λ t. t.now) xs ≡ map (λ t. t.now) ys
texts_equal [] [] e = refl
texts_equal [] (y ∷ ys) e = absurd (false≢true e)
texts_equal (x ∷ xs) [] e = absurd (false≢true e)
texts_equal (x ∷ xs) (y ∷ ys) e =
    let both = and_parts _ _ e in
    ap₂ ◌∷◌ ((slice_eq-Decides Decides-eqb x.now y.now (pointwise nat_eq x.now y.now) refl).0 both.0)
    (texts_equal xs ys both.1)
