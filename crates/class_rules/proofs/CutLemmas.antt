-- A text in three parts.
use Rattle.std.proofs.lemmas.Str.{chars-nil}
use Rattle.std.proofs.Common.{◌≡◌, ◌==◌, Bool, true, chars, [], ℕ, ◌+◌, ◌≤◌, List, ◌++◌, length, take, drop, sym, ap, ◌∙◌, arith}
use Rattle.std.proofs.lemmas.List.{take-append-drop, append_assoc, length-take-le, nil_from_length}
use Rattle.std.proofs.lemmas.Bool.Decides.{Decides-eqb}
use Rattle.std.proofs.lemmas.List.Folds.{drop_split}
use Rattle.std.specs.List.{slice_range}
use Rattle.fancy_syntax.specs.declared.span.Span.{Span}
use Rattle.class_rules.specs.ClassSource.{IsTextAt}

-- a text that is cut at e, and what is before e at s
pub cut_parts : (t front before part after : List ℕ) (s e : ℕ) → front ≡ take e t → after ≡ drop e t →
    before ≡ take s front → part ≡ drop s front → t ≡ before ++ (part ++ after)
cut_parts t front before part after s e f a b p =
    sym (take-append-drop e t)
    ∙ ap (λ x. x ++ drop e t) (sym f)
    ∙ ap (λ x. front ++ x) (sym a)
    ∙ ap (λ x. x ++ after) (sym (take-append-drop s front))
    ∙ append_assoc (take s front) (drop s front) after
    ∙ ap (λ x. x ++ (drop s front ++ after)) (sym b)
    ∙ ap (λ x. before ++ (x ++ after)) (sym p)

-- a part of a text from one position to another
pub text_at : (t part : List ℕ) (span : Span) → part ≡ slice_range t span.start span.end →
    length part + span.start ≡ span.end → span.end ≤ length t → IsTextAt t span part
text_at t part span is ends within =
    let ordered : span.start ≤ span.end = omega (arith, ends) in (
      take span.start t,
      drop span.end t,
      (
        sym (take-append-drop span.start t)
            ∙ ap (λ x. take span.start t ++ x) (drop_split t span.start span.end ordered)
            ∙ ap (λ x. take span.start t ++ (x ++ drop span.end t)) (sym is),
        length-take-le span.start t (omega (arith, within, ordered)),
        omega (arith, ends, length-take-le span.start t (omega (arith, within, ordered))),
      ),
    )

-- an empty text has no characters
pub empty_chars : (s : List ℕ) (b : Bool) → b ≡ (length s == 0) → b ≡ true → chars s ≡ []
empty_chars s b h is = ap chars (nil_from_length s ((Decides-eqb (length s) 0).0 (sym h ∙ is))) ∙ chars-nil
