-- Whether a text contains a delimiter, and how the text can be split at it.
use Rattle.std.proofs.Common.{◌≡◌, ℕ, ◌==◌, List, [], ◌∷◌, refl, ap, ◌∙◌, arith, Bool, true, false, ◌||◌, Option, Some}
use Rattle.std.proofs.Common.{None}
use Rattle.std.proofs.Common.{option_map, if◌then◌else◌, is_some}
use Rattle.std.proofs.Math.Bool.{or-false}
use Rattle.std.specs.Borrow.{Bor}
use Rattle.std.proofs.lemmas.Bool.Decides.{nat_tests}
use Rattle.fancy_lex.specs.Characters.{is_among}
use Rattle.fancy_lex.specs.Text.{Text, cut_at}
use Rattle.fancy_lex.specs.Views.{parts}

same_test : (c d : ℕ) → (c == d) ≡ (d == c)
same_test c d = grind (arith, nat_tests)

some_if : (b : Bool) (x : Text × Text) (f : Text × Text → Text × Text) (o : Option (Text × Text)) →
    is_some (if b then Some x else option_map f o) ≡ (b || is_some o)
some_if true x f o = refl
some_if false x f None = refl
some_if false x f (Some a) = refl

pub is_some_cut : (delimiter : ℕ) (t : Text) → is_some (cut_at delimiter t) ≡ is_among delimiter t
is_some_cut delimiter [] = refl
is_some_cut delimiter (c ∷ []) =
    some_if (c == delimiter) ([], []) (λ p. (c ∷ p.0, p.1)) None ∙ or-false (c == delimiter) ∙ same_test c delimiter
is_some_cut delimiter (c ∷ d ∷ t) =
    some_if (c == delimiter) ([], d ∷ t) (λ p. (c ∷ p.0, p.1)) (cut_at delimiter (d ∷ t))
    ∙ ap (λ b. b || is_some (cut_at delimiter (d ∷ t))) (same_test c delimiter)
    ∙ ap (λ b. (delimiter == c) || b) (is_some_cut delimiter (d ∷ t))

pub is_some_parts : (o : Option (Bor (List ℕ) × Bor (List ℕ))) → is_some o ≡ is_some (parts o)
is_some_parts None = refl
is_some_parts (Some p) = refl
