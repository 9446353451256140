-- Characters that are written as they are.
use Rattle.std.proofs.Common.{◌≡◌, ℕ, ◌<◌, Bool, true, false, not, ◌&&◌, ◌||◌, [], ◌∷◌, Option, Some, None, refl, ap, sym}
use Rattle.std.proofs.Common.{◌++◌, codes, arith, is_some}
use Rattle.std.specs.Char.{is_ascii_alphanumeric}
use Rattle.std.proofs.lemmas.Bool.{and_parts, agree_below, agree_below_at}
use Rattle.std.proofs.lemmas.Bool.Decides.{nat_tests}
use Rattle.fancy_lex.specs.Characters.{is_among, ◌∈◌, metacharacters}
use Rattle.fancy_lex.specs.Escape.{letter_of}
use Rattle.fancy_lex.specs.declared.flags.Flags.{Flags}
use Rattle.fancy_grammar.specs.PatternLetters.{is_unseen, character}

-- no metacharacter, no layout, no character with an escape letter of its own, and visible
is_ordinary : ℕ → Bool
is_ordinary c =
    not (is_some (letter_of c))
    && (not (is_among c (metacharacters ++ codes "]}")) && (not (is_among c metacharacters) && (not (c ∈ " #") && not (is_unseen c))))

letter_is_ordinary : ℕ → Bool
letter_is_ordinary c = not (is_ascii_alphanumeric c) || is_ordinary c

all_are : agree_below letter_is_ordinary (λ c. true) 128 ≡ true
unfolding letter_is_ordinary is_ordinary
all_are = refl

ordinary : (c : ℕ) → is_ascii_alphanumeric c ≡ true → is_ordinary c ≡ true
unfolding letter_is_ordinary
ordinary c h =
    let small : c < 128 = grind (arith, nat_tests) in
    rw (sym (ap (λ b. not b || is_ordinary c) h)) (agree_below_at letter_is_ordinary (λ c. true) 128 c all_are small)

is_false : (b : Bool) → not b ≡ true → b ≡ false
is_false true e = absurd cc
is_false false e = refl

is_none : (o : Option ℕ) → not (is_some o) ≡ true → o ≡ None
is_none (Some c) e = absurd cc
is_none None e = refl

by_itself : (f : Flags) (casei : Bool) (c : ℕ) → is_ordinary c ≡ true → (casei || not f.casei) ≡ true →
    character f casei c ≡ c ∷ []
unfolding is_ordinary
by_itself f casei c h k =
    let (letter, others) = and_parts _ _ h in
    let (symbol, more) = and_parts _ _ others in
    let (caseless_symbol, rest) = and_parts _ _ more in
    let (layout, seen) = and_parts _ _ rest in
    at casei (is_none _ letter) (is_false _ symbol) (is_false _ caseless_symbol) (is_false _ layout) (is_false _ seen) k
  where
    keeps : (b : Bool) → b && false ≡ false
    keeps true = refl
    keeps false = refl

    at : (b : Bool) → letter_of c ≡ None → is_among c (metacharacters ++ codes "]}") ≡ false → is_among c metacharacters ≡ false →
        c ∈ " #" ≡ false → is_unseen c ≡ false → (b || not f.casei) ≡ true → character f b c ≡ c ∷ []
    at true letter symbol caseless_symbol layout seen k = rw (caseless_symbol, layout, keeps f.ignore_space, seen) refl
    at false letter symbol caseless_symbol layout seen k =
        rw (letter, symbol, layout, keeps f.ignore_space, is_false f.casei k, seen) refl

pub stands_for_itself : (f : Flags) (casei : Bool) (c : ℕ) → is_ascii_alphanumeric c ≡ true →
    (casei || not f.casei) ≡ true → character f casei c ≡ c ∷ []
stands_for_itself f casei c h k = by_itself f casei c (ordinary c h) k
