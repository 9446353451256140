-- Group information that is compared.
use Rattle.std.proofs.Common.{◌≡◌, ℕ, Bool, true, ◌&&◌, List, [], ◌∷◌, Vec, Global, String, refl, ap₂, map}
use Rattle.std.specs.Prelude.{chars, nat_eq, string_bytes, string_eq}
use Rattle.std.specs.Cmp.Lexicographic.{pointwise}
use Rattle.std.proofs.lemmas.Bool.{and_parts, false≢true}
use Rattle.std.proofs.lemmas.Bool.Decides.{Decides-eqb}
use Rattle.std.proofs.lemmas.Slice.Eq.{slice_eq-Decides}
use Rattle.fancy_grammar.specs.Groups.{entry_of}

-- a name with the numbers of its groups
abbrev Entry : Type 0
Entry = String Global × Vec ℕ Global

-- whether the numbers are equal, and the names, and their numbers
abbrev same_numbers : List ℕ → List ℕ → Bool
same_numbers = pointwise nat_eq

abbrev pub same_entry : Entry → Entry → Bool
same_entry p q = string_eq p.0 q.0 && same_numbers p.1.items q.1.items

numbers_equal : (xs ys : List ℕ) → same_numbers xs ys ≡ true → xs ≡ ys
numbers_equal xs ys = (slice_eq-Decides Decides-eqb xs ys (same_numbers xs ys) refl).0

entries_equal : (p q : Entry) → same_entry p q ≡ true → entry_of p ≡ entry_of q
entries_equal (s, v) (t, w) e =
    let both = and_parts _ _ e in
    ap₂ (λ a b. (chars a, b)) (numbers_equal (string_bytes s) (string_bytes t) both.0)
    (numbers_equal v.items w.items both.1)

pub names_equal : (ms ns : List Entry) → pointwise same_entry ms ns ≡ true → map entry_of ms ≡ map entry_of ns
names_equal [] [] e = refl
names_equal [] (q ∷ qs) e = absurd (false≢true e)
names_equal (p ∷ ps) [] e = absurd (false≢true e)
names_equal (p ∷ ps) (q ∷ qs) e =
    let both = and_parts _ _ e in ap₂ ◌∷◌ (entries_equal p q both.0) (names_equal ps qs both.1)
