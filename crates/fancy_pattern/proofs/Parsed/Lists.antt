-- What holds for each element of a list.
use Rattle.std.proofs.Common.{◌≡◌, ◌+◌, Bool, true, false, if◌then◌else◌, List, [], ◌∷◌, ◌++◌, length, filter}
use Rattle.std.proofs.Common.{arith}
use Rattle.std.specs.List.{AllByRecursion}

-- what holds for each element of two lists together holds for each element of either
pub each_split : {A : Type 0} (P : A → Type 0) (l m : List A) → AllByRecursion P (l ++ m) →
    AllByRecursion P l × AllByRecursion P m
each_split P [] m h = (tt, h)
each_split P (x ∷ l) m h = let (a, b) = each_split P l m h.1 in ((h.0, a), b)

-- for each element that passes
pub each_filtered : {A : Type 0} (P : A → Type 0) (p : A → Bool) (l : List A) → AllByRecursion P l →
    AllByRecursion P (filter p l)
each_filtered P p [] h = tt
each_filtered {A} P p (x ∷ l) h = by_test (p x) (each_filtered P p l h.1)
  where
    by_test : (b : Bool) → AllByRecursion P (filter p l) →
        AllByRecursion P (if b then x ∷ filter p l else filter p l)
    by_test true k = (h.0, k)
    by_test false k = k

-- how many elements of two lists pass
pub length_filtered : {A : Type 0} (p : A → Bool) (l m : List A) →
    length (filter p (l ++ m)) ≡ length (filter p l) + length (filter p m)
length_filtered p [] m = omega arith
length_filtered {A} p (x ∷ l) m = by_test (p x) (length_filtered p l m)
  where
    by_test : (b : Bool) → length (filter p (l ++ m)) ≡ length (filter p l) + length (filter p m) →
        length (if b then x ∷ filter p (l ++ m) else filter p (l ++ m))
        ≡ length (if b then x ∷ filter p l else filter p l) + length (filter p m)
    by_test true h = omega (arith, h)
    by_test false h = h
