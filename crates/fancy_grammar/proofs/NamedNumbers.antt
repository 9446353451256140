-- The numbers of a name ascend, and they are those of the groups with that name.
use Rattle.std.proofs.Common.{◌≡◌, ℕ, zero, suc, ◌+◌, ◌<◌, ◌≤◌, ◌==◌, Bool, true, false, if◌then◌else◌, List, [], ◌∷◌}
use Rattle.std.proofs.Common.{length, Option, Some, None, map, filter_map, refl, subst, arith}
use Rattle.std.proofs.lemmas.Bool.Decides.{nat_tests}
use Rattle.std.proofs.lemmas.Slice.Eq.{bytes_eq-Decides}
use Rattle.std.specs.BTreeSet.{insert_key}
use Rattle.std.specs.List.{AllByRecursion, cons_option, list_any}
use Rattle.std.specs.Ordering.{match_ordering}
use Rattle.std.specs.Prelude.{fold, slice_get}
use Rattle.std.specs.declared.cmp.Ordering.{Ordering}
use Rattle.std.specs.declared.cmp.Ordering.TheVariants.{Less, Equal, Greater}
use Rattle.fancy_lex.specs.Text.{Text}
use Rattle.fancy_grammar.specs.Ranks.{Opening, is_name, numbers_from, numbers, name_cmp, names, named_groups}
use Rattle.fancy_grammar.specs.ParsedTree.{AscendingNumbers, AreNamed}

-- ---- they ascend

ascend_below : (j k n : ℕ) (l : List ℕ) → j ≤ k → AscendingNumbers k n l → AscendingNumbers j n l
ascend_below j k n [] h a = tt
ascend_below j k n (m ∷ l) h (a, b, c) = (omega (arith, h, a), b, c)

pub ascend_from : (n : ℕ) (w : Text) (l : List Opening) → AscendingNumbers n (n + length l) (numbers_from n w l)
ascend_from n w [] = tt
ascend_from n w (o ∷ l) = by_test (is_name w o.name)
    (subst (λ m. AscendingNumbers (n + 1) m (numbers_from (n + 1) w l)) same (ascend_from (n + 1) w l)) where
      same : n + 1 + length l ≡ n + suc (length l)
      same = omega arith

      by_test : (b : Bool) → AscendingNumbers (n + 1) (n + suc (length l)) (numbers_from (n + 1) w l) →
          AscendingNumbers n (n + suc (length l))
          (if b then (n + 1) ∷ numbers_from (n + 1) w l else numbers_from (n + 1) w l)
      by_test true h = (omega arith, omega arith, h)
      by_test false h = ascend_below n (n + 1) (n + suc (length l)) (numbers_from (n + 1) w l) (omega arith) h

-- ---- each name has a number

-- the name of one of the groups
abbrev Carried : List Opening → Text → Type 0
Carried l w = (n : ℕ) → 0 < length (numbers_from n w l)

carried_first : (o : Opening) (l : List Opening) (w : Text) → o.name ≡ Some w → Carried (o ∷ l) w
carried_first o l w e n = rw (e, (bytes_eq-Decides w w).1 refl) (omega arith)

carried_later : (o : Opening) (l : List Opening) (w : Text) → Carried l w → Carried (o ∷ l) w
carried_later o l w h n = by_test (is_name w o.name) where
  by_test : (b : Bool) → 0 < length (if b then (n + 1) ∷ numbers_from (n + 1) w l else numbers_from (n + 1) w l)
  by_test true = omega arith
  by_test false = h (n + 1)

all_later : (o : Opening) (l : List Opening) (ws : List Text) → AllByRecursion (Carried l) ws →
    AllByRecursion (Carried (o ∷ l)) ws
all_later o l [] h = tt
all_later o l (w ∷ ws) (h, hs) = (carried_later o l w h, all_later o l ws hs)

all_carried : (l : List Opening) → AllByRecursion (Carried l) (filter_map (λ o. o.name) l)
all_carried [] = tt
all_carried (o ∷ l) = by_name o.name refl (all_later o l (filter_map (λ o. o.name) l) (all_carried l)) where
  by_name : (x : Option Text) → o.name ≡ x → AllByRecursion (Carried (o ∷ l)) (filter_map (λ o. o.name) l) →
      AllByRecursion (Carried (o ∷ l)) (cons_option x (filter_map (λ o. o.name) l))
  by_name None e h = h
  by_name (Some w) e h = (carried_first o l w e, h)

module _ (P : Text → Type 0) where
  insert_all : (w : Text) (ws : List Text) → P w → AllByRecursion P ws → AllByRecursion P (insert_key name_cmp ws w)
  insert_all w [] h hs = (h, tt)
  insert_all w (x ∷ ws) h (a, hs) = by_order (name_cmp w x) (insert_all w ws h hs) where
    by_order : (r : Ordering) → AllByRecursion P (insert_key name_cmp ws w) →
        AllByRecursion P (match_ordering r (w ∷ x ∷ ws) (x ∷ ws) (x ∷ insert_key name_cmp ws w))
    by_order Less more = (h, (a, hs))
    by_order Equal more = (a, hs)
    by_order Greater more = (a, more)

  pub fold_all : (us ws : List Text) → AllByRecursion P us → AllByRecursion P ws →
      AllByRecursion P (fold (insert_key name_cmp) us ws)
  fold_all us [] h hs = h
  fold_all us (w ∷ ws) h (a, hs) = fold_all (insert_key name_cmp us w) ws (insert_all w us a h) hs

-- each name has numbers, which ascend from 1 up to how many groups have one
pub named_ascend : (l : List Opening) → AreNamed (length l) (named_groups l)
named_ascend l = each (names l) (fold_all (Carried l) [] (filter_map (λ o. o.name) l) tt (all_carried l)) where
  each : (ws : List Text) → AllByRecursion (Carried l) ws → AreNamed (length l) (map (λ w. (w, numbers w l)) ws)
  each [] h = tt
  each (w ∷ ws) (h, hs) = ((h 0, ascend w), each ws hs) where
    ascend : (w : Text) → AscendingNumbers 0 (length l) (numbers w l)
    ascend w = let same : 0 + length l ≡ length l = omega arith in
        subst (λ m. AscendingNumbers 0 m (numbers w l)) same (ascend_from 0 w l)

-- ---- they are those of its groups

-- whether the group has the name
abbrev pub carries : Text → Option Opening → Bool
carries w None = false
carries w (Some o) = is_name w o.name

number_from : (n k : ℕ) (w : Text) (l : List Opening) →
    list_any (λ j. j == n + suc k) (numbers_from n w l) ≡ carries w (slice_get l k)
number_from n k w [] = refl
number_from n zero w (o ∷ l) = by_test (is_name w o.name) where
  none_later : (m : ℕ) (l : List Opening) → n + 1 < suc m → list_any (λ j. j == n + 1) (numbers_from m w l) ≡ false
  none_later m [] h = refl
  none_later m (p ∷ l) h = by_later (is_name w p.name) (none_later (m + 1) l (omega (arith, h))) where
    by_later : (b : Bool) → list_any (λ j. j == n + 1) (numbers_from (m + 1) w l) ≡ false →
        list_any (λ j. j == n + 1) (if b then (m + 1) ∷ numbers_from (m + 1) w l else numbers_from (m + 1) w l) ≡ false
    by_later true e = let other : (m + 1 == n + 1) ≡ false = grind (arith, nat_tests) in rw (other, e) refl
    by_later false e = e

  by_test : (b : Bool) → list_any (λ j. j == n + 1)
      (if b then (n + 1) ∷ numbers_from (n + 1) w l else numbers_from (n + 1) w l) ≡ b
  by_test true = let here : (n + 1 == n + 1) ≡ true = grind (arith, nat_tests) in rw here refl
  by_test false = none_later (n + 1) l (omega arith)
number_from n (suc k) w (o ∷ l) = by_test (is_name w o.name) (number_from (n + 1) k w l) where
  by_test : (b : Bool) → list_any (λ j. j == n + 1 + suc k) (numbers_from (n + 1) w l) ≡ carries w (slice_get l k) →
      list_any (λ j. j == n + suc (suc k)) (if b then (n + 1) ∷ numbers_from (n + 1) w l else numbers_from (n + 1) w l)
      ≡ carries w (slice_get l k)
  by_test b e = by b (subst (λ m. list_any (λ j. j == m) (numbers_from (n + 1) w l) ≡ carries w (slice_get l k)) same e)
    where
      same : n + 1 + suc k ≡ n + suc (suc k)
      same = omega arith

      by : (b : Bool) → list_any (λ j. j == n + suc (suc k)) (numbers_from (n + 1) w l) ≡ carries w (slice_get l k) →
          list_any (λ j. j == n + suc (suc k))
          (if b then (n + 1) ∷ numbers_from (n + 1) w l else numbers_from (n + 1) w l)
          ≡ carries w (slice_get l k)
      by true e = let other : (n + 1 == n + suc (suc k)) ≡ false = grind (arith, nat_tests) in rw (other, e) refl
      by false e = e

-- k + 1 is a number of the name exactly if the group after the first k has the name
pub number_carried : (w : Text) (k : ℕ) (l : List Opening) →
    list_any (λ j. j == suc k) (numbers w l) ≡ carries w (slice_get l k)
number_carried w k l =
    let same : 0 + suc k ≡ suc k = omega arith in
    subst (λ m. list_any (λ j. j == m) (numbers w l) ≡ carries w (slice_get l k)) same (number_from 0 k w l)
