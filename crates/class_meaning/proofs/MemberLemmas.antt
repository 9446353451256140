-- The members of sets of characters, as ranges.
use Rattle.std.proofs.Common.{◌≡◌, ℕ, ◌<◌, ◌≤◌, ◌⊎◌, inl, inr, Bool, true, false, not, IsTrue, eqb-true, eq-eqb, ◌&&◌, ◌||◌, ◌==◌, List, [], ◌∷◌, length, refl, sym, ap, ap₂, ◌∙◌, arith, ⊎_elim}
use Rattle.std.proofs.lemmas.Bool.{cases_lt, cases_Bool, both_ways, and_parts}
use Rattle.std.proofs.lemmas.Bool.Decides.{nat_tests}
use Rattle.std.specs.Char.{IsScalar}
use Rattle.regex_class.specs.Ranges.{Range, in_range, in_ranges, IsCanonical, HasExactly}
use Rattle.regex_class.proofs.RangesLemmas.{in_ranges-nil, in_ranges-cons, in_ranges-at, in_ranges-above_max, rises_from-at}
use Rattle.regex_hir.specs.Text.{is_scalar}
use Rattle.regex_syntax.proofs.SameLemmas.{in_ranges_single}

-- no canonical range leads above the last code point, so what holds up to there holds of every number
everywhere : (rs : List Range) (p : ℕ → Bool) → IsCanonical rs → HasExactly rs p → ((c : ℕ) → 0x10_FFFF < c → p c ≡ false) →
    (c : ℕ) → in_ranges rs c ≡ p c
everywhere rs p canonical exact none c =
    ⊎_elim
    (λ (above : 0x10_FFFF < c). in_ranges-above_max rs c canonical above ∙ sym (none c above))
    (λ (within : c ≤ 0x10_FFFF). exact c within)
    (cases_lt 0x10_FFFF c)

-- ---- the operations of classes, on every number

pub in_difference : (xs ys rs : List Range) → IsCanonical xs → IsCanonical rs →
    HasExactly rs (λ c. in_ranges xs c && not (in_ranges ys c)) → (c : ℕ) → in_ranges rs c ≡ (in_ranges xs c && not (in_ranges ys c))
in_difference xs ys rs of_xs canonical exact =
    everywhere rs _ canonical exact (λ c above. ap (λ b. b && not (in_ranges ys c)) (in_ranges-above_max xs c of_xs above))

pub in_intersection : (xs ys rs : List Range) → IsCanonical xs → IsCanonical rs →
    HasExactly rs (λ c. in_ranges xs c && in_ranges ys c) → (c : ℕ) → in_ranges rs c ≡ (in_ranges xs c && in_ranges ys c)
in_intersection xs ys rs of_xs canonical exact =
    everywhere rs _ canonical exact (λ c above. ap (λ b. b && in_ranges ys c) (in_ranges-above_max xs c of_xs above))

pub in_union : (xs ys rs : List Range) → IsCanonical xs → IsCanonical ys → IsCanonical rs →
    HasExactly rs (λ c. in_ranges xs c || in_ranges ys c) → (c : ℕ) → in_ranges rs c ≡ (in_ranges xs c || in_ranges ys c)
in_union xs ys rs of_xs of_ys canonical exact =
    everywhere rs _ canonical exact
    (λ c above. ap₂ ◌||◌ (in_ranges-above_max xs c of_xs above) (in_ranges-above_max ys c of_ys above))

pub in_single : (rs : List Range) (m : ℕ) → m ≤ 0x10_FFFF → IsCanonical rs → HasExactly rs (in_ranges ((m, m) ∷ [])) →
    (c : ℕ) → in_ranges rs c ≡ (c == m)
in_single rs m small canonical exact c =
    everywhere rs _ canonical exact (λ d above. in_ranges_single m d ∙ grind (arith, nat_tests)) c ∙ in_ranges_single m c

-- ---- characters

-- the code points that are no characters
abbrev pub surrogates : List Range
surrogates = (0xD800, 0xDFFF) ∷ []

scalar_outside : (c : ℕ) → c ≤ 0x10_FFFF → not (in_ranges surrogates c) ≡ is_scalar c
unfolding in_range
scalar_outside c h = grind (arith, nat_tests, in_ranges-cons (0xD800, 0xDFFF) [] c, in_ranges-nil c)

pub scalar_within : (c : ℕ) → IsScalar c → c ≤ 0x10_FFFF
scalar_within c h = grind (arith, nat_tests)

scalar_above : (c : ℕ) → 0x10_FFFF < c → is_scalar c ≡ false
scalar_above c h = grind (arith, nat_tests)

and_swap : (x y : Bool) → (x && y) ≡ (y && x)
and_swap true true = refl
and_swap true false = refl
and_swap false true = refl
and_swap false false = refl

and-false : (x : Bool) → (x && false) ≡ false
and-false true = refl
and-false false = refl

-- the difference of a class and the surrogates has its characters
pub without_surrogates : (class none rs : List Range) → IsCanonical rs → HasExactly none (in_ranges surrogates) →
    HasExactly rs (λ c. in_ranges class c && not (in_ranges none c)) → (c : ℕ) → in_ranges rs c ≡ (is_scalar c && in_ranges class c)
without_surrogates class none rs canonical exact difference =
    everywhere rs _ canonical
    (λ c within. difference c within ∙ and_swap (in_ranges class c) (not (in_ranges none c))
    ∙ ap (λ b. b && in_ranges class c) (ap not (exact c within) ∙ scalar_outside c within))
    (λ c above. ap (λ b. b && in_ranges class c) (scalar_above c above))

before_surrogates : (c : ℕ) → c ≤ 0xD7FF → is_scalar c ≡ true
before_surrogates c h = grind (arith, nat_tests)

-- a class that ends before the surrogates has only characters
pub all_characters : (rs : List Range) → ((c : ℕ) → IsTrue (in_ranges rs c) → c ≤ 0xD7FF) →
    (c : ℕ) → in_ranges rs c ≡ true → is_scalar c ≡ true
all_characters rs within c has = before_surrogates c (within c has)

pub without_surrogates_already : (rs : List Range) → ((c : ℕ) → IsTrue (in_ranges rs c) → c ≤ 0xD7FF) →
    (c : ℕ) → in_ranges rs c ≡ (is_scalar c && in_ranges rs c)
without_surrogates_already rs within c =
    ⊎_elim
    (λ (has : in_ranges rs c ≡ true). sym (ap (λ b. b && in_ranges rs c) (all_characters rs within c has)))
    (λ (has_not : in_ranges rs c ≡ false). has_not ∙ sym (ap (λ b. is_scalar c && b) has_not ∙ and-false (is_scalar c)))
    (cases_Bool (in_ranges rs c))

-- ---- ranges without a member

ranges_of_none : (rs : List Range) → length rs ≡ 0 → (c : ℕ) → in_ranges rs c ≡ false
ranges_of_none [] e c = in_ranges-nil c
ranges_of_none (r ∷ rs) e c = absurd (omega (arith, e))

has_its_start : (r : Range) → r.0 ≤ r.1 → in_range r r.0 ≡ true
unfolding in_range
has_its_start r ordered = grind (arith, nat_tests)

-- canonical ranges have a member, or there is no range
member_or_none : (rs : List Range) → IsCanonical rs → ((c : ℕ) × (in_ranges rs c ≡ true)) ⊎ (length rs ≡ 0)
member_or_none [] canonical = inr refl
member_or_none (r ∷ rs) canonical =
    let at_first = rises_from-at 0 (r ∷ rs) 0 canonical (omega arith) in
    inl (r.0, in_ranges-at (r ∷ rs) 0 r.0 (omega arith) (has_its_start r (omega (arith, at_first.1))))

-- the test of the length of canonical ranges says whether they have a member
pub empty_test : (rs : List Range) (n : ℕ) (b : Bool) → IsCanonical rs → n ≡ length rs → b ≡ (n == 0) →
    (IsTrue b → (c : ℕ) → in_ranges rs c ≡ false) × (((c : ℕ) → in_ranges rs c ≡ false) → IsTrue b)
empty_test rs n b canonical len test = (
  λ empty. ranges_of_none rs (sym len ∙ eqb-true n 0 (sym test ∙ empty)),
  λ none. ⊎_elim
      (λ (found : (c : ℕ) × (in_ranges rs c ≡ true)). absurd (both_ways _ (none found.0) found.1))
      (λ (no_range : length rs ≡ 0). test ∙ eq-eqb n 0 (len ∙ no_range))
      (member_or_none rs canonical),
)

pub subset_test : (xs ys rs : List Range) (n : ℕ) (b : Bool) → IsCanonical rs → n ≡ length rs → b ≡ (n == 0) →
    ((c : ℕ) → in_ranges rs c ≡ (in_ranges xs c && not (in_ranges ys c))) →
    (IsTrue b → (c : ℕ) → IsTrue (in_ranges xs c) → IsTrue (in_ranges ys c))
    × (((c : ℕ) → IsTrue (in_ranges xs c) → IsTrue (in_ranges ys c)) → IsTrue b)
subset_test xs ys rs n b canonical len test members =
    let emptiness = empty_test rs n b canonical len test in (
      λ empty c has. grind (arith, members c, emptiness.0 empty c, has),
      λ within. emptiness.1 (λ c. grind (arith, members c, within c)),
    )

pub overlap_test : (xs ys rs : List Range) (n : ℕ) (b : Bool) → IsCanonical rs → n ≡ length rs → b ≡ (n == 0) →
    ((c : ℕ) → in_ranges rs c ≡ (in_ranges xs c && in_ranges ys c)) →
    (IsTrue (not b) → (c : ℕ) × IsTrue (in_ranges xs c) × IsTrue (in_ranges ys c))
    × (((c : ℕ) × IsTrue (in_ranges xs c) × IsTrue (in_ranges ys c)) → IsTrue (not b))
overlap_test xs ys rs n true canonical len test members =
    let none = (empty_test rs n true canonical len test).0 refl in (
      λ no. absurd (grind (arith, no)),
      λ found. absurd (grind (arith, members found.0, none found.0, found.1, found.2)),
    )
overlap_test xs ys rs n false canonical len test members = (
  λ _. ⊎_elim
      (λ (found : (c : ℕ) × (in_ranges rs c ≡ true)). let both = and_parts _ _ (sym (members found.0) ∙ found.1) in (found.0, both.0, both.1))
      (λ (no_range : length rs ≡ 0). absurd (both_ways _ (sym (test ∙ eq-eqb n 0 (len ∙ no_range))) refl))
      (member_or_none rs canonical),
  λ _. refl,
)
