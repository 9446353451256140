-- The id characters of ASCII are the letters, the digits and `_`.
use Rattle.std.proofs.Common.{◌≡◌, ℕ, ◌<◌, Bool, true, false, not, ◌&&◌, ◌||◌, ◌==◌, zero, suc, refl, ◌∙◌, subst, arith}
use Rattle.std.proofs.lemmas.Bool.{and_parts}
use Rattle.std.proofs.lemmas.Bool.Decides.{nat_tests}
use Prim.Native.Char.{code}
use Rattle.std.specs.Char.{is_ascii, is_ascii_alphanumeric}
use Rattle.ucd_category.specs.GeneralCategory.{general_category}
use Rattle.ucd_category.specs.GeneralCategoryRows.{general_category_rows}
use Rattle.ucd_derived.specs.AlphabeticRanges.{alphabetic_ranges}
use Rattle.ucd_derived.specs.Binary.{is_alphabetic}
use Rattle.ucd_table.specs.Rows.{in_ranges, value_in}
use Rattle.fancy_lex.specs.Id.{is_id_char}

-- a letter, a digit or `_`
abbrev is_ascii_id_char : ℕ → Bool
is_ascii_id_char c = is_ascii_alphanumeric c || c == code "_"

agrees : Bool → Bool → Bool
agrees true b = b
agrees false b = not b

agrees_same : (a b : Bool) → agrees a b ≡ true → a ≡ b
unfolding agrees
agrees_same true true h = refl
agrees_same false false h = refl
agrees_same true false h = absurd cc
agrees_same false true h = absurd cc

-- the two tests agree on the first n characters
all_agree : ℕ → Bool
all_agree zero = true
all_agree (suc n) = agrees (is_id_char n) (is_ascii_id_char n) && all_agree n

ids_agree : (n c : ℕ) → all_agree n ≡ true → c < n → is_id_char c ≡ is_ascii_id_char c
unfolding all_agree
ids_agree zero c all h = absurd (omega (arith, h))
ids_agree (suc n) c all h = let both = and_parts _ _ all in cases (c == n) refl (ids_agree n c both.1) both.0 where
  cases : (b : Bool) → (c == n) ≡ b → (c < n → is_id_char c ≡ is_ascii_id_char c) →
      agrees (is_id_char n) (is_ascii_id_char n) ≡ true → is_id_char c ≡ is_ascii_id_char c
  cases true e below here =
      let same : n ≡ c = grind (arith, nat_tests) in
      subst (λ d. is_id_char d ≡ is_ascii_id_char d) same (agrees_same _ _ here)
  cases false e below here = below (grind (arith, nat_tests))

ascii_agrees : all_agree 128 ≡ true
unfolding is_id_char is_alphabetic in_ranges alphabetic_ranges general_category value_in general_category_rows agrees
    all_agree
ascii_agrees = refl

pub alphanumeric_id : (c : ℕ) → is_ascii_alphanumeric c ≡ true → is_id_char c ≡ true
alphanumeric_id c h =
    let small : c < 128 = grind (arith, nat_tests) in ids_agree 128 c ascii_agrees small ∙ rw h refl

pub other_id : (c : ℕ) → is_ascii_alphanumeric c ≡ false → is_ascii c ≡ true → is_id_char c ≡ (c == code "_")
other_id c h a = let small : c < 128 = grind (arith, nat_tests) in ids_agree 128 c ascii_agrees small ∙ rw h refl

pub ruleset ascii_ids = (alphanumeric_id, other_id)
