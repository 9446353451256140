-- Steps of the definitions of positions, by the tests of the code.
use Rattle.std.proofs.Common.{◌≡◌, ◌≢◌, ◌<◌, ◌≤◌, ℕ, ◌-◌, zero, suc, Bool, true, false, [], ◌∷◌, Some, None, refl, ap, sym, ◌∙◌, arith}
use Rattle.std.proofs.Common.{if◌then◌else◌, ◌==◌, ◌||◌, nat_le}
use Rattle.std.specs.Prelude.{option_and_then, unwrap_or}
use Rattle.std.proofs.lemmas.Bool.Decides.{nat_tests}
use Prim.Native.Char.{code}
use Rattle.editor_documents.specs.Position.{Text, units, ends_line, after_line_feed, next_line, from_line, from_character}
use Rattle.editor_documents.specs.declared.position.Encoding.{Encoding}

-- ---- lines

module _ (t : Text) where
  pub feed_none : t ≡ [] → after_line_feed t ≡ t
  feed_none e = grind (arith, nat_tests)

  pub line_none : t ≡ [] → next_line t ≡ None
  unfolding next_line
  line_none e = ap next_line e

  module _ (c : ℕ) (r : Text) (e : t ≡ c ∷ r) where
    step : next_line t ≡ (if c == code "\n" then Some r else if c == code "\r" then Some (after_line_feed r) else next_line r)
    unfolding next_line
    step = ap next_line e

    pub feed_after : c ≡ code "\n" → after_line_feed t ≡ r
    feed_after h = grind (arith, nat_tests)

    pub feed_other : c ≢ code "\n" → after_line_feed t ≡ t
    feed_other h = grind (arith, nat_tests)

    pub line_feed : c ≡ code "\n" → next_line t ≡ Some r
    line_feed h = let s = step in grind (arith, nat_tests)

    pub line_return : c ≢ code "\n" → c ≡ code "\r" → next_line t ≡ Some (after_line_feed r)
    line_return h k = let s = step in grind (arith, nat_tests)

    pub line_goes_on : c ≢ code "\n" → c ≢ code "\r" → next_line t ≡ next_line r
    line_goes_on h k = let s = step in grind (arith, nat_tests)

pub first_line : (n : ℕ) (t : Text) → n ≤ 0 → from_line n t ≡ Some t
unfolding from_line
first_line zero t h = refl
first_line (suc n) t h = absurd (omega arith)

pub one_line : (n : ℕ) (t : Text) → n ≡ 1 → from_line n t ≡ Some (unwrap_or (next_line t) [])
unfolding from_line
one_line n t h = ap (λ m. from_line m t) h

pub next_lines : (n : ℕ) (t : Text) → 1 < n → from_line n t ≡ option_and_then (from_line (n - 1)) (next_line t)
unfolding from_line
next_lines zero t h = absurd (omega arith)
next_lines (suc zero) t h = absurd (omega arith)
next_lines (suc (suc n)) t h =
    let same : suc n ≡ suc (suc n) - 1 = omega arith in ap (λ m. option_and_then (from_line m) (next_line t)) same

-- ---- characters of a line

pub at_start : (e : Encoding) (n : ℕ) (t : Text) → n ≤ 0 → from_character e n t ≡ Some t
unfolding from_character
at_start e n [] h = refl
at_start e n (c ∷ t) h = started (n == 0) (zero_is n h) where
  zero_is : (n : ℕ) → n ≤ 0 → (n == 0) ≡ true
  zero_is n h = grind (arith, nat_tests)

  started : (b : Bool) → b ≡ true →
      (if b || ends_line c then Some (c ∷ t) else if nat_le (units e c) n then from_character e (n - units e c) t else None)
      ≡ Some (c ∷ t)
  started true q = refl
  started false q = absurd (cc)

module _ (e : Encoding) (n : ℕ) (t : Text) where
  pub at_end : t ≡ [] → from_character e n t ≡ Some t
  unfolding from_character
  at_end h = ap (from_character e n) h ∙ ap Some (sym h)

  module _ (c : ℕ) (r : Text) (is : t ≡ c ∷ r) where
    character_step : from_character e n t ≡
        (if (n == 0) || ends_line c then Some (c ∷ r)
        else if nat_le (units e c) n then from_character e (n - units e c) r else None)
    unfolding from_character
    character_step = ap (from_character e n) is

    pub at_line_end : ends_line c ≡ true → from_character e n t ≡ Some t
    at_line_end h = let s = character_step in grind (arith, nat_tests)

    pub past_character : 0 < n → ends_line c ≡ false → units e c ≤ n → from_character e n t ≡ from_character e (n - units e c) r
    past_character pos h k = let s = character_step in grind (arith, nat_tests)

    pub inside_character : 0 < n → ends_line c ≡ false → n < units e c → from_character e n t ≡ None
    inside_character pos h k = let s = character_step in grind (arith, nat_tests)
