-- One step of a run of digits, with the number of digits to come.
use Rattle.std.proofs.Common.{◌≡◌, ◌≢◌, add-one, ℕ, suc, ◌+◌, ◌*◌, ◌-◌, ◌<◌, ◌≤◌, ◌^◌, Bool, true, false, Some, None}
use Rattle.std.proofs.Common.{refl, ap, ◌∙◌, arith, nat_lt}
use Rattle.std.proofs.Math.Nat.{pow-suc, pow-le-pow_right}
use Rattle.std.proofs.lemmas.Bool.Decides.{nat_tests}
use Prim.Native.Char.{code}
use Rattle.fancy_lex.specs.ErrorTable.{code_not_read}
use Rattle.fancy_lex.specs.Text.{Text, strip}
use Rattle.fancy_lex.specs.LayoutSteps.{layout}
use Rattle.fancy_lex.specs.Reading.{gives, fails, Says, layout_reading}
use Rattle.fancy_lex.specs.declared.error.ReadError.{ReadError}
use Rattle.fancy_lex.proofs.ReadingLemmas.{says_first}
use Rattle.fancy_lex.specs.Hex.{fixed_digits, hex_digit, hex_digits, closing_brace}

-- the number of digits still to come
one_more : (w i : ℕ) → i < w → w - i ≡ suc (w - (i + 1))
one_more w i h = omega arith

pub fixed_step : (w i v d : ℕ) (t r : Text) → i < w → hex_digit t ≡ Some (d, r) →
    fixed_digits (w - i) v t ≡ fixed_digits (w - (i + 1)) (v * 16 + d) r
unfolding fixed_digits
fixed_step w i v d t r h e = rw (one_more w i h, e) refl

pub fixed_short : (w i v : ℕ) (t : Text) → i < w → hex_digit t ≡ None → fixed_digits (w - i) v t ≡ None
unfolding fixed_digits
fixed_short w i v t h e = rw (one_more w i h, e) refl

pub fixed_done : (w i v : ℕ) (t : Text) → w ≤ i → fixed_digits (w - i) v t ≡ Some (v, t)
unfolding fixed_digits
fixed_done w i v t h = let none : w - i ≡ 0 = omega arith in rw none refl

module _ (x : Bool) (h i v : ℕ) (t : Text) where
  pub digits_step : (d : ℕ) (r u : Text) → i < 8 → hex_digit t ≡ Some (d, r) →
      layout_reading (layout x r) ≡ gives tt u →
      hex_digits x h (8 - i) (nat_lt 0 i) v t ≡ hex_digits x h (8 - (i + 1)) (nat_lt 0 (i + 1)) (v * 16 + d) u
  unfolding hex_digits
  digits_step d r u l e s =
      let some : nat_lt 0 (i + 1) ≡ true = grind (arith, nat_tests) in
      rw (one_more 8 i l, hex_digits, e, s, some) refl

  pub digits_error : (d : ℕ) (r : Text) (b : ReadError) → i < 8 → hex_digit t ≡ Some (d, r) →
      Says b (layout_reading (layout x r)) → Says b (hex_digits x h (8 - i) (nat_lt 0 i) v t)
  unfolding hex_digits
  digits_error d r b l e s = rw (one_more 8 i l, hex_digits, e) (says_first _ _ b s)

  digits_end : i < 8 → hex_digit t ≡ None →
      hex_digits x h (8 - i) (nat_lt 0 i) v t ≡ closing_brace h (nat_lt 0 i) v (strip (code "}") t)
  unfolding hex_digits
  digits_end l e = rw (one_more 8 i l, hex_digits, e) refl

  pub digits_none : i ≡ 0 → hex_digit t ≡ None → hex_digits x h (8 - i) (nat_lt 0 i) v t ≡ fails (code_not_read h)
  digits_none z e =
      let none : nat_lt 0 i ≡ false = grind (arith, nat_tests) in
      digits_end (omega arith) e ∙ ap (λ some. closing_brace h some v (strip (code "}") t)) none

  pub digits_some : i ≢ 0 → i < 8 → hex_digit t ≡ None →
      hex_digits x h (8 - i) (nat_lt 0 i) v t ≡ closing_brace h true v (strip (code "}") t)
  digits_some z l e =
      let some : nat_lt 0 i ≡ true = grind (arith, nat_tests) in
      digits_end l e ∙ ap (λ some. closing_brace h some v (strip (code "}") t)) some

  pub digits_done : 8 ≤ i → hex_digits x h (8 - i) (nat_lt 0 i) v t ≡ closing_brace h true v (strip (code "}") t)
  unfolding hex_digits
  digits_done l =
      let none : 8 - i ≡ 0 = omega arith in
      let some : nat_lt 0 i ≡ true = grind (arith, nat_tests) in
      rw (none, hex_digits, some) refl

-- one more digit keeps a value of up to eight digits in a word
pub push_small : (v d i : ℕ) → v < 16 ^ i → d < 16 → i < 8 → v * 16 + d < 16 ^ (i + 1)
push_small v d i a b l = rw (add-one, pow-suc) (omega arith)

pub push_fits : (v d i : ℕ) → v < 16 ^ i → d < 16 → i < 8 → v * 16 + d < 2 ^ 32
push_fits v d i a b l =
    let top : 16 ^ (i + 1) ≤ 16 ^ 8 = let up : i + 1 ≤ 8 = omega arith in pow-le-pow_right {n = 16} (omega arith) up in
    omega (arith, push_small v d i a b l)
