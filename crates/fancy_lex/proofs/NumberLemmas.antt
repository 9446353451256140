-- One step of a number, and the part of the text that a number is.
use Rattle.std.proofs.Common.{◌≡◌, ℕ, ◌+◌, ◌*◌, ◌-◌, ◌^◌, ◌<◌, ◌≤◌, if◌then◌else◌, Bool, true, false, []}
use Rattle.std.proofs.Common.{◌∷◌, ◌++◌, length, Some, None, ap, sym, ◌∙◌, refl, arith}
use Rattle.std.proofs.lemmas.Bool.Decides.{nat_tests}
use Rattle.std.specs.Char.{is_ascii_digit}
use Prim.Native.Char.{code}
use Rattle.fancy_lex.specs.Text.{Text}
use Rattle.fancy_lex.specs.Number.{digit_code, run, at_digit, number}

pub digit_is : (d : ℕ) → d < 10 → is_ascii_digit (digit_code d) ≡ true
digit_is d h = grind (arith, nat_tests)

pub run_step : (n : ℕ) (t : Text) (d : ℕ) (r : Text) → t ≡ digit_code d ∷ r → d < 10 → run n t ≡ run (n * 10 + d) r
unfolding run
run_step n t d r e h =
    let back : digit_code d - code "0" ≡ d = omega arith in
    rw (e, run, digit_is d h, back) refl

pub run_first : (t : Text) (d : ℕ) (r : Text) → t ≡ digit_code d ∷ r → d < 10 → run 0 t ≡ run d r
run_first t d r e h = let same : 0 * 10 + d ≡ d = omega arith in run_step 0 t d r e h ∙ ap (λ n. run n r) same

pub run_stop : (n : ℕ) (t : Text) → at_digit t ≡ false → run n t ≡ (n, t)
unfolding run
run_stop n [] e = refl
run_stop n (c ∷ r) e = rw e refl

pub at_digit_is : (t : Text) (d : ℕ) (r : Text) → t ≡ digit_code d ∷ r → d < 10 → at_digit t ≡ true
at_digit_is t d r e h = rw e (digit_is d h)

-- the text after the digits does not depend on the digits before
run_after : (n m : ℕ) (t : Text) → (run n t).1 ≡ (run m t).1
unfolding run
run_after n m [] = refl
run_after n m (c ∷ t) =
    let d = c - code "0" in
    at _ _ (is_ascii_digit c) (run_after (n * 10 + d) (m * 10 + d) t)
  where
    at : (a b : ℕ × Text) (is : Bool) → a.1 ≡ b.1 → (if is then a else (n, c ∷ t)).1 ≡ (if is then b else (m, c ∷ t)).1
    at a b true h = h
    at a b false h = refl

pub after_step : (t : Text) (d : ℕ) (r : Text) → t ≡ digit_code d ∷ r → d < 10 → (run 0 t).1 ≡ (run 0 r).1
after_step t d r e h = ap (λ (p : ℕ × Text). p.1) (run_first t d r e h) ∙ run_after d 0 r

-- digits make no number smaller
run_grows : (n : ℕ) (t : Text) → n ≤ (run n t).0
unfolding run
run_grows n [] = omega arith
run_grows n (c ∷ t) =
    let more = run_grows (n * 10 + (c - code "0")) t in
    at _ (is_ascii_digit c) (omega (arith, more))
  where
    at : (a : ℕ × Text) (is : Bool) → n ≤ a.0 → n ≤ (if is then a else (n, c ∷ t)).0
    at a true h = h
    at a false h = omega arith

-- a number that does not fit in a word does not fit with more digits either
pub run_beyond : (n : ℕ) (t : Text) (d : ℕ) (r v : Text) → t ≡ digit_code d ∷ r → d < 10 → 2 ^ 64 ≤ n * 10 + d →
    (run 0 r).1 ≡ v → (m : ℕ) × (run n t ≡ (m, v)) × (2 ^ 64 ≤ m)
run_beyond n t d r v e h beyond left =
    let more = run_grows (n * 10 + d) r in (
      (run (n * 10 + d) r).0,
      run_step n t d r e h ∙ ap (λ u. ((run (n * 10 + d) r).0, u)) (run_after _ 0 r ∙ left),
      omega (arith, beyond, more),
    )

pub number_none : (t : Text) → at_digit t ≡ false → number t ≡ None
unfolding number
number_none t e = rw e refl

pub number_some : (t : Text) → at_digit t ≡ true → number t ≡ Some (run 0 t)
unfolding number
number_some t e = rw e refl

pub number_of_one_digit : (t : Text) (d : ℕ) (r : Text) → t ≡ (d + 48) ∷ r → d < 10 → at_digit r ≡ false →
    number t ≡ Some (d, r)
number_of_one_digit t d r e h stop =
    number_some t (at_digit_is t d r e h) ∙ ap Some (run_first t d r e h ∙ run_stop d r stop)

pub number_of_more_digits : (t : Text) (d : ℕ) (r : Text) (e : ℕ) (s : Text) → t ≡ digit_code d ∷ r → d < 10 →
    r ≡ digit_code e ∷ s → e < 10 → number t ≡ Some (run (d * 10 + e) s)
number_of_more_digits t d r e s p h q k =
    number_some t (at_digit_is t d r p h) ∙ ap Some (run_first t d r p h ∙ run_step d r e s q k)

pub ruleset number_steps = (run_step, run_first, run_stop, at_digit_is, number_none, number_some)

-- ---- the part of the text that a number is

-- the digits at the front
abbrev pub digits_of : Text → Text
digits_of [] = []
digits_of (c ∷ t) = if is_ascii_digit c then c ∷ digits_of t else []

digits_cut : (n : ℕ) (t : Text) → t ≡ digits_of t ++ (run n t).1
unfolding run
digits_cut n [] = refl
digits_cut n (c ∷ t) = at (is_ascii_digit c) _ (digits_cut (n * 10 + (c - code "0")) t) where
  at : (b : Bool) (p : ℕ × Text) → t ≡ digits_of t ++ p.1 →
      c ∷ t ≡ (if b then c ∷ digits_of t else []) ++ (if b then p else (n, c ∷ t)).1
  at true p e = ap (λ u. c ∷ u) e
  at false p e = refl

-- by themselves they write the same number
digits_alone : (n : ℕ) (t : Text) → run n (digits_of t) ≡ ((run n t).0, [])
unfolding run
digits_alone n [] = refl
digits_alone n (c ∷ t) = at (is_ascii_digit c) refl _ (digits_alone (n * 10 + (c - code "0")) t) where
  at : (b : Bool) → is_ascii_digit c ≡ b → (p : ℕ × Text) →
      run (n * 10 + (c - code "0")) (digits_of t) ≡ (p.0, []) →
      run n (if b then c ∷ digits_of t else []) ≡ ((if b then p else (n, c ∷ t)).0, [])
  at true e p h = rw (run, e) h
  at false e p h = refl

digits_first : (t : Text) → at_digit (digits_of t) ≡ at_digit t
digits_first [] = refl
digits_first (c ∷ t) = at (is_ascii_digit c) refl where
  at : (b : Bool) → is_ascii_digit c ≡ b → at_digit (if b then c ∷ digits_of t else []) ≡ b
  at true e = e
  at false e = refl

digits_some : (t : Text) → at_digit t ≡ true → 0 < length (digits_of t)
digits_some [] e = absurd cc
digits_some (c ∷ t) e = rw e (omega arith)

-- a number is the digits at the front, one or more, which by themselves write the same number
pub record Taken (t v : Text) (k : ℕ) : Type 0 where
  pub cut : t ≡ digits_of t ++ v
  pub some : 0 < length (digits_of t)
  pub alone : number (digits_of t) ≡ Some (k, [])
  pub left : (run 0 t).1 ≡ v

pub number_taken : (t v : Text) (k : ℕ) → number t ≡ Some (k, v) → Taken t v k
number_taken t v k e = at (at_digit t) refl where
  taken : at_digit t ≡ true → run 0 t ≡ (k, v) → Taken t v k
  taken d r =
      let left = ap (λ (p : ℕ × Text). p.1) r in
      record {
        cut = digits_cut 0 t ∙ ap (λ u. digits_of t ++ u) left;
        some = digits_some t d;
        alone = number_some (digits_of t) (digits_first t ∙ d)
            ∙ ap Some (digits_alone 0 t ∙ ap (λ (p : ℕ × Text). (p.0, [])) r);
        left = left;
      }

  at : (b : Bool) → at_digit t ≡ b → Taken t v k
  at true d = let found : Some (run 0 t) ≡ Some (k, v) = sym (number_some t d) ∙ e in taken d cc
  at false d = let nothing = sym (number_none t d) ∙ e in absurd cc
