-- The position after a character, and after the end of a line.
use Rattle.std.proofs.Common.{◌≡◌, ◌≢◌, ◌<◌, ◌≤◌, ◌+◌, ◌-◌, ℕ, zero, suc, Bool, true, false, [], ◌∷◌, Option, Some, None, refl, ap, ◌∙◌, arith}
use Rattle.std.proofs.Common.{if◌then◌else◌, ◌==◌, ◌||◌, nat_le, nat_lt}
use Rattle.std.specs.Prelude.{option_and_then, unwrap_or}
use Rattle.std.specs.Char.{len_utf8}
use Rattle.std.proofs.lemmas.Bool.Decides.{nat_tests}
use Rattle.std.proofs.lemmas.Str.{len_utf8_bounds}
use Prim.Native.Char.{code}
use Rattle.editor_documents.specs.Position.{Text, units, ends_line, after_line_feed, next_line, from_line, from_character, from_position}
use Rattle.editor_documents.specs.declared.position.Encoding.{Encoding}
use Rattle.editor_documents.specs.declared.position.Encoding.TheVariants.{Utf8, Utf16}
use Rattle.editor_documents.specs.declared.position.Position.{Position}
use Rattle.editor_documents.proofs.PositionLemmas.{line_feed, line_return, line_goes_on, next_lines, at_start, past_character}

one_or_two : (b : Bool) → 0 < (if b then 1 else 2)
one_or_two true = omega arith
one_or_two false = omega arith

pub units_some : (e : Encoding) (c : ℕ) → 0 < units e c
units_some Utf8 c = omega (arith, (len_utf8_bounds c).0)
units_some Utf16 c = one_or_two (nat_lt c 0x1_0000)

above : (c : ℕ) → nat_lt c 0x1_0000 ≡ false → 2 ≤ len_utf8 c
above c h = grind (arith, nat_tests)

within : (c : ℕ) (b : Bool) → nat_lt c 0x1_0000 ≡ b → (if b then 1 else 2) ≤ len_utf8 c
within c true h = (len_utf8_bounds c).0
within c false h = above c h

pub units_within : (e : Encoding) (c : ℕ) → units e c ≤ len_utf8 c
units_within Utf8 c = omega arith
units_within Utf16 c = within c (nat_lt c 0x1_0000) refl

-- ---- characters of a line

zero_test : (n : ℕ) (b : Bool) → b ≡ false → ((n == 0) || b) ≡ true → n ≤ 0
zero_test n b q h = grind (arith, nat_tests)

positive_test : (n : ℕ) (b : Bool) → ((n == 0) || b) ≡ false → 0 < n
positive_test n b h = grind (arith, nat_tests)

no_end_test : (n : ℕ) (b : Bool) → ((n == 0) || b) ≡ false → b ≡ false
no_end_test n b h = grind (arith, nat_tests)

within_test : (m n : ℕ) → nat_le m n ≡ true → m ≤ n
within_test m n h = grind (arith, nat_tests)

no_end : (d : ℕ) (s : Text) → ends_line d ≡ false → next_line (d ∷ s) ≡ next_line s
no_end d s h = line_goes_on (d ∷ s) d s refl (no_feed h) (no_return h) where
  no_feed : ends_line d ≡ false → d ≢ code "\n"
  no_feed h = grind (arith, nat_tests)

  no_return : ends_line d ≡ false → d ≢ code "\r"
  no_return h = grind (arith, nat_tests)

module _ (e : Encoding) (d : ℕ) (s : Text) (n c : ℕ) (r : Text) where
  -- the characters of a line go on to its end
  line_case : (b k : Bool) → ((n == 0) || ends_line d) ≡ b →
      (from_character e (n - units e d) s ≡ Some (c ∷ r) → next_line s ≡ next_line (c ∷ r)) →
      (if b then Some (d ∷ s) else if k then from_character e (n - units e d) s else None) ≡ Some (c ∷ r) →
      next_line (d ∷ s) ≡ next_line (c ∷ r)
  line_case true k p ih h = let same : d ∷ s ≡ c ∷ r = cc in ap next_line same
  line_case false true p ih h = no_end d s (no_end_test n (ends_line d) p) ∙ ih h
  line_case false false p ih h = absurd (cc)

  module _ (no_end_here : ends_line c ≡ false) where
    first_case : d ∷ s ≡ c ∷ r → n ≤ 0 → from_character e (n + units e c) (d ∷ s) ≡ Some r
    first_case same h =
        let some : 0 < units e c = units_some e c in
        past_character e (n + units e c) (d ∷ s) c r same (omega arith) no_end_here (omega arith)
        ∙ at_start e (n + units e c - units e c) r (omega arith)

    later_case : 0 < n → ends_line d ≡ false → units e d ≤ n → from_character e (n - units e d + units e c) s ≡ Some r →
        from_character e (n + units e c) (d ∷ s) ≡ Some r
    later_case some plain within is =
        past_character e (n + units e c) (d ∷ s) d s refl (omega arith) plain (omega arith)
        ∙ ap (λ m. from_character e m s) (omega arith) ∙ is

    character_case : (b k : Bool) → ((n == 0) || ends_line d) ≡ b → nat_le (units e d) n ≡ k →
        (from_character e (n - units e d) s ≡ Some (c ∷ r) → from_character e (n - units e d + units e c) s ≡ Some r) →
        (if b then Some (d ∷ s) else if k then from_character e (n - units e d) s else None) ≡ Some (c ∷ r) →
        from_character e (n + units e c) (d ∷ s) ≡ Some r
    character_case true k p q ih h =
        let same : d ∷ s ≡ c ∷ r = cc in
        let first : d ≡ c = cc in
        first_case same (zero_test n (ends_line d) (ap ends_line first ∙ no_end_here) p)
    character_case false true p q ih h =
        later_case (positive_test n (ends_line d) p) (no_end_test n (ends_line d) p) (within_test (units e d) n q) (ih h)
    character_case false false p q ih h = absurd (cc)

to_line_end : (e : Encoding) (s : Text) (n c : ℕ) (r : Text) → from_character e n s ≡ Some (c ∷ r) → next_line s ≡ next_line (c ∷ r)
unfolding from_character
to_line_end e [] n c r h = absurd (cc)
to_line_end e (d ∷ s) n c r h =
    line_case e d s n c r ((n == 0) || ends_line d) (nat_le (units e d) n) refl (to_line_end e s (n - units e d) c r) h

one_further : (e : Encoding) (s : Text) (n c : ℕ) (r : Text) → ends_line c ≡ false → from_character e n s ≡ Some (c ∷ r) →
    from_character e (n + units e c) s ≡ Some r
unfolding from_character
one_further e [] n c r p h = absurd (cc)
one_further e (d ∷ s) n c r p h =
    character_case e d s n c r p ((n == 0) || ends_line d) (nat_le (units e d) n) refl refl
    (one_further e s (n - units e d) c r p) h

-- ---- lines

module _ (s u : Text) (is : next_line s ≡ Some u) where
  no_line : s ≡ [] → ⊥
  unfolding next_line
  no_line e = let none : next_line s ≡ None = ap next_line e in absurd (cc)

  second_line : (o : Option Text) → Some (unwrap_or o []) ≡ Some s → option_and_then (from_line 1) o ≡ Some u
  unfolding from_line
  second_line None h = let none : s ≡ [] = cc in absurd (no_line none)
  second_line (Some t) h = let same : t ≡ s = cc in ap (λ r. Some (unwrap_or (next_line r) [])) same ∙ ap (λ o. Some (unwrap_or o [])) is

  later_line : (n : ℕ) (o : Option Text) → ((t : Text) → from_line n t ≡ Some s → from_line (n + 1) t ≡ Some u) →
      option_and_then (from_line n) o ≡ Some s → option_and_then (from_line (n + 1)) o ≡ Some u
  later_line n None ih h = absurd (cc)
  later_line n (Some t) ih h = ih t h

  -- the line after one that another follows
  line_after : (n : ℕ) (t : Text) → from_line n t ≡ Some s → from_line (n + 1) t ≡ Some u
  unfolding from_line
  line_after zero t h = let same : t ≡ s = cc in ap (λ r. Some (unwrap_or (next_line r) [])) same ∙ ap (λ o. Some (unwrap_or o [])) is
  line_after (suc zero) t h = second_line (next_line t) h
  line_after (suc (suc n)) t h =
      let same : suc (suc n) + 1 - 1 ≡ suc n + 1 = omega arith in
      next_lines (suc (suc n) + 1) t (omega arith) ∙ ap (λ m. option_and_then (from_line m) (next_line t)) same
      ∙ later_line (suc n) (next_line t) (line_after (suc n)) h

-- the text after the end of a line that begins with a character
pub returned : (c : ℕ) (t u : Text) → c ≡ code "\r" → after_line_feed t ≡ u → next_line (c ∷ t) ≡ Some u
returned c t u h is = line_return (c ∷ t) c t refl (no_feed h) h ∙ ap Some is where
  no_feed : c ≡ code "\r" → c ≢ code "\n"
  no_feed h = grind (arith, nat_tests)

pub fed : (c : ℕ) (t : Text) → ends_line c ≡ true → c ≢ code "\r" → next_line (c ∷ t) ≡ Some t
fed c t h k = line_feed (c ∷ t) c t refl (feed h k) where
  feed : ends_line c ≡ true → c ≢ code "\r" → c ≡ code "\n"
  feed h k = grind (arith, nat_tests)

-- ---- positions

module _ (e : Encoding) (line n c : ℕ) (r t : Text) where
  line_step : (o : Option Text) (u : Text) → from_line line t ≡ o → option_and_then (from_character e n) o ≡ Some (c ∷ r) →
      next_line (c ∷ r) ≡ Some u → option_and_then (from_character e 0) (from_line (line + 1) t) ≡ Some u
  line_step None u at h is = absurd (cc)
  line_step (Some s) u at h is =
      ap (option_and_then (from_character e 0)) (line_after s u (to_line_end e s n c r h ∙ is) line t at) ∙ at_start e 0 u (omega arith)

  character_step : (o : Option Text) → ends_line c ≡ false → option_and_then (from_character e n) o ≡ Some (c ∷ r) →
      option_and_then (from_character e (n + units e c)) o ≡ Some r
  character_step None p h = absurd (cc)
  character_step (Some s) p h = one_further e s n c r p h

-- the position at the start of the text
pub start_is : (e : Encoding) (t : Text) → from_position e (record { line = 0; character = 0 }) t ≡ Some t
unfolding from_line
start_is e t = at_start e 0 t (omega arith)

module _ (e : Encoding) (p : Position) (c : ℕ) (r t : Text) (at : from_position e p t ≡ Some (c ∷ r)) where
  -- the position after the end of a line
  pub after_line : (u : Text) → next_line (c ∷ r) ≡ Some u → from_position e (record { line = p.line + 1; character = 0 }) t ≡ Some u
  after_line u is = line_step e p.line p.character c r t (from_line p.line t) u refl at is

  -- the position after another character
  pub after_character : ends_line c ≡ false →
      from_position e (record { line = p.line; character = p.character + units e c }) t ≡ Some r
  after_character plain = character_step e p.line p.character c r t (from_line p.line t) plain at
