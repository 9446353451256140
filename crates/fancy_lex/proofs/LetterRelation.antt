-- The relation of a flag group's letters holds exactly of the function's result.
use Rattle.std.proofs.Common.{◌≡◌, ◌≢◌, ◌⊎◌, inl, inr, ℕ, zero, suc, ◌+◌, ◌<◌, ◌≤◌, ◌==◌, ◌&&◌, ◌||◌, Bool, true, false}
use Rattle.std.proofs.Common.{not, if◌then◌else◌, List, [], ◌∷◌, ◌++◌, Result, Option, Some, None, refl, ap, sym, ◌∙◌}
use Rattle.std.proofs.Common.{subst, arith, append_assoc}
use Rattle.std.proofs.lemmas.Bool.{cases_eq, false≢true}
use Rattle.std.proofs.lemmas.Bool.Decides.{nat_tests}
use Rattle.std.proofs.lemmas.List.{append_cancel_right}
use Rattle.std.proofs.lemmas.Str.{len_utf8_bounds}
use Rattle.std.proofs.Math.Bool.{beq}
use Rattle.std.specs.Borrow.{Bor}
use Prim.Native.Char.{code}
use Rattle.fancy_lex.proofs.LayoutLaws.{layout_sound, layout_complete, unclosed_sound, unclosed_complete}
use Rattle.fancy_lex.proofs.ReadingLemmas.{derives_returned, only_returned}
use Rattle.fancy_lex.proofs.TextLemmas.{bytes-append}
use Rattle.fancy_lex.specs.Characters.{◌∈◌}
use Rattle.fancy_lex.specs.ErrorTable.{comment_not_closed, group_not_closed, no_flag_letter, mode_changed}
use Rattle.fancy_lex.specs.Layout.{Units, none, more as unit_more, IsUnit, is_blank}
use Rattle.fancy_lex.specs.LayoutSteps.{Skipped, rest, failed, layout}
use Rattle.fancy_lex.specs.Layout.{Before}
use Rattle.fancy_lex.specs.Reading.{Reading, gives, fails, ◌>=>◌, choose, Returns, Derives}
use Rattle.fancy_lex.specs.Text.{Text, bytes}
use Rattle.fancy_lex.specs.declared.error.ReadError.{ReadError}
use Rattle.fancy_lex.specs.declared.flags.Flags.{Flags}
use Rattle.fancy_lex.specs.FlagLetters.{Letters, inline_flags, flag_group, with_letter, LetterStep, flags_end}
use Rattle.fancy_lex.specs.FlagLetters.{flags_go_on}
use Rattle.fancy_lex.specs.FlagLetters.{NoLetter, closed_without_letter, scoped_without_letter, second_minus, names_no_flag}
use Rattle.fancy_lex.specs.LetterSteps.{is_first, is_after_minus, unknown_letter, step, after_step}
use Rattle.fancy_lex.specs.LetterSteps.{letters_in, letters}
use Rattle.fancy_lex.specs.FlagLetters.{Letter, flag, same_mode, minus, parenthesis, colon, no_letter, other_mode}
use Rattle.fancy_lex.specs.FlagLetters.{Next, LettersFrom, last, more, letter_error, text_end, open_layout, GroupLetters}
use Rattle.fancy_lex.specs.FlagReads.{letters_of}
use Rattle.fancy_lex.specs.declared.group_starts.letters.Letters as declared
use Rattle.fancy_lex.proofs.LetterLemmas.{front_read}

abbrev one_minus : Text
one_minus = code "-" ∷ []

-- ---- a minus and nothing else, known from lengths

bytes_some : (c : ℕ) (t : Text) → 1 + bytes t ≤ bytes (c ∷ t)
unfolding bytes
bytes_some c t = omega (arith, len_utf8_bounds c)

-- nothing was read, only a minus, or something else
data Front (w : Text) : Type 0 where
  nothing : w ≡ [] → Front w
  dash : w ≡ one_minus → Front w
  other : w ≢ [] → w ≢ one_minus → Front w

not_nil : (c : ℕ) (w : Text) → c ∷ w ≢ []
not_nil c w e = cc

front : (w : Text) → Front w
front [] = nothing refl
front (c ∷ []) =
    elim (cases_eq c (code "-")) [
      | inl e ↦ dash (ap (λ d. d ∷ []) e)
      | inr d ↦ other (not_nil c []) (λ e. d (first_is e))
    ] where
      first_is : c ∷ [] ≡ one_minus → c ≡ code "-"
      first_is e = cc
front (c ∷ d ∷ w) = other (not_nil c (d ∷ w)) two where
  two : c ∷ d ∷ w ≢ one_minus
  two e = cc

-- the text that was read, and what `clears` says about it
record ClearsAfter (w : Text) (clears : Bool) : Type 0 where
  pub is : w ≡ one_minus → clears ≡ true
  pub one : clears ≡ true → bytes w ≡ 1 → w ≡ one_minus
  pub some : clears ≡ true → w ≢ []

clears_start : ClearsAfter [] false
clears_start = record { is = λ e. absurd (no e); one = λ e. absurd (false≢true e); some = λ e. absurd (false≢true e) }
  where
    no : [] ≡ one_minus → ⊥
    no e = cc

nil_of_bytes : (w : Text) → bytes w ≡ 0 → w ≡ []
nil_of_bytes [] e = refl
nil_of_bytes (c ∷ w) e = absurd (omega (arith, bytes_some c w, e))

first_same : (a b : ℕ) (s t : Text) → a ∷ s ≡ b ∷ t → a ≡ b
first_same a b s t e = cc

blank_no_minus : (c : ℕ) → is_blank c ≡ true → c ≢ code "-"
blank_no_minus c b e = grind (arith, nat_tests)

-- layout is never a minus
not_layout : (x : Bool) (l v : Text) → Units x l v → l ≢ one_minus
not_layout x l v none e = absurd cc
not_layout x l v (unit_more u t cut unit h) e = by_unit unit where
  begins : (c : ℕ) (s : Text) → u ≡ c ∷ s → c ≡ code "-"
  begins c s q = first_same c (code "-") (s ++ t) [] (sym (cut ∙ ap (λ a. a ++ t) q) ∙ e)

  not_begun : (c : ℕ) (s : Text) → (c == code "-") ≡ false → u ≡ c ∷ s → ⊥
  not_begun c s d q = let same : c ≡ code "-" = begins c s q in grind (arith, nat_tests)

  by_unit : IsUnit x u (t ++ v) → ⊥
  by_unit (inl (i, h, q)) = not_begun (code "(") _ refl q
  by_unit (inr (on, inl (c, b, q))) = blank_no_minus c b (begins c [] q)
  by_unit (inr (on, inr (i, h, inl q))) = not_begun (code "#") _ refl q
  by_unit (inr (on, inr (i, h, inr (q, y)))) = not_begun (code "#") _ refl q

prefix_nil : (w l : Text) → w ++ l ≡ [] → w ≡ []
prefix_nil [] l e = refl
prefix_nil (c ∷ w) l e = absurd (cc)

alone_or_all : (w l : Text) → w ++ l ≡ one_minus → (w ≡ one_minus) ⊎ (l ≡ one_minus)
alone_or_all [] l e = inr e
alone_or_all (c ∷ w) l e = inl (keep (prefix_nil w l tail)) where
  tail : w ++ l ≡ []
  tail = cc

  first : c ≡ code "-"
  first = first_same c (code "-") (w ++ l) [] e

  keep : w ≡ [] → c ∷ w ≡ one_minus
  keep z = rw (z, first) refl

last_same : (w : Text) (c d : ℕ) → w ++ c ∷ [] ≡ d ∷ [] → c ≡ d
last_same [] c d e = first_same c d [] [] e
last_same (b ∷ []) c d e = absurd (cc)
last_same (b ∷ a ∷ w) c d e = absurd (cc)

bytes_minus : bytes one_minus ≡ 1
unfolding bytes
bytes_minus = refl

bytes_none : bytes [] ≡ 0
unfolding bytes
bytes_none = refl

at_least : (w : Text) → w ≢ [] → 1 ≤ bytes w
at_least [] d = absurd (d refl)
at_least (c ∷ w) d = omega (arith, bytes_some c w)

-- layout after the text that was read
clears_layout : (x clears : Bool) (w l v : Text) → ClearsAfter w clears → Units x l v → ClearsAfter (w ++ l) clears
clears_layout x clears w l v h units = record { is = is; one = one; some = λ c e. h.some c (prefix_nil w l e) } where
  is : w ++ l ≡ one_minus → clears ≡ true
  is e =
      elim (alone_or_all w l e) [
        | inl a ↦ h.is a
        | inr a ↦ absurd (not_layout x l v units a)
      ]

  one : clears ≡ true → bytes (w ++ l) ≡ 1 → w ++ l ≡ one_minus
  one c e =
      let some = at_least w (h.some c) in
      let sum = bytes-append w l in
      let none = nil_of_bytes l (omega (arith, some, sum, e)) in
      let alone = h.one c (omega (arith, some, sum, e)) in
      rw (none, alone) refl

-- one more character after it
clears_more : (clears : Bool) (w : Text) (c : ℕ) → ClearsAfter w clears → c ≢ code "-" → ClearsAfter (w ++ c ∷ []) clears
clears_more clears w c h d = record {
  is = λ e. absurd (d (last_same w c (code "-") e));
  one = λ on e. absurd (omega (arith, at_least w (h.some on), bytes-append w (c ∷ []), bytes_some c [], e));
  some = λ on e. h.some on (prefix_nil w (c ∷ []) e);
}

-- a minus after it, the first
clears_minus : (w : Text) (c : ℕ) → c ≡ code "-" → ClearsAfter (w ++ c ∷ []) true
clears_minus w c d = record { is = λ e. refl; one = one; some = some } where
  some : true ≡ true → w ++ c ∷ [] ≢ []
  some on e = absurd (omega (arith, ap bytes e, bytes-append w (c ∷ []), bytes_some c [], bytes_none))

  one : true ≡ true → bytes (w ++ c ∷ []) ≡ 1 → w ++ c ∷ [] ≡ one_minus
  one on e =
      let none = nil_of_bytes w (omega (arith, bytes-append w (c ∷ []), bytes_some c [], e)) in
      rw (none, d) refl

-- ---- one letter

same_test : (a b : ℕ) → a ≡ b → (a == b) ≡ true
same_test a b e = grind (arith, nat_tests)

other_test : (a b : ℕ) → a ≢ b → (a == b) ≡ false
other_test a b d = grind (arith, nat_tests)

module _ (t w : Text) (clears : Bool) (f : Flags) (c : ℕ) (u : Text) (cleared : ClearsAfter w clears)
    (cut : t ≡ w ++ (c ∷ u)) where
  sum : bytes t ≡ bytes w + bytes (c ∷ u)
  sum = ap bytes cut ∙ bytes-append w (c ∷ u)

  unknown_is : unknown_letter t u ≡ fails (no_flag_letter t (w ++ c ∷ []))
  unknown_is =
      ap (λ s. fails (no_flag_letter t s)) (front_read t (w ++ c ∷ []) u (cut ∙ sym (append_assoc w (c ∷ []) u)))

  first_at : w ≡ [] → is_first t (c ∷ u) ≡ true
  first_at e = same_test (bytes (c ∷ u)) (bytes t) (sym (ap bytes (cut ∙ ap (λ s. s ++ (c ∷ u)) e)))

  not_first : w ≢ [] → is_first t (c ∷ u) ≡ false
  not_first d = other_test (bytes (c ∷ u)) (bytes t) (λ e. absurd (omega (arith, at_least w d, sum, e)))

  minus_at : w ≡ one_minus → is_after_minus t clears (c ∷ u) ≡ true
  minus_at e =
      let is : (bytes (c ∷ u) + 1 == bytes t) ≡ true =
      same_test (bytes (c ∷ u) + 1) (bytes t) (omega (arith, sum, ap bytes e, bytes_minus)) in
      rw (cleared.is e, is) refl

  no_minus : w ≢ one_minus → is_after_minus t clears (c ∷ u) ≡ false
  no_minus d = by clears refl where
    by : (b : Bool) → clears ≡ b → (b && (bytes (c ∷ u) + 1 == bytes t)) ≡ false
    by false e = refl
    by true e = other_test (bytes (c ∷ u) + 1) (bytes t) (λ q. d (cleared.one e (omega (arith, sum, q))))

  closes_bad : (w ≡ []) ⊎ (w ≡ one_minus) → (is_first t (c ∷ u) || is_after_minus t clears (c ∷ u)) ≡ true
  closes_bad (inl e) = rw (first_at e) refl
  closes_bad (inr e) = rw (minus_at e) (or_true (is_first t (c ∷ u))) where
    or_true : (b : Bool) → (b || true) ≡ true
    or_true true = refl
    or_true false = refl

  closes_well : w ≢ [] → w ≢ one_minus → (is_first t (c ∷ u) || is_after_minus t clears (c ∷ u)) ≡ false
  closes_well d e = rw (not_first d, no_minus e) refl

  -- the step, by its character
  at_parenthesis : c ≡ code ")" → (b : Bool) → (is_first t (c ∷ u) || is_after_minus t clears (c ∷ u)) ≡ b →
      step t clears f (c ∷ u) ≡ (if b then unknown_letter t u else gives (flags_end (inline_flags f)) u)
  at_parenthesis e b h = let is : (c == code ")") ≡ true = same_test c (code ")") e in rw (is, h) refl

  at_colon : c ≡ code ":" → (b : Bool) → is_after_minus t clears (c ∷ u) ≡ b →
      step t clears f (c ∷ u) ≡ (if b then unknown_letter t u else gives (flags_end (flag_group f)) u)
  at_colon e b h =
      let is : (c == code ":") ≡ true = same_test c (code ":") e in
      let a : (c == code ")") ≡ false = rw e refl in
      rw (a, is, h) refl

  at_minus : c ≡ code "-" → (b : Bool) → clears ≡ b →
      step t clears f (c ∷ u) ≡ (if b then unknown_letter t u else gives (flags_go_on true f) u)
  at_minus e b h =
      let is : (c == code "-") ≡ true = same_test c (code "-") e in
      let a : (c == code ")") ≡ false = rw e refl in
      let d : (c == code ":") ≡ false = rw e refl in
      rw (a, d, is, h) refl

  at_mode : c ≡ code "u" → (b : Bool) → beq clears f.unicode ≡ b →
      step t clears f (c ∷ u) ≡ (if b then fails (mode_changed (c ∷ u)) else gives (flags_go_on clears f) u)
  at_mode e b h =
      let is : (c == code "u") ≡ true = same_test c (code "u") e in
      let a : (c == code ")") ≡ false = rw e refl in
      let d : (c == code ":") ≡ false = rw e refl in
      let g : (c == code "-") ≡ false = rw e refl in
      rw (a, d, g, is, h) refl

  at_other : c ≢ code ")" → c ≢ code ":" → c ≢ code "-" → c ≢ code "u" →
      step t clears f (c ∷ u) ≡
      choose (with_letter f (not clears) c) (λ g. gives (flags_go_on clears g) u) (unknown_letter t u)
  at_other a b d e =
      let a : (c == code ")") ≡ false = other_test c (code ")") a in
      let b : (c == code ":") ≡ false = other_test c (code ":") b in
      let d : (c == code "-") ≡ false = other_test c (code "-") d in
      let e : (c == code "u") ≡ false = other_test c (code "u") e in
      rw (a, b, d, e) refl

  opposite : (a b : Bool) → beq a b ≡ false → b ≡ not a
  opposite true true e = absurd (cc)
  opposite true false e = refl
  opposite false true e = refl
  opposite false false e = absurd (cc)

  equal : (a b : Bool) → beq a b ≡ true → b ≡ a
  equal true true e = refl
  equal true false e = absurd (cc)
  equal false true e = absurd (cc)
  equal false false e = refl

  -- the relation holds of the step
  letter_at : Letter t w clears f c u (step t clears f (c ∷ u))
  letter_at =
      elim (cases_eq c (code ")")) [
        | inl a ↦ on_parenthesis a (front w)
        | inr a ↦ elim (cases_eq c (code ":")) [
          | inl b ↦ on_colon b (front w)
          | inr b ↦ elim (cases_eq c (code "-")) [
            | inl d ↦ on_minus d clears refl
            | inr d ↦ elim (cases_eq c (code "u")) [
              | inl e ↦ on_mode e (beq clears f.unicode) refl
              | inr e ↦ on_other a b d e (with_letter f (not clears) c) refl
            ]
          ]
        ]
      ] where
        bad : NoLetter w clears f c → Letter t w clears f c u (unknown_letter t u)
        bad h = rw unknown_is (no_letter h)

        on_parenthesis : c ≡ code ")" → Front w → Letter t w clears f c u (step t clears f (c ∷ u))
        on_parenthesis a (nothing e) = rw (at_parenthesis a true (closes_bad (inl e))) (bad (closed_without_letter a (inl e)))
        on_parenthesis a (dash e) = rw (at_parenthesis a true (closes_bad (inr e))) (bad (closed_without_letter a (inr e)))
        on_parenthesis a (other d e) = rw (at_parenthesis a false (closes_well d e)) (parenthesis a d e)

        on_colon : c ≡ code ":" → Front w → Letter t w clears f c u (step t clears f (c ∷ u))
        on_colon a (nothing e) = rw (at_colon a false (no_minus (λ q. nil_or e q))) (colon a (λ q. nil_or e q)) where
          nil_or : w ≡ [] → w ≡ one_minus → ⊥
          nil_or e q = let both = sym e ∙ q in cc
        on_colon a (dash e) = rw (at_colon a true (minus_at e)) (bad (scoped_without_letter a e))
        on_colon a (other d e) = rw (at_colon a false (no_minus e)) (colon a e)

        on_minus : c ≡ code "-" → (b : Bool) → clears ≡ b → Letter t w clears f c u (step t clears f (c ∷ u))
        on_minus a true e = rw (at_minus a true e) (bad (second_minus a e))
        on_minus a false e = rw (at_minus a false e) (minus a e)

        on_mode : c ≡ code "u" → (b : Bool) → beq clears f.unicode ≡ b →
            Letter t w clears f c u (step t clears f (c ∷ u))
        on_mode a true e = rw (at_mode a true e) (other_mode a (equal clears f.unicode e))
        on_mode a false e = rw (at_mode a false e) (same_mode a (opposite clears f.unicode e))

        on_other : c ≢ code ")" → c ≢ code ":" → c ≢ code "-" → c ≢ code "u" → (o : Option Flags) →
            with_letter f (not clears) c ≡ o → Letter t w clears f c u (step t clears f (c ∷ u))
        on_other a b d e None h =
            let among : (c ∈ ")-:u") ≡ false = grind (arith, nat_tests) in
            rw (at_other a b d e, h) (bad (names_no_flag among h))
        on_other a b d e (Some g) h = rw (at_other a b d e, h) (flag h)

  -- and of no other result
  letter_is : {q : Reading LetterStep} → Letter t w clears f c u q → step t clears f (c ∷ u) ≡ q
  letter_is (flag {g} e) =
      at_other (not_at (code ")") (λ a. none_at (code ")") refl a)) (not_at (code ":") (λ a. none_at (code ":") refl a))
      (not_at (code "-") (λ a. none_at (code "-") refl a)) (not_at (code "u") (λ a. none_at (code "u") refl a))
      ∙ rw e refl where
        none_at : (d : ℕ) → with_letter f (not clears) d ≡ None → c ≡ d → with_letter f (not clears) c ≡ None
        none_at d h a = rw a h

        not_at : (d : ℕ) → (c ≡ d → with_letter f (not clears) c ≡ None) → c ≢ d
        not_at d h a = let both = sym (h a) ∙ e in cc
  letter_is (same_mode a e) = at_mode a false (rw e (differ clears)) where
    differ : (b : Bool) → beq b (not b) ≡ false
    differ true = refl
    differ false = refl
  letter_is (minus a e) = at_minus a false e
  letter_is (parenthesis a d e) = at_parenthesis a false (closes_well d e)
  letter_is (colon a d) = at_colon a false (no_minus d)
  letter_is (other_mode a e) = at_mode a true (rw e (agree clears)) where
    agree : (b : Bool) → beq b b ≡ true
    agree true = refl
    agree false = refl
  letter_is (no_letter h) = by h ∙ unknown_is where
    by : NoLetter w clears f c → step t clears f (c ∷ u) ≡ unknown_letter t u
    by (closed_without_letter a e) = at_parenthesis a true (closes_bad e)
    by (scoped_without_letter a e) = at_colon a true (minus_at e)
    by (second_minus a e) = at_minus a true e
    by (names_no_flag a e) =
        at_other (grind (arith, nat_tests)) (grind (arith, nat_tests)) (grind (arith, nat_tests))
        (grind (arith, nat_tests)) ∙ rw e refl

  -- what `clears` says after the letter
  clears_after : {b : Bool} {g : Flags} {r : Text} → Letter t w clears f c u (gives (flags_go_on b g) r) →
      ClearsAfter (w ++ c ∷ []) b
  clears_after (flag e) = clears_more clears w c cleared no_minus_flag where
    no_minus_flag : c ≢ code "-"
    no_minus_flag a = let none : with_letter f (not clears) c ≡ None = rw a refl in let both = sym none ∙ e in cc
  clears_after (same_mode a e) = clears_more clears w c cleared no_minus_mode where
    no_minus_mode : c ≢ code "-"
    no_minus_mode d = grind (arith, nat_tests)
  clears_after (minus a e) = clears_minus w c a

-- ---- the letters, one after another

-- the rest of the text is the text after the letter
letter_rest : {t w : Text} {clears : Bool} {f : Flags} {c : ℕ} {u r : Text} {s : LetterStep} →
    Letter t w clears f c u (gives s r) → r ≡ u
letter_rest (flag e) = refl
letter_rest (same_mode a e) = refl
letter_rest (minus a e) = refl
letter_rest (parenthesis a d e) = refl
letter_rest (colon a d) = refl

-- the text that was read of the letters before `u`
abbrev Reached : Text → Bool → Text → Type 0
Reached t clears u = (w : Text) × (t ≡ w ++ u) × ClearsAfter w clears

module _ (t : Text) where
  -- one step of the function
  read_open : (k : ℕ) (clears : Bool) (f : Flags) (u : Text) (q : ℕ) → layout f.ignore_space u ≡ failed q →
      letters_in t (suc k) clears f u ≡ fails (comment_not_closed q)
  unfolding letters_in
  read_open k clears f u q e = rw e refl

  read_end : (k : ℕ) (clears : Bool) (f : Flags) (u : Text) → layout f.ignore_space u ≡ rest [] →
      letters_in t (suc k) clears f u ≡ fails group_not_closed
  unfolding letters_in
  read_end k clears f u e = rw e refl

  read_step : (k : ℕ) (clears : Bool) (f : Flags) (u v : Text) → layout f.ignore_space u ≡ rest v →
      letters_in t (suc k) clears f u ≡ (step t clears f v >=> after_step (letters_in t k))
  unfolding letters_in
  read_step k clears f u v e = rw e refl

  -- the text after layout and a letter is shorter
  shorter : (w u : Text) (c : ℕ) (v : Text) (k : ℕ) → u ≡ w ++ (c ∷ v) → bytes u < suc k → bytes v < k
  shorter w u c v k cut l = omega (arith, ap bytes cut, bytes-append w (c ∷ v), bytes_some c v, l)

  -- before the letter that follows the layout
  module _ (clears : Bool) (f : Flags) (u : Text) (c : ℕ) (v : Text) (at : Reached t clears u)
      (b : Before f.ignore_space u (c ∷ v)) where
    cut_at : t ≡ (at.0 ++ b.w) ++ (c ∷ v)
    cut_at = at.1 ∙ ap (λ s. at.0 ++ s) b.cut ∙ sym (append_assoc at.0 b.w (c ∷ v))

    clears_at : ClearsAfter (at.0 ++ b.w) clears
    clears_at = clears_layout f.ignore_space clears at.0 b.w (c ∷ v) at.2 b.layout.units

    clears_as : (w : Text) → t ≡ w ++ (c ∷ v) → ClearsAfter w clears
    clears_as w e = subst (λ s. ClearsAfter s clears) (append_cancel_right (at.0 ++ b.w) w (c ∷ v) (sym cut_at ∙ e))
        clears_at

  -- and after it
  reach_on : {clears b : Bool} {f g : Flags} {u v : Text} → Reached t clears u →
      Next t clears f u v (gives (flags_go_on b g) v) →
      Reached t b v
  reach_on {clears} {b} {f} {g} {u} {v} at x = (
    x.w ++ x.c ∷ [],
    x.read ∙ sym (append_assoc x.w (x.c ∷ []) v),
    clears_after t x.w clears f x.c v (clears_as clears f u x.c v at x.layout x.w x.read) x.read x.letter,
  )

  abbrev ReadShort : ℕ → Type 0
  ReadShort k =
      (clears : Bool) (f : Flags) (u : Text) → Reached t clears u → bytes u < k →
      LettersFrom t clears f u (letters_in t k clears f u)

  -- the function's result is in the relation
  module _ (k : ℕ) (reads : ReadShort k) (clears : Bool) (f : Flags) (u : Text) (at : Reached t clears u)
      (l : bytes u < suc k) where
    read_after : (c : ℕ) (v : Text) (b : Before f.ignore_space u (c ∷ v)) (q : Reading LetterStep) →
        Letter t (at.0 ++ b.w) clears f c v q → LettersFrom t clears f u (q >=> after_step (letters_in t k))
    read_after c v b q h = by q h where
      next : (q : Reading LetterStep) → Letter t (at.0 ++ b.w) clears f c v q → Next t clears f u v q
      next q h = record { c = c; w = at.0 ++ b.w; layout = b; read = cut_at clears f u c v at b; letter = h }

      by : (q : Reading LetterStep) → Letter t (at.0 ++ b.w) clears f c v q →
          LettersFrom t clears f u (q >=> after_step (letters_in t k))
      by (gives (flags_end a) r) h =
          rw (letter_rest h)
          (last (next (gives (flags_end a) v)
          (subst (λ s. Letter t (at.0 ++ b.w) clears f c v (gives (flags_end a) s)) (letter_rest h) h)))
      by (gives (flags_go_on d g) r) h =
          let here = next (gives (flags_go_on d g) v)
          (subst (λ s. Letter t (at.0 ++ b.w) clears f c v (gives (flags_go_on d g) s)) (letter_rest h) h) in
          rw (letter_rest h) (more here (reads d g v (reach_on at here) (shorter b.w u c v k b.cut l)))
      by (fails e) h = letter_error (next (fails e) h)

    read_layout : (s : Skipped) → layout f.ignore_space u ≡ s →
        LettersFrom t clears f u (letters_in t (suc k) clears f u)
    read_layout (failed q) e = rw (read_open k clears f u q e) (open_layout (unclosed_sound f.ignore_space u q e))
    read_layout (rest []) e = rw (read_end k clears f u e) (text_end (layout_sound f.ignore_space u [] e))
    read_layout (rest (c ∷ v)) e =
        let b = layout_sound f.ignore_space u (c ∷ v) e in
        let h = letter_at t (at.0 ++ b.w) clears f c v (clears_at clears f u c v at b) (cut_at clears f u c v at b) in
        rw (read_step k clears f u (c ∷ v) e) (read_after c v b (step t clears f (c ∷ v)) h)

  letters_read : (k : ℕ) → ReadShort k
  letters_read zero clears f u at l = absurd (omega arith)
  letters_read (suc k) clears f u at l = read_layout k (letters_read k) clears f u at l (layout f.ignore_space u) refl

  -- each result in the relation is the function's: by induction on the derivation
  step_is : {clears : Bool} {f : Flags} {u v : Text} {q : Reading LetterStep} (k : ℕ) → Reached t clears u →
      (x : Next t clears f u v q) →
      letters_in t (suc k) clears f u ≡ (q >=> after_step (letters_in t k))
  step_is {clears} {f} {u} {v} {q} k at x =
      read_step k clears f u (x.c ∷ v) (layout_complete f.ignore_space u (x.c ∷ v) x.layout)
      ∙ ap (λ o. o >=> after_step (letters_in t k))
      (letter_is t x.w clears f x.c v (clears_as clears f u x.c v at x.layout x.w x.read) x.read x.letter)

  letters_are : (k : ℕ) {clears : Bool} {f : Flags} {u : Text} {o : Reading Letters} → LettersFrom t clears f u o →
      Reached t clears u → bytes u < k → letters_in t k clears f u ≡ o
  letters_are zero h at l = absurd (omega arith)
  letters_are (suc k) (last x) at l = step_is k at x
  letters_are (suc k) {clears} {f} {u} (more {b} {g} {v} x h) at l =
      step_is k at x ∙ letters_are k h (reach_on at x) (shorter x.layout.w u x.c v k x.layout.cut l)
  letters_are (suc k) (letter_error x) at l = step_is k at x
  letters_are (suc k) {clears} {f} {u} (text_end b) at l =
      read_end k clears f u (layout_complete f.ignore_space u [] b)
  letters_are (suc k) {clears} {f} {u} (open_layout {q} b) at l =
      read_open k clears f u q (unclosed_complete f.ignore_space u q b)

-- ---- the letters of a flag group

module _ (f : Flags) (t : Text) where
  at_start : Reached t false t
  at_start = ([], refl, clears_start)

  pub flag_group_reads : GroupLetters f t (letters f t)
  unfolding letters
  flag_group_reads = letters_read t (suc (bytes t)) false f t at_start (omega arith)

  pub flag_group_is : {o : Reading Letters} → GroupLetters f t o → letters f t ≡ o
  unfolding letters
  flag_group_is h = letters_are t (suc (bytes t)) h at_start (omega arith)

-- ---- the clauses of the reader

module _ (f : Flags) (t : Text) (r : Result (declared.Letters × Bor (List ℕ)) ReadError)
    (g : Returns letters_of r (letters f t)) where
  pub letters_derive : Derives letters_of r (GroupLetters f t)
  letters_derive = derives_returned letters_of r (GroupLetters f t) (letters f t) (flag_group_reads f t) g

  pub letters_only : (o : Reading Letters) → GroupLetters f t o → Returns letters_of r o
  letters_only o h = only_returned letters_of r (letters f t) o (flag_group_is f t h) g
