-- Where a text may be cut: at no place inside its first character, or inside the end of a line that it begins with.
use Rattle.std.proofs.Common.{◌≡◌, ◌<◌, ◌≤◌, ◌+◌, ◌-◌, ℕ, Bool, true, false, List, [], ◌∷◌, ◌++◌, length, take, drop, get_or, chars, Some, refl, sym, ap, subst, ◌∙◌, ◌⊎◌, inl, inr, arith, length-append}
use Rattle.std.proofs.Common.{if◌then◌else◌, ◌==◌, nat_lt}
use Rattle.std.specs.Char.{len_utf8}
use Rattle.std.specs.Str.{IsUtf8, IsCharBoundary}
use Rattle.std.proofs.Math.Seq.{drop-append_seam}
use Rattle.std.proofs.Math.Utf8.{encode, encodes}
use Rattle.std.proofs.lemmas.Bool.Decides.{nat_tests}
use Rattle.std.proofs.lemmas.List.{take-append-drop, length-drop, length-take, get_or-drop}
use Rattle.std.proofs.lemmas.Str.{encodes-chars, chars-append, IsUtf8-take, IsUtf8-drop, length-encode}
use Prim.Native.Char.{code}
use Rattle.editor_documents.specs.Cursor.{IsCut}
use Rattle.editor_documents.specs.Position.{Text, ends_line, after_line_feed, next_line}
use Rattle.editor_documents.proofs.TextLemmas.{cut_bytes, cut_lengths, cut_le}

-- a text and what follows its first character
module _ (s a : List ℕ) (c : ℕ) (u : IsUtf8 s) (v : IsUtf8 a) (is : chars s ≡ c ∷ chars a) where
  pub first_bytes : s ≡ encodes (c ∷ []) ++ a
  first_bytes = cut_bytes s a (c ∷ []) u v is

  pub first_length : length s ≡ len_utf8 c + length a
  first_length = omega (arith, cut_lengths s a (c ∷ []) u v is, length-append (encode c) [], length-encode c)

  pub after_is : a ≡ drop (length s - length a) s
  after_is =
      let lengths : length s ≡ length (encodes (c ∷ [])) + length a = cut_lengths s a (c ∷ []) u v is in
      let at : length s - length a ≡ length (encodes (c ∷ [])) = omega arith in
      sym (ap (λ n. drop n s) at ∙ ap (drop (length (encodes (c ∷ [])))) first_bytes ∙ drop-append_seam (encodes (c ∷ [])) a)

  module _ (n : ℕ) (b : IsCharBoundary s n) where
    parts : chars s ≡ chars (take n s) ++ chars (drop n s)
    parts = ap chars (sym (take-append-drop n s)) ∙ chars-append (take n s) (drop n s) (IsUtf8-take s n u b)

    none_before : take n s ≡ [] → n ≡ 0
    none_before e = let long : length (take n s) ≡ 0 = ap length e in omega (arith, length-take n s, b.0)

    first_part : (w : List ℕ) → chars (take n s) ≡ w → n + length a < length s → n ≡ 0
    first_part [] e below = none_before (sym (encodes-chars (take n s) (IsUtf8-take s n u b)) ∙ ap encodes e)
    first_part (d ∷ w) e below =
        let same : d ∷ (w ++ chars (drop n s)) ≡ c ∷ chars a = ap (λ t. t ++ chars (drop n s)) (sym e) ∙ sym parts ∙ is in
        let left : chars a ≡ w ++ chars (drop n s) = cc in
        absurd (omega (arith, cut_le a (drop n s) w v (IsUtf8-drop s n u b) left, length-drop n s))

    pub first_cut : n + length a < length s → n ≡ 0
    first_cut below = first_part (chars (take n s)) refl below

same_bytes : (a r : List ℕ) → IsUtf8 a → IsUtf8 r → chars a ≡ chars r → a ≡ r
same_bytes a r v w e = sym (encodes-chars a v) ∙ ap encodes e ∙ encodes-chars r w

-- the end of a line is a character, or CR and LF
line_end_is : (c : ℕ) (t u : Text) → ends_line c ≡ true → next_line (c ∷ t) ≡ Some u →
    (t ≡ u) ⊎ ((c ≡ code "\r") × (t ≡ code "\n" ∷ u))
unfolding next_line
line_end_is c t u h is = by_feed (c == code "\n") refl is where
  fed : (t : Text) → after_line_feed t ≡ u → (t ≡ u) ⊎ (t ≡ code "\n" ∷ u)
  fed [] e = inl e
  fed (d ∷ t) e = by_test (d == code "\n") refl e where
    is_feed : (d == code "\n") ≡ true → d ≡ code "\n"
    is_feed q = grind (arith, nat_tests)

    by_test : (b : Bool) → (d == code "\n") ≡ b → (if b then t else d ∷ t) ≡ u → (d ∷ t ≡ u) ⊎ (d ∷ t ≡ code "\n" ∷ u)
    by_test true q e = inr (ap (λ x. x ∷ t) (is_feed q) ∙ ap (λ x. code "\n" ∷ x) e)
    by_test false q e = inl e

  is_return : (c == code "\r") ≡ true → c ≡ code "\r"
  is_return q = grind (arith, nat_tests)

  no_end : (c == code "\n") ≡ false → (c == code "\r") ≡ false → ⊥
  no_end p q = grind (arith, nat_tests)

  with_return : c ≡ code "\r" → (t ≡ u) ⊎ (t ≡ code "\n" ∷ u) → (t ≡ u) ⊎ ((c ≡ code "\r") × (t ≡ code "\n" ∷ u))
  with_return r (inl e) = inl e
  with_return r (inr e) = inr (r, e)

  by_return : (b : Bool) → (c == code "\n") ≡ false → (c == code "\r") ≡ b →
      (if b then Some (after_line_feed t) else next_line t) ≡ Some u → (t ≡ u) ⊎ ((c ≡ code "\r") × (t ≡ code "\n" ∷ u))
  by_return true p q e = with_return (is_return q) (fed t (cc))
  by_return false p q e = absurd (no_end p q)

  by_feed : (b : Bool) → (c == code "\n") ≡ b →
      (if b then Some t else if c == code "\r" then Some (after_line_feed t) else next_line t) ≡ Some u →
      (t ≡ u) ⊎ ((c ≡ code "\r") × (t ≡ code "\n" ∷ u))
  by_feed true q e = inl (cc)
  by_feed false q e = by_return (c == code "\r") q refl e

-- a text that begins with CR LF, and what follows
module _ (s a r : List ℕ) (u : IsUtf8 s) (v : IsUtf8 a) (w : IsUtf8 r) (is : chars s ≡ code "\r" ∷ chars a)
    (feeds : chars a ≡ code "\n" ∷ chars r) where
  after_return : s ≡ 13 ∷ a
  unfolding encode
  after_return = first_bytes s a (code "\r") u v is

  after_feed : a ≡ 10 ∷ r
  unfolding encode
  after_feed = first_bytes a r (code "\n") v w feeds

  both : s ≡ 13 ∷ 10 ∷ r
  both = after_return ∙ ap (λ t. 13 ∷ t) after_feed

  both_is : r ≡ drop (length s - length r) s
  both_is =
      let long : length s ≡ length r + 2 = ap length both ∙ omega arith in
      let at : length s - length r ≡ 2 = omega arith in
      sym (ap (λ n. drop n s) at ∙ ap (drop 2) both)

  inside : (n : ℕ) → n ≡ 1 → (get_or s (n - 1) 0 ≡ 13 → get_or s n 0 ≡ 10 → ⊥) → ⊥
  inside n e no_cut =
      no_cut (ap (λ m. get_or s (m - 1) 0) e ∙ ap (λ t. get_or t 0 0) both) (ap (λ m. get_or s m 0) e ∙ ap (λ t. get_or t 1 0) both)

  both_near : (n : ℕ) → IsCut s n → n + length r < length s → n ≡ 0
  both_near n cut below =
      let long : length s ≡ length r + 2 = ap length both ∙ omega arith in
      by_test (nat_lt 0 n) refl where
        is_one : nat_lt 0 n ≡ true → length s ≡ length r + 2 → n ≡ 1
        is_one q long = grind (arith, nat_tests)

        is_none : nat_lt 0 n ≡ false → n ≡ 0
        is_none q = grind (arith, nat_tests)

        by_test : (b : Bool) → nat_lt 0 n ≡ b → n ≡ 0
        by_test true q = absurd (inside n (is_one q (ap length both ∙ omega arith)) cut.1)
        by_test false q = is_none q

-- a text that begins with the end of a line, and what follows
module _ (s a r : List ℕ) (c : ℕ) (u : IsUtf8 s) (v : IsUtf8 a) (w : IsUtf8 r) (is : chars s ≡ c ∷ chars a) (ends : ends_line c ≡ true)
    (next : next_line (c ∷ chars a) ≡ Some (chars r)) where
  returns : c ≡ code "\r" → chars s ≡ code "\r" ∷ chars a
  returns e = is ∙ ap (λ d. d ∷ chars a) e

  one_is : chars a ≡ chars r → r ≡ drop (length s - length r) s
  one_is e = subst (λ t. t ≡ drop (length s - length t) s) (same_bytes a r v w e) (after_is s a c u v is)

  pub line_is : r ≡ drop (length s - length r) s
  line_is = elim (line_end_is c (chars a) (chars r) ends next) [
    | inl e ↦ one_is e
    | inr e ↦ both_is s a r u v w (returns e.0) e.1
  ]

  one_near : chars a ≡ chars r → (n : ℕ) → IsCut s n → n + length r < length s → n ≡ 0
  one_near e n cut below = first_cut s a c u v is n cut.0 (subst (λ t. n + length t < length s) (sym (same_bytes a r v w e)) below)

  pub line_near : (n : ℕ) → IsCut s n → n + length r < length s → n ≡ 0
  line_near n cut below = elim (line_end_is c (chars a) (chars r) ends next) [
    | inl e ↦ one_near e n cut below
    | inr e ↦ both_near s a r u v w (returns e.0) e.1 n cut below
  ]

-- ---- a cursor further on

module _ (s t : List ℕ) (k n : ℕ) (is : t ≡ drop k s) (within : k ≤ n) where
  same_byte : (i j : ℕ) → k + i ≡ j → get_or t i 0 ≡ get_or s j 0
  same_byte i j e = ap (λ x. get_or x i 0) is ∙ get_or-drop k s i 0 ∙ ap (λ m. get_or s m 0) e

  -- where a text may be cut, what is left of it may be
  pub cut_left : IsCut s n → IsCut t (n - k)
  cut_left cut = ((long, lead), no_feed) where
    long : n - k ≤ length t
    long = omega (arith, ap length is, length-drop k s, cut.0.0)

    here : get_or t (n - k) 0 ≡ get_or s n 0
    here = same_byte (n - k) n (omega arith)

    lead : n - k < length t → 128 ≤ get_or t (n - k) 0 → 192 ≤ get_or t (n - k) 0
    lead below large =
        let e : get_or t (n - k) 0 ≡ get_or s n 0 = here in
        let in_s : n < length s = omega (arith, ap length is, length-drop k s) in
        let there : 128 ≤ get_or s n 0 = omega arith in
        let high : 192 ≤ get_or s n 0 = cut.0.1 in_s there in omega arith

    no_feed : get_or t (n - k - 1) 0 ≡ code "\r" → get_or t (n - k) 0 ≡ code "\n" → ⊥
    no_feed returned fed = by_test (nat_lt k n) refl where
      later : nat_lt k n ≡ true → ⊥
      later q =
          let below : k < n = grind (arith, nat_tests) in
          cut.1 (sym (same_byte (n - k - 1) (n - 1) (omega arith)) ∙ returned) (sym here ∙ fed)

      first : nat_lt k n ≡ false → ⊥
      first q =
          let at : n - k ≡ 0 = grind (arith, nat_tests) in
          let one : get_or t 0 0 ≡ 13 = ap (λ m. get_or t (m - 1) 0) (sym at) ∙ returned in
          let two : get_or t 0 0 ≡ 10 = ap (λ m. get_or t m 0) (sym at) ∙ fed in omega arith

      by_test : (b : Bool) → nat_lt k n ≡ b → ⊥
      by_test true q = later q
      by_test false q = first q

-- a text that is left where it may be cut, if a step leads past the other places
pub last_cut : (s t : List ℕ) (n left after : ℕ) → t ≡ drop (length s - length t) s → left ≡ length s - n → left ≤ length t →
    after < left → ((m : ℕ) → IsCut t m → m + after < length t → m ≡ 0) → IsCut s n → t ≡ drop n s
last_cut s t n left after is so before below near cut =
    let within : length s - length t ≤ n = omega (arith, so, before) in
    let long : length t ≡ length s - (length s - length t) = ap length is ∙ length-drop (length s - length t) s in
    let none : n - (length s - length t) ≡ 0 =
    near (n - (length s - length t)) (cut_left s t (length s - length t) n is within cut) (omega (arith, so, before, below, long)) in
    is ∙ ap (λ k. drop k s) (omega (arith, none, within))
