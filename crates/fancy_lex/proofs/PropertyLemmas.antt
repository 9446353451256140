-- A name in lower case, and the text before a delimiter.
use Rattle.std.proofs.Common.{◌≡◌, ◌↔◌, IsTrue, suc, ◌⊎◌, inl, inr, ⊎_elim, append-nil, ℕ, ◌<◌, ◌≤◌, Bool, ◌==◌, List}
use Rattle.std.proofs.Common.{[], ◌∷◌, ◌++◌, length, take, drop, get_or, map, chars, Option, Some, None, option_map}
use Rattle.std.proofs.Common.{Bor, refl, ap, sym, ◌∙◌, subst, arith, length-append}
use Rattle.std.specs.Char.{to_ascii_lowercase}
use Rattle.std.specs.Str.{IsUtf8, IsCharBoundary, NonePass, bytes_eq}
use Rattle.std.proofs.Math.Utf8.{encode, encodes}
use Rattle.std.proofs.lemmas.Bool.Decides.{nat_tests, same_from_decides}
use Rattle.std.proofs.lemmas.Bool.{cases_lt}
use Rattle.std.proofs.lemmas.List.{map-append}
use Rattle.std.proofs.lemmas.Str.Ascii.{lowercase_ascii}
use Rattle.std.proofs.lemmas.Slice.Eq.{bytes_eq-Decides}
use Rattle.std.proofs.lemmas.Str.{encode_ascii, inside_one, encodes_same, encodes-chars, chars_from_encodes}
use Rattle.std.proofs.lemmas.Str.{chars-append, chars_past_char, IsUtf8-take, IsUtf8-drop, IsCharBoundary-before_ascii}
use Rattle.std.proofs.lemmas.Str.Pattern.{IsSplitOnceResult, split_parts, drop_at_char}
use Rattle.fancy_lex.specs.Property.{lowercase}
use Rattle.fancy_lex.specs.Text.{Text, cut_at}

-- the text before a delimiter
cut_first : (delimiter : ℕ) (w v : Text) → NonePass (λ d. d == delimiter) w →
    cut_at delimiter (w ++ (delimiter ∷ v)) ≡ Some (w, v)
cut_first delimiter [] v h = grind (arith, nat_tests)
cut_first delimiter (c ∷ w) v h = rw (h.0, cut_first delimiter w v h.1) refl

cut_none : (delimiter : ℕ) (t : Text) → NonePass (λ d. d == delimiter) t → cut_at delimiter t ≡ None
cut_none delimiter [] h = refl
cut_none delimiter (c ∷ t) h = rw (h.0, cut_none delimiter t h.1) refl

pub cut_split : (delimiter : ℕ) (bs : List ℕ) (r : Option (Bor (List ℕ) × Bor (List ℕ))) → IsUtf8 bs → delimiter < 128 →
    IsSplitOnceResult delimiter bs r → cut_at delimiter (chars bs) ≡ option_map (λ p. (chars p.0.now, chars p.1.now)) r
cut_split delimiter bs None u low (cs, e, none) =
    let same = chars_from_encodes cs bs u e in
    cut_none delimiter (chars bs) (subst (NonePass (λ d. d == delimiter)) same none)
cut_split delimiter bs (Some x) u low h =
    let (i, j, (before, here), front, back, _, start, _) = h in
    let cut : bs ≡ x.0.now ++ (delimiter ∷ x.1.now) = (split_parts delimiter bs (Some x) h low).0 in
    let inside : i < length bs = rw cut (omega (arith, length-append x.0.now (delimiter ∷ x.1.now), start)) in
    let is_delimiter : get_or bs i 0 ≡ delimiter = here.byte low in
    let bound : IsCharBoundary bs i = IsCharBoundary-before_ascii bs i inside (omega arith) in
    let front_utf8 : IsUtf8 x.0.now = rw front (IsUtf8-take bs i u bound) in
    let rest : drop i bs ≡ delimiter ∷ x.1.now = rw back (drop_at_char delimiter bs i j here low) in
    let rest_utf8 : IsUtf8 (delimiter ∷ x.1.now) = rw (← rest) (IsUtf8-drop bs i u bound) in
    let split : chars bs ≡ chars x.0.now ++ (delimiter ∷ chars x.1.now) =
    ap chars cut ∙ chars-append x.0.now (delimiter ∷ x.1.now) front_utf8
    ∙ ap (λ t. chars x.0.now ++ t)
    (chars_past_char (delimiter ∷ x.1.now) x.1.now delimiter rest_utf8 (rw (encode_ascii delimiter low) refl)) in
    let (cs, e, none) = before in
    let same : cs ≡ chars x.0.now = rw front (chars_from_encodes cs (take i bs) (IsUtf8-take bs i u bound) e) in
    ap (cut_at delimiter) split ∙ cut_first delimiter (chars x.0.now) (chars x.1.now)
    (subst (NonePass (λ d. d == delimiter)) same none)

-- a byte of a character that is not in ASCII stays the same
stays : (bs : List ℕ) → ((k : ℕ) → k < length bs → 128 ≤ get_or bs k 0) → map to_ascii_lowercase bs ≡ bs
stays [] h = refl
stays (b ∷ bs) h =
    let first : 128 ≤ b = h 0 (omega arith) in
    let same : to_ascii_lowercase b ≡ b = grind (arith, nat_tests) in
    rw (same, stays bs (λ k l. h (suc k) (omega arith))) refl

lowercase_encode : (c : ℕ) → map to_ascii_lowercase (encode c) ≡ encode (to_ascii_lowercase c)
lowercase_encode c = by_size (cases_lt c 128) where
  by_size : (c < 128) ⊎ (128 ≤ c) → map to_ascii_lowercase (encode c) ≡ encode (to_ascii_lowercase c)
  by_size (inl low) =
      let small : to_ascii_lowercase c < 128 = lowercase_ascii c low in
      rw (encode_ascii c low, encode_ascii (to_ascii_lowercase c) small) refl
  by_size (inr high) =
      let same : to_ascii_lowercase c ≡ c = grind (arith, nat_tests) in
      rw same (stays (encode c)
      (λ k l. ⊎_elim (λ h. absurd (omega (arith, inside_one c [] (encode c) k (sym (append-nil (encode c))) l h)))
      (λ h. h) (cases_lt (get_or (encode c) k 0) 128)))

lowercase_encodes : (cs : Text) → map to_ascii_lowercase (encodes cs) ≡ encodes (lowercase cs)
lowercase_encodes [] = refl
lowercase_encodes (c ∷ cs) =
    rw (map-append to_ascii_lowercase (encode c) (encodes cs), lowercase_encode c, lowercase_encodes cs) refl

pub same_word : (r : Bool) (name word : List ℕ) → IsUtf8 name → IsUtf8 word → lowercase (chars word) ≡ chars word →
    IsTrue r ↔ (map to_ascii_lowercase name ≡ map to_ascii_lowercase word) →
    r ≡ bytes_eq (lowercase (chars name)) (chars word)
same_word r name word u v small test =
    same_from_decides r _ (λ e. forth (test.0 e), λ e. test.1 (back e))
    (bytes_eq-Decides (lowercase (chars name)) (chars word)) where
      of_name : map to_ascii_lowercase name ≡ encodes (lowercase (chars name))
      of_name = ap (map to_ascii_lowercase) (sym (encodes-chars name u)) ∙ lowercase_encodes (chars name)

      of_word : map to_ascii_lowercase word ≡ encodes (chars word)
      of_word = ap (map to_ascii_lowercase) (sym (encodes-chars word v)) ∙ lowercase_encodes (chars word)
          ∙ ap encodes small

      forth : map to_ascii_lowercase name ≡ map to_ascii_lowercase word → lowercase (chars name) ≡ chars word
      forth e = encodes_same _ _ (sym of_name ∙ e ∙ of_word)

      back : lowercase (chars name) ≡ chars word → map to_ascii_lowercase name ≡ map to_ascii_lowercase word
      back e = of_name ∙ ap encodes e ∙ sym of_word
