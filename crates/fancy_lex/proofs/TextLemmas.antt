-- The characters of a string that grows.
use Rattle.std.proofs.Common.{◌+◌, ◌-◌, ◌≤◌, subst, arith, take}
use Rattle.std.specs.Str.{IsCharBoundary}
use Rattle.std.proofs.Math.Seq.{take-append_seam}
use Rattle.std.proofs.lemmas.List.{nil_from_length}
use Rattle.std.proofs.lemmas.Str.{encodes-append, IsCharBoundary-at_seam}
use Rattle.std.proofs.Common.{◌≡◌, length, length-append, sym, ℕ, Bool, true, false, if◌then◌else◌, List, [], ◌∷◌, ◌++◌}
use Rattle.std.proofs.Common.{chars, refl, ap, ◌∙◌, rules}
use Rattle.std.proofs.Math.Utf8.{encode, encodes}
use Rattle.std.specs.Str.{IsUtf8}
use Rattle.std.specs.Char.{IsScalar}
use Rattle.std.proofs.lemmas.Str.{chars-append, chars_past_char, chars-nil, IsUtf8-encode, length-encode, encodes-chars}
use Rattle.std.proofs.Common.{Result, Ok, Err, OnOk, is_ok}
use Rattle.std.specs.Prelude.{encode_utf8_all}
use Rattle.std.specs.Str.{bytes_eq}
use Rattle.std.proofs.lemmas.Bool.Decides.{same_from_decides}
use Rattle.std.proofs.lemmas.Slice.Eq.{bytes_eq-Decides}
use Rattle.std.proofs.Common.{Option, Some, None, MatchOption}
use Rattle.std.proofs.lemmas.Bool.Decides.{nat_tests}
use Rattle.std.specs.Borrow.{Bor}
use Rattle.std.specs.Prelude.{option_map, option_and_then}
use Rattle.std.specs.Str.Pattern.{FindsTextPrefix, StripsPrefix}
use Rattle.fancy_lex.specs.Text.{Text, bytes, strip, strip_word}

pub chars_pushed : (bs : List ℕ) (c : ℕ) → IsUtf8 bs → IsScalar c → chars (bs ++ encode c) ≡ chars bs ++ c ∷ []
chars_pushed bs c u s =
    let one : chars (encode c) ≡ c ∷ [] = chars_past_char (encode c) [] c (IsUtf8-encode c s) (search rules)
    ∙ ap (λ t. c ∷ t) chars-nil in
    chars-append bs (encode c) u ∙ ap (λ t. chars bs ++ t) one

pub pushed : (b : Bool) (bs : List ℕ) (c : ℕ) → IsUtf8 bs → IsScalar c →
    chars (if b then bs ++ encode c else bs) ≡ (if b then chars bs ++ c ∷ [] else chars bs)
pushed true bs c u s = chars_pushed bs c u s
pushed false bs c u s = refl

pub appended : (b : Bool) (bs ts : List ℕ) → IsUtf8 bs →
    chars (if b then bs ++ ts else bs) ≡ (if b then chars bs ++ chars ts else chars bs)
appended true bs ts u = chars-append bs ts u
appended false bs ts u = refl

-- what holds of every result holds if the result is Ok
pub on_ok : {A E : Type 0} (r : Result A E) (s t u : Text) → s ≡ (if is_ok r then t else u) → OnOk r (s ≡ t)
on_ok (Ok a) s t u e = e
on_ok (Err b) s t u e = tt

pub length_encodes : (cs : Text) → bytes cs ≡ length (encodes cs)
unfolding bytes
length_encodes [] = refl
length_encodes (c ∷ cs) = rw (length_encodes cs, ← length-encode c) (sym (length-append (encode c) (encodes cs)))

pub bytes-append : (t u : Text) → bytes (t ++ u) ≡ bytes t + bytes u
unfolding bytes
bytes-append [] u = omega arith
bytes-append (c ∷ t) u = omega (arith, bytes-append t u)

-- the length in bytes
pub bytes_chars : (bs : List ℕ) → IsUtf8 bs → bytes (chars bs) ≡ length bs
bytes_chars bs u = length_encodes (chars bs) ∙ ap length (encodes-chars bs u)

-- two texts have the same bytes if and only if they have the same characters
pub same_text : (a b : List ℕ) → IsUtf8 a → IsUtf8 b → bytes_eq a b ≡ bytes_eq (chars a) (chars b)
same_text a b u v =
    same_from_decides _ _ (bytes_eq-Decides a b) (
      λ e. sym (encodes-chars a u) ∙ ap encode_utf8_all ((bytes_eq-Decides (chars a) (chars b)).0 e)
          ∙ encodes-chars b v,
      λ e. (bytes_eq-Decides (chars a) (chars b)).1 (ap chars e),
    )

-- a text that ends with the characters of another text ends with its bytes
pub cut_bytes : (s r : List ℕ) (w : Text) → IsUtf8 s → IsUtf8 r → chars s ≡ w ++ chars r → s ≡ encodes w ++ r
cut_bytes s r w u v e =
    sym (encodes-chars s u) ∙ ap encodes e ∙ encodes-append w (chars r) ∙ ap (λ b. encodes w ++ b) (encodes-chars r v)

pub cut_lengths : (s r : List ℕ) (w : Text) → IsUtf8 s → IsUtf8 r → chars s ≡ w ++ chars r →
    length s ≡ length (encodes w) + length r
cut_lengths s r w u v e = ap length (cut_bytes s r w u v e) ∙ length-append (encodes w) r

pub cut_le : (s r : List ℕ) (w : Text) → IsUtf8 s → IsUtf8 r → chars s ≡ w ++ chars r → length r ≤ length s
cut_le s r w u v e = omega (arith, cut_lengths s r w u v e)

-- if no byte was cut off, the text is the same
pub cut_nothing : (s r : List ℕ) (w : Text) → IsUtf8 s → IsUtf8 r → chars s ≡ w ++ chars r → length r ≡ length s →
    chars r ≡ chars s
cut_nothing s r w u v e q =
    let none : encodes w ≡ [] = nil_from_length (encodes w) (omega (arith, cut_lengths s r w u v e)) in
    ap chars (sym (cut_bytes s r w u v e ∙ ap (λ b. b ++ r) none))

pub cut_boundary : (s r : List ℕ) (w : Text) → IsUtf8 s → IsUtf8 r → chars s ≡ w ++ chars r →
    IsCharBoundary s (length s - length r)
cut_boundary s r w u v e =
    let cut = cut_bytes s r w u v e in
    let long : length s ≡ length (encodes w) + length r = ap length cut ∙ length-append (encodes w) r in
    let at : length (encodes w) ≡ length s - length r = omega arith in
    subst (IsCharBoundary s) at (IsCharBoundary-at_seam s (encodes w) r cut v)

pub front_is : (s r f : List ℕ) (w : Text) → IsUtf8 s → IsUtf8 r → IsUtf8 f → chars s ≡ w ++ chars r →
    f ≡ take (length s - length r) s → chars s ≡ chars f ++ chars r
front_is s r f w u v g e q =
    let cut = cut_bytes s r w u v e in
    let long : length s ≡ length (encodes w) + length r = ap length cut ∙ length-append (encodes w) r in
    let at : length s - length r ≡ length (encodes w) = omega arith in
    let is : f ≡ encodes w = rw (q, at) (ap (take (length (encodes w))) cut ∙ take-append_seam (encodes w) r) in
    ap chars (cut ∙ ap (λ b. b ++ r) (sym is)) ∙ chars-append f r g

-- ---- the front of a text

pub strip_is : (m : ℕ) (u v : Text) → strip m u ≡ Some v → u ≡ m ∷ v
strip_is m [] v e = absurd (cc)
strip_is m (c ∷ r) v e = grind (arith, nat_tests)

pub strip_same : (m : ℕ) (v : Text) → strip m (m ∷ v) ≡ Some v
strip_same m v = grind (arith, nat_tests)

strip_word_same : (w t : Text) → strip_word w (w ++ t) ≡ Some t
strip_word_same [] t = refl
strip_word_same (c ∷ w) t = ap (option_and_then (strip_word w)) (strip_same c (w ++ t)) ∙ strip_word_same w t

pub strip_word_is : (w t u : Text) → strip_word w t ≡ Some u → t ≡ w ++ u
strip_word_is [] t u e = cc
strip_word_is (c ∷ w) t u e = by_first (λ v. strip_word_is w v u) (strip c t) refl e
  where
    by_first : ((v : Text) → strip_word w v ≡ Some u → v ≡ w ++ u) → (o : Option Text) → strip c t ≡ o →
        option_and_then (strip_word w) o ≡ Some u →
        t ≡ c ∷ (w ++ u)
    by_first more None i h = absurd cc
    by_first more (Some v) i h = strip_is c t v i ∙ ap (λ x. c ∷ x) (more v h)

-- std's result for a prefix is the word's
pub word_stripped : (s w : List ℕ) → IsUtf8 s → IsUtf8 w → (r : Option (Bor (List ℕ))) →
    MatchOption r (FindsTextPrefix w s None) (λ x. StripsPrefix (FindsTextPrefix w) s x.now) →
    strip_word (chars w) (chars s) ≡ option_map (λ x. chars x.now) r
word_stripped s w u v (Some x) (n, found, rest, long) =
    let cut = ap chars found.1 ∙ chars-append w _ v in
    ap (strip_word (chars w)) cut ∙ strip_word_same (chars w) _ ∙ ap (λ t. Some (chars t)) (sym rest)
word_stripped s w u v None lacks = by_result (strip_word (chars w) (chars s)) refl
  where
    spelled : (t : Text) → chars s ≡ chars w ++ t → s ≡ w ++ encodes t
    spelled t e =
        sym (encodes-chars s u) ∙ ap encodes e ∙ encodes-append (chars w) t
        ∙ ap (λ b. b ++ encodes t) (encodes-chars w v)

    by_result : (o : Option Text) → strip_word (chars w) (chars s) ≡ o → o ≡ None
    by_result None e = refl
    by_result (Some t) e = absurd (lacks (encodes t) (spelled t (strip_word_is (chars w) (chars s) t e)))
