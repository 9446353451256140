-- Texts cut in two: their bytes and their characters.
use Rattle.std.proofs.Common.{◌≡◌, ◌≤◌, ◌+◌, ◌-◌, ℕ, List, ◌++◌, length, take, chars, sym, ap, subst, ◌∙◌, arith, length-append, append_assoc}
use Rattle.std.specs.Str.{IsUtf8, IsCharBoundary}
use Rattle.std.proofs.Math.Seq.{take-append_seam}
use Rattle.std.proofs.Math.Utf8.{encodes}
use Rattle.std.proofs.lemmas.Str.{encodes-append, encodes-chars, chars-append, IsUtf8-append, IsCharBoundary-at_seam}
use Rattle.editor_documents.specs.Position.{Text}
use Rattle.editor_documents.specs.Change.{before}

module _ (s r : List ℕ) (w : Text) (u : IsUtf8 s) (v : IsUtf8 r) (e : chars s ≡ w ++ chars r) where
  -- a text that ends with the characters of another text ends with its bytes
  pub cut_bytes : s ≡ encodes w ++ r
  cut_bytes = sym (encodes-chars s u) ∙ ap encodes e ∙ encodes-append w (chars r) ∙ ap (λ b. encodes w ++ b) (encodes-chars r v)

  pub cut_lengths : length s ≡ length (encodes w) + length r
  cut_lengths = ap length cut_bytes ∙ length-append (encodes w) r

  pub cut_le : length r ≤ length s
  cut_le = omega (arith, cut_lengths)

  pub cut_boundary : IsCharBoundary s (length s - length r)
  cut_boundary =
      let long = cut_lengths in
      let at : length (encodes w) ≡ length s - length r = omega arith in
      subst (IsCharBoundary s) at (IsCharBoundary-at_seam s (encodes w) r cut_bytes v)

  -- the bytes before its end are the characters before it
  pub cut_front : (f : List ℕ) → IsUtf8 f → f ≡ take (length s - length r) s → chars s ≡ chars f ++ chars r
  cut_front f g q =
      let long = cut_lengths in
      let at : length s - length r ≡ length (encodes w) = omega arith in
      let is : f ≡ encodes w =
      q ∙ ap (λ n. take n s) at ∙ ap (take (length (encodes w))) cut_bytes ∙ take-append_seam (encodes w) r in
      ap chars (cut_bytes ∙ ap (λ b. b ++ r) (sym is)) ∙ chars-append f r g

pub before_is : (t f r : Text) → t ≡ f ++ r → before t r ≡ f
before_is t f r e =
    let long : length t ≡ length f + length r = ap length e ∙ length-append f r in
    let at : length t - length r ≡ length f = omega arith in
    ap (λ n. take n t) at ∙ ap (take (length f)) e ∙ take-append_seam f r

pub chars-joined : (a b c : List ℕ) → IsUtf8 a → IsUtf8 b → chars ((a ++ b) ++ c) ≡ chars a ++ (chars b ++ chars c)
chars-joined a b c u v =
    chars-append (a ++ b) c (IsUtf8-append a b u v) ∙ ap (λ t. t ++ chars c) (chars-append a b u)
    ∙ append_assoc (chars a) (chars b) (chars c)
