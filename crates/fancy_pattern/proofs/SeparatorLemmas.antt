-- A text that is separated from what is before it.
use Rattle.std.proofs.Common.{◌≡◌, ℕ, true, false, List, [], ◌∷◌, ◌++◌, append_assoc, subst, sym, refl, ap, ◌∙◌, arith}
use Rattle.std.proofs.Common.{take, drop, length, string_bytes, chars, codes}
use Rattle.std.specs.Char.{len_utf8}
use Rattle.std.specs.List.{insert_slice}
use Rattle.std.specs.Prelude.{Result, Ok, Err, OnOk}
use Rattle.std.specs.Str.{IsUtf8, IsCharBoundary}
use Rattle.std.proofs.lemmas.List.{take-append-drop}
use Rattle.std.proofs.lemmas.Str.{chars-append, chars-IsAscii, len_utf8_bounds, IsUtf8-from_ascii, IsUtf8-take}
use Rattle.fancy_lex.specs.Text.{Text, bytes}
use Rattle.fancy_lex.proofs.TextLemmas.{bytes_chars}
use Rattle.fancy_syntax.proofs.CapacityLemmas.{ascii}
use Rattle.fancy_grammar.specs.Pattern.{separated_if}
use Rattle.fancy_pattern.specs.TextOutput.{Changed, needs_separator, separated}
use Rattle.fancy_pattern.specs.declared.output.TextOutput.{TextOutput}
use Rattle.fancy_pattern.specs.declared.separator.Separator.{Separator}

-- two equal texts, split at the same byte
same_seam : (t u v w : Text) → t ++ u ≡ v ++ w → bytes t ≡ bytes v → (t ≡ v) × (u ≡ w)
unfolding bytes
same_seam [] u [] w e b = (refl, e)
same_seam [] u (c ∷ v) w e b = absurd (omega (arith, (len_utf8_bounds c).0))
same_seam (c ∷ t) u [] w e b = absurd (omega (arith, (len_utf8_bounds c).0))
same_seam (c ∷ t) u (d ∷ v) w e b =
    let first : c ≡ d = cc in
    let rest : t ++ u ≡ v ++ w = cc in
    let long : len_utf8 c ≡ len_utf8 d = ap len_utf8 first in
    let more = same_seam t u v w rest (omega arith) in
    (cc, more.1)

pub front_utf8 : (s front : List ℕ) (position : ℕ) → IsUtf8 s → IsCharBoundary s position → front ≡ take position s →
    IsUtf8 front
front_utf8 s front position u b e = subst IsUtf8 (sym e) (IsUtf8-take s position u b)

-- the bytes before the split of the text t ++ u, and the bytes after it
after_cut : (s front back : List ℕ) (t u : Text) (position : ℕ) → IsUtf8 front → chars s ≡ t ++ u → position ≡ bytes t →
    front ≡ take position s → back ≡ drop position s → length front ≡ position → (chars front ≡ t) × (chars back ≡ u)
after_cut s front back t u position f e at is rest long =
    let whole : s ≡ front ++ back = sym (rw (is, rest) (take-append-drop position s)) in
    let cut : chars front ++ chars back ≡ t ++ u = sym (chars-append front back f) ∙ ap chars (sym whole) ∙ e in
    same_seam (chars front) (chars back) t u cut (bytes_chars front f ∙ long ∙ at)

pub stays_separated : (s : TextOutput) (front back : List ℕ) (position : ℕ) (separator : Separator) → IsUtf8 front →
    front ≡ take position (string_bytes s.text) → back ≡ drop position (string_bytes s.text) → length front ≡ position →
    needs_separator separator (chars back) ≡ false → Changed s s position (separated separator)
stays_separated s front back position separator f is rest long free = record {
  changes = λ t u h k.
      let cut = after_cut (string_bytes s.text) front back t u position f h k is rest long in
      let not_needed : needs_separator separator u ≡ false = ap (needs_separator separator) (sym cut.1) ∙ free in
      h ∙ ap (λ b. t ++ separated_if b u) (sym not_needed);
}

-- the bytes of an empty comment, between others
separated_chars : (front back : List ℕ) → IsUtf8 front →
    chars ((front ++ codes "(?#)") ++ back) ≡ chars front ++ (codes "(?#)" ++ chars back)
separated_chars front back f =
    let a = ascii (codes "(?#)") refl in
    ap chars (append_assoc front (codes "(?#)") back) ∙ chars-append front (codes "(?#)" ++ back) f
    ∙ ap (λ x. chars front ++ x) (chars-append (codes "(?#)") back (IsUtf8-from_ascii (codes "(?#)") a)
    ∙ ap (λ x. x ++ chars back) (chars-IsAscii (codes "(?#)") a))

inserted_separated : (s z : TextOutput) (front back : List ℕ) (position : ℕ) (separator : Separator) → IsUtf8 front →
    front ≡ take position (string_bytes s.text) → back ≡ drop position (string_bytes s.text) → length front ≡ position →
    needs_separator separator (chars back) ≡ true →
    string_bytes z.text ≡ insert_slice (string_bytes s.text) position (codes "(?#)") →
    Changed s z position (separated separator)
inserted_separated s z front back position separator f is rest long joins e = record {
  changes = λ t u h k.
      let cut = after_cut (string_bytes s.text) front back t u position f h k is rest long in
      let needed : needs_separator separator u ≡ true = ap (needs_separator separator) (sym cut.1) ∙ joins in
      let made : string_bytes z.text ≡ (front ++ codes "(?#)") ++ back = rw (is, rest) e in
      ap chars made ∙ separated_chars front back f
      ∙ (λ i. cut.0 i ++ (codes "(?#)" ++ cut.1 i))
      ∙ ap (λ b. t ++ separated_if b u) (sym needed);
}

pub becomes_separated : {X E : Type 0} (r : Result X E) (s z : TextOutput) (front back : List ℕ) (position : ℕ)
    (separator : Separator) → IsUtf8 front → front ≡ take position (string_bytes s.text) →
    back ≡ drop position (string_bytes s.text) →
    length front ≡ position → needs_separator separator (chars back) ≡ true →
    OnOk r (string_bytes z.text ≡ insert_slice (string_bytes s.text) position (codes "(?#)")) →
    OnOk r (Changed s z position (separated separator))
becomes_separated (Ok v) s z front back position separator f is rest long joins e =
    inserted_separated s z front back position separator f is rest long joins e
becomes_separated (Err v) s z front back position separator f is rest long joins e = e
