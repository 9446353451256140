-- The field that says how many bytes a message has, as a line that is read.
use Rattle.std.proofs.Common.{◌≡◌, ◌<◌, ◌-◌, ◌^◌, ℕ, List, [], ◌∷◌, ◌++◌, length, Option, Some, ◌⊎◌, inl, inr, sym, ap, ◌∙◌, arith, append-nil, rules}
use Rattle.std.specs.Prelude.{codes, decimal}
use Rattle.std.proofs.Common.{◌==◌}
use Rattle.std.specs.List.{after_first}
use Rattle.std.specs.Str.{IsUtf8}
use Rattle.std.proofs.lemmas.Fmt.{decimal_is_IsNumeral, decimal_nonempty, IsAscii-decimal}
use Rattle.std.proofs.lemmas.Str.{IsUtf8-from_ascii, IsAscii-append}
use Rattle.std.proofs.lemmas.Str.Parse.{digit_at}
use Rattle.std.proofs.lemmas.Str.Pattern.{IsTrimResult, trim-between}
use Rattle.json_rpc.specs.Header.{length_field, line_end, header, IsLineRead}
use Rattle.json_rpc.specs.declared.header.HeaderLine.{HeaderLine}
use Rattle.json_rpc.specs.declared.header.HeaderLine.TheVariants.{End, Length, Other}
use Rattle.json_rpc.proofs.LineLemmas.{first_line_is, last_line_is}

module _ (n : ℕ) (small : n < 2 ^ 64) where
  pub field_utf8 : IsUtf8 (length_field n)
  field_utf8 =
      IsUtf8-from_ascii (length_field n)
      (IsAscii-append (codes "Content-Length: ") (decimal n) (search rules) (IsAscii-decimal n small))

  -- the value of the field
  pub value_is : (text value : List ℕ) → text ≡ length_field n → value ≡ after_first (λ b. b == 58) text → value ≡ 32 ∷ decimal n
  value_is text value is h = h ∙ ap (after_first (λ b. b == 58)) is

  pub value_trimmed : (value t : List ℕ) → value ≡ 32 ∷ decimal n → IsTrimResult value t → t ≡ decimal n
  value_trimmed value t is h =
      let digits = (decimal_is_IsNumeral n small).0.1 in
      let some : 0 < length (decimal n) = decimal_nonempty n small in
      trim-between value t (32 ∷ []) (decimal n) [] h (is ∙ ap (λ d. 32 ∷ d) (sym (append-nil (decimal n)))) (search rules) tt
      (omega (arith, digit_at (decimal n) 0 digits some))
      (omega (arith, digit_at (decimal n) (length (decimal n) - 1) digits (omega arith)))

-- what is left of a header of a message of m bytes with what follows: all, or its last line once the field is read
abbrev pub IsHeaderLeft : ℕ → List ℕ → Option (List ℕ) → Option ℕ → Type 0
IsHeaderLeft m rest left found =
    (left ≡ Some (header m ++ rest)) ⊎ ((found ≡ Some m) × (left ≡ Some (line_end ++ rest)))

-- a line of that header
module _ (old new : Option (List ℕ)) (l rest : List ℕ) (m : ℕ) (small : m < 2 ^ 64) (says : HeaderLine) (found : Option ℕ)
    (read : IsLineRead old new l) (ends : l ≡ [] → says ≡ End) (field : (n : ℕ) → n < 2 ^ 64 → l ≡ length_field n → says ≡ Length n) where
  one_of_two : IsHeaderLeft m rest old found →
      ((says ≡ Length m) × (new ≡ Some (line_end ++ rest))) ⊎ ((says ≡ End) × (found ≡ Some m) × (new ≡ Some rest))
  one_of_two (inl e) = let both = first_line_is old new l rest read m small e in inl (field m small both.0, both.1)
  one_of_two (inr e) = let both = last_line_is old new l rest read e.1 in inr (ends both.0, e.0, both.1)

  pub after_field : (k : ℕ) → says ≡ Length k → IsHeaderLeft m rest old found → IsHeaderLeft m rest new (Some k)
  after_field k is h = elim (one_of_two h) [
    | inl e ↦ inr (cc, e.1)
    | inr e ↦ absurd (cc)
  ]

  pub no_other : says ≡ Other → IsHeaderLeft m rest old found → ⊥
  no_other is h = elim (one_of_two h) [
    | inl e ↦ absurd (cc)
    | inr e ↦ absurd (cc)
  ]

  pub at_end : says ≡ End → IsHeaderLeft m rest old found → (found ≡ Some m) × (new ≡ Some rest)
  at_end is h = elim (one_of_two h) [
    | inl e ↦ absurd (cc)
    | inr e ↦ (e.1, e.2)
  ]
