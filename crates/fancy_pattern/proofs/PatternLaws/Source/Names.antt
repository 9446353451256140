-- The sources of properties: each is read as its property, in a class and outside.
use Rattle.std.proofs.Common.{◌≡◌, ℕ, Bool, true, false, not, ◌==◌, [], ◌∷◌, ◌++◌, codes, Option, Some, None}
use Rattle.std.proofs.Common.{refl, ap, ◌∙◌, sym, subst, append_assoc, if◌then◌else◌, eqb-true, arith}
use Rattle.std.proofs.lemmas.Bool.Decides.{nat_tests}
use Rattle.std.specs.Char.{to_ascii_lowercase}
use Prim.Native.Char.{code}
use Rattle.fancy_lex.specs.Class.{is_negated}
use Rattle.fancy_lex.specs.Escape.{escape}
use Rattle.fancy_lex.specs.Escaped as leaves
use Rattle.fancy_lex.specs.Property.{pair, braced, letter, lowercase, look_up, without_caret, form, form_text, braced_text}
use Rattle.fancy_lex.specs.Property.{property_text}
use Rattle.fancy_lex.specs.Reading.{gives, choose}
use Rattle.fancy_lex.specs.Text.{Text, strip}
use Rattle.fancy_lex.specs.declared.flags.Flags.{Flags}
use Rattle.fancy_grammar.specs.PatternSource.{part, part_at, source_from, property_part, named_property}
use Rattle.fancy_grammar.proofs.ReadBack.ChunkLemmas.{HasNoBrace, prop, cut_back, single_small, single_large}
use Rattle.fancy_grammar.proofs.ReadBack.ChunkLemmas.{braced_small, braced_large}
use Rattle.fancy_pattern.proofs.PatternLaws.Source.Steps.{part_on}
use Rattle.fancy_pattern.proofs.PatternLaws.Source.Parts.{Reads, single_read}

-- ---- how a property is written

-- the letter after the backslash
abbrev pub negated_letter : Bool → ℕ
negated_letter negated = if negated then code "P" else code "p"

abbrev pub property_written : Bool → Text → Text
property_written negated w = letter negated ++ (codes "{" ++ (w ++ codes "}"))

pub property_before : (negated : Bool) (w t : Text) →
    property_written negated w ++ t ≡ code "\\" ∷ negated_letter negated ∷ code "{" ∷ (w ++ code "}" ∷ t)
property_before true w t = ap (λ z. codes "\\P{" ++ z) (append_assoc w (codes "}") t)
property_before false w t = ap (λ z. codes "\\p{" ++ z) (append_assoc w (codes "}") t)

pub no_capital : (c : ℕ) → to_ascii_lowercase c ≡ c →
    ((c == code "Z") ≡ false) × ((c == code "W") ≡ false) × ((c == code "C") ≡ false)
no_capital c h = (grind (arith, nat_tests), grind (arith, nat_tests), grind (arith, nat_tests))

-- ---- names in braces

-- a name in lower case that is in no row of the table
pub record IsRowless (w : Text) : Type 0 where
  pub no_brace : HasNoBrace w
  pub lower : lowercase w ≡ w
  pub other : (u : Bool) → form u (look_up w) w ≡ pair (property_written false w) (property_written true w)

-- what a name in braces is read as, with UNICODE or without
pub named_reads : (g : Flags) (u inside negated : Bool) (w v : Text) → g.unicode ≡ u → HasNoBrace w →
    escape g inside (negated_letter negated ∷ code "{" ∷ (w ++ code "}" ∷ v))
    ≡ gives (leaves.delegate (property_text u inside (prop negated (braced w))) g.casei) v
named_reads g u inside true w v like h =
    braced_large g inside w v h
    ∙ ap (λ b. gives (leaves.delegate (property_text b inside (prop true (braced w))) g.casei) v) like
named_reads g u inside false w v like h =
    braced_small g inside w v h
    ∙ ap (λ b. gives (leaves.delegate (property_text b inside (prop false (braced w))) g.casei) v) like

-- what is written for such a name is the name itself
rowless_text : (u inside negated : Bool) (w : Text) → IsRowless w →
    braced_text u inside (negated, w) ≡ property_written negated w
rowless_text u inside negated w h =
    ap (λ z. form_text inside negated (form u (look_up z) z)) h.lower
    ∙ (ap (form_text inside negated) (h.other u) ∙ by_sign negated)
  where
    by_sign : (negated : Bool) →
        form_text inside negated (pair (property_written false w) (property_written true w))
        ≡ property_written negated w
    by_sign true = refl
    by_sign false = refl

-- the source of a property after its backslash; the option is the rest of its name after a caret, if it begins with one
abbrev pub property_body : Bool → Option Text → Text → Text
property_body negated (Some t) w =
    negated_letter (not negated) ∷ code "{" ∷ ((code "^" ∷ code "^" ∷ t) ++ codes "}")
property_body negated None w = negated_letter negated ∷ code "{" ∷ (w ++ codes "}")

named_is : (negated : Bool) (o : Option Text) (w : Text) →
    choose o (λ t. letter (not negated) ++ (codes "{^^" ++ t)) (letter negated ++ (codes "{" ++ w)) ++ codes "}"
    ≡ code "\\" ∷ property_body negated o w
named_is true (Some t) w = refl
named_is true None w = refl
named_is false (Some t) w = refl
named_is false None w = refl

stripped : (m : ℕ) (w t : Text) → strip m w ≡ Some t → w ≡ m ∷ t
stripped m [] t e = absurd cc
stripped m (c ∷ w) t e = at (c == m) refl e
  where
    at : (b : Bool) → (c == m) ≡ b → (if b then Some w else None) ≡ Some t → c ∷ w ≡ m ∷ t
    at true k e = let same : w ≡ t = cc in ap (λ d. d ∷ w) (eqb-true c m k) ∙ ap (λ z. m ∷ z) same
    at false k e = absurd cc

unturned : (negated : Bool) (w : Text) → strip (code "^") w ≡ None → without_caret negated w ≡ (negated, w)
unturned negated [] e = refl
unturned negated (c ∷ w) e = at (c == code "^") e
  where
    at : (b : Bool) → (if b then Some w else None) ≡ None →
        if◌then◌else◌ {A = Bool × Text} b (not negated, w) (negated, c ∷ w) ≡ (negated, c ∷ w)
    at true e = absurd cc
    at false e = refl

-- the source is read as the property
pub rowless_reads : (g : Flags) (inside negated : Bool) (w v : Text) → IsRowless w →
    escape g inside (property_body negated (strip (code "^") w) w ++ v)
    ≡ gives (leaves.delegate (property_written negated w) g.casei) v
unfolding property_text
rowless_reads g inside negated w v h = from (strip (code "^") w) refl
  where
    by : {x y : Text} → x ≡ y → gives (leaves.delegate x g.casei) v ≡ gives (leaves.delegate y g.casei) v
    by e = ap (λ z. gives (leaves.delegate z g.casei) v) e

    regroup : (negated : Bool) (w : Text) →
        escape g inside ((negated_letter negated ∷ code "{" ∷ (w ++ codes "}")) ++ v)
        ≡ escape g inside (negated_letter negated ∷ code "{" ∷ (w ++ code "}" ∷ v))
    regroup negated w = ap (λ z. escape g inside (negated_letter negated ∷ code "{" ∷ z)) (append_assoc w (codes "}") v)

    twice : (negated : Bool) → not (not negated) ≡ negated
    twice true = refl
    twice false = refl

    from : (o : Option Text) → strip (code "^") w ≡ o → escape g inside (property_body negated o w ++ v)
        ≡ gives (leaves.delegate (property_written negated w) g.casei) v
    from None e =
        regroup negated w ∙ (named_reads g g.unicode inside negated w v refl h.no_brace
        ∙ by (ap (λ p. braced_text g.unicode inside p) (unturned negated w e)
        ∙ rowless_text g.unicode inside negated w h))
    from (Some t) e =
        let same : w ≡ code "^" ∷ t = stripped (code "^") w t e in
        let free : HasNoBrace (code "^" ∷ t) = subst HasNoBrace same h.no_brace in
        regroup (not negated) (code "^" ∷ code "^" ∷ t)
        ∙ (named_reads g g.unicode inside (not negated) (code "^" ∷ code "^" ∷ t) v refl (refl, free)
        ∙ by (ap (λ b. braced_text g.unicode inside (b, code "^" ∷ t)) (twice negated)
        ∙ (ap (λ z. braced_text g.unicode inside (negated, z)) (sym same)
        ∙ rowless_text g.unicode inside negated w h)))

rowless_on : (u σ negated : Bool) (w z : Text) → IsRowless w →
    source_from u σ (property_written negated w ++ z)
    ≡ (code "\\" ∷ property_body negated (strip (code "^") w) w) ++ source_from u σ z
rowless_on u σ negated w z h =
    ap (source_from u σ) (property_before negated w z)
    ∙ (part_on u σ (code "\\") (negated_letter negated ∷ code "{" ∷ (w ++ code "}" ∷ z)) (named_property negated w) z
    (part_is u σ negated)
    ∙ ap (λ q. q ++ source_from u σ z) (named_is negated (strip (code "^") w) w))
  where
    own : (negated : Bool) → property_part negated (code "{" ∷ (w ++ code "}" ∷ z)) ≡ part (named_property negated w) z
    own negated =
        ap (λ o. choose o (λ q. part (named_property negated q.0) q.1)
        (part (letter negated) (code "{" ∷ (w ++ code "}" ∷ z)))) (cut_back w z h.no_brace)

    no_blank : (w : Text) → lowercase w ≡ w → part_at true true (code "\\") (codes "p{" ++ (w ++ code "}" ∷ z))
        ≡ property_part false (code "{" ∷ (w ++ code "}" ∷ z))
        × part_at true false (code "\\") (codes "p{" ++ (w ++ code "}" ∷ z))
        ≡ property_part false (code "{" ∷ (w ++ code "}" ∷ z))
    no_blank [] e = (refl, refl)
    no_blank (c ∷ w) e =
        let capital = no_capital c (ap first_code e) in
        let other : (c == code "Z") ≡ false = capital.0 in
        (rw other refl, rw other refl)
      where
        first_code : Text → ℕ
        first_code [] = 0
        first_code (d ∷ t) = d

    part_is : (u σ negated : Bool) →
        part_at u σ (code "\\") (negated_letter negated ∷ code "{" ∷ (w ++ code "}" ∷ z))
        ≡ part (named_property negated w) z
    part_is true true true = own true
    part_is true false true = own true
    part_is true true false = (no_blank w h.lower).0 ∙ own false
    part_is true false false = (no_blank w h.lower).1 ∙ own false
    part_is false true true = own true
    part_is false false true = own true
    part_is false true false = own false
    part_is false false false = own false

no_set : (negated : Bool) (w : Text) (casei : Bool) →
    is_negated (leaves.delegate (property_written negated w) casei) ≡ false
no_set true w casei = refl
no_set false w casei = refl

pub rowless_read : (u σ negated : Bool) (w : Text) → IsRowless w →
    Reads u σ σ (property_written negated w) (code "\\" ∷ property_body negated (strip (code "^") w) w)
rowless_read u σ negated w h =
    single_read u σ (property_written negated w) (property_body negated (strip (code "^") w) w)
    (λ z. rowless_on u σ negated w z h)
    (λ g like v. (
      leaves.delegate (property_written negated w) g.casei,
      rowless_reads g true negated w v h,
      refl,
      no_set negated w g.casei,
    ))

-- ---- names of one character

pub short_reads : (g : Flags) (inside negated : Bool) (c : ℕ) (v : Text) → (c == code "{") ≡ false →
    escape g inside (negated_letter negated ∷ c ∷ v) ≡ gives (leaves.delegate (letter negated ++ (c ∷ [])) g.casei) v
unfolding property_text
short_reads g inside true c v h = single_large g inside c v h
short_reads g inside false c v h = single_small g inside c v h

pub short_on : (u σ negated : Bool) (c : ℕ) (z : Text) → (c == code "{") ≡ false →
    source_from u σ (code "\\" ∷ negated_letter negated ∷ c ∷ z)
    ≡ code "\\" ∷ negated_letter negated ∷ c ∷ source_from u σ z
short_on u σ negated c z h =
    part_on u σ (code "\\") (negated_letter negated ∷ c ∷ z) (code "\\" ∷ negated_letter negated ∷ c ∷ []) z
    (part_is u σ negated)
  where
    part_is : (u σ negated : Bool) →
        part_at u σ (code "\\") (negated_letter negated ∷ c ∷ z)
        ≡ part (code "\\" ∷ negated_letter negated ∷ c ∷ []) z
    part_is true true true = rw h refl
    part_is true false true = rw h refl
    part_is true true false = rw h refl
    part_is true false false = rw h refl
    part_is false true true = rw h refl
    part_is false false true = rw h refl
    part_is false true false = rw h refl
    part_is false false false = rw h refl

pub short_read : (u σ negated : Bool) (c : ℕ) → (c == code "{") ≡ false →
    Reads u σ σ (code "\\" ∷ negated_letter negated ∷ c ∷ []) (code "\\" ∷ negated_letter negated ∷ c ∷ [])
short_read u σ negated c h =
    single_read u σ (code "\\" ∷ negated_letter negated ∷ c ∷ []) (negated_letter negated ∷ c ∷ [])
    (λ z. short_on u σ negated c z h)
    (λ g like v. (
      leaves.delegate (letter negated ++ (c ∷ [])) g.casei,
      short_reads g true negated c v h,
      is negated,
      plain negated,
    ))
  where
    is : (negated : Bool) → letter negated ++ (c ∷ []) ≡ code "\\" ∷ negated_letter negated ∷ c ∷ []
    is true = refl
    is false = refl

    plain : (negated : Bool) → is_negated (leaves.delegate (letter negated ++ (c ∷ [])) false) ≡ false
    plain true = refl
    plain false = refl
