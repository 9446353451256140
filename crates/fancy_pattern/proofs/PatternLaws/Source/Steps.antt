-- The source of a text step by step, where no row of the replaced texts begins.
use Rattle.std.proofs.Common.{◌≡◌, ℕ, Bool, true, false, ◌||◌, ◌==◌, [], ◌∷◌, ◌++◌, codes, Option, Some, None}
use Rattle.std.proofs.Common.{refl, ap, ◌∙◌, sym, subst, if◌then◌else◌, eqb-true}
use Rattle.std.proofs.lemmas.Bool.{cond_both}
use Rattle.std.specs.Option.{option_and_then}
use Prim.Native.Char.{code}
use Rattle.fancy_lex.specs.Characters.{◌∈◌}
use Rattle.fancy_lex.specs.Reading.{choose}
use Rattle.fancy_lex.specs.Text.{Text, strip, strip_word}
use Rattle.fancy_lex.specs.declared.flags.Flags.{Flags}
use Rattle.fancy_grammar.specs.PatternLetters.{is_unseen, by_letter_or, coded, plain}
use Rattle.fancy_grammar.specs.PatternSource.{Part, part, replaced, replaced_part, single_part, part_at, source_from}
use Rattle.fancy_pattern.proofs.SourceLemmas.{source_goes_on}
use Rattle.fancy_grammar.proofs.ReadBack.ClearLemmas.{apart}
use Rattle.fancy_pattern.proofs.PatternLaws.Characters.{EscapesIn}
use Rattle.fancy_pattern.proofs.PatternLaws.Source.Characters.{no_letter, unseen_escape}

-- ---- words that are not at the front

-- a word is not at the front if its own front is not
longer : (w v t : Text) → strip_word w t ≡ None → strip_word (w ++ v) t ≡ None
longer [] v t h = absurd (nothing h)
  where
    nothing : {A : Type 0} {a : A} → ◌≡◌ {A = Option A} (Some a) None → ⊥
    nothing h = cc
longer (c ∷ w) v [] h = refl
longer (c ∷ w) v (d ∷ t) h = at (d == c) (longer w v t) h
  where
    at : (b : Bool) → (strip_word w t ≡ None → strip_word (w ++ v) t ≡ None) →
        option_and_then (strip_word w) (if b then Some t else None) ≡ None →
        option_and_then (strip_word (w ++ v)) (if b then Some t else None) ≡ None
    at true k h = k h
    at false k h = refl

-- the text does not begin with a property of the rows, by the first letter of its name
pub record NoProperty (t : Text) : Type 0 where
  pub space : strip_word (codes "\\p{W") t ≡ None
  pub control : strip_word (codes "\\p{C") t ≡ None

-- nor with a negated set of such a property
pub record NoSet (t : Text) : Type 0 where
  pub space : strip_word (codes "[^\\p{W") t ≡ None
  pub control : strip_word (codes "[^\\p{C") t ≡ None

-- nor with one after an `&`
pub record NoJoined (t : Text) : Type 0 where
  pub space : strip_word (codes "&[^\\p{W") t ≡ None
  pub control : strip_word (codes "&[^\\p{C") t ≡ None

-- ---- where no row begins

bracket_none : (u σ : Bool) (t : Text) → NoProperty t → strip (code "^") t ≡ None →
    replaced_part σ (replaced u) (code "[" ∷ t) ≡ None
bracket_none true true t h k =
    rw (
      longer (codes "\\p{W") (codes "hite_Space}\\p{C}]") t h.space,
      longer (codes "\\p{C") (codes "}\\t\\n\\v\\f\\r]") t h.control,
    ) refl
bracket_none true false t h k =
    rw (
      longer (codes "\\p{W") (codes "hite_Space}\\p{C}]") t h.space,
      longer (codes "\\p{C") (codes "}\\t\\n\\v\\f\\r]") t h.control,
      k,
    ) refl
bracket_none false true t h k = refl
bracket_none false false t h k = refl

caret_none : (u σ : Bool) (t : Text) → NoProperty t → replaced_part σ (replaced u) (codes "[^" ++ t) ≡ None
caret_none true true t h = refl
caret_none true false t h =
    rw (
      longer (codes "\\p{W") (codes "hite_Space}\\p{C}]") t h.space,
      longer (codes "\\p{C") (codes "}\\t\\n\\v\\f\\r]") t h.control,
    ) refl
caret_none false true t h = refl
caret_none false false t h = refl

joint_none : (u σ : Bool) (t : Text) → (σ ≡ true → NoJoined t) → replaced_part σ (replaced u) (code "&" ∷ t) ≡ None
joint_none true true t h =
    rw (
      longer (codes "&[^\\p{W") (codes "hite_Space}\\p{C}]") t (h refl).space,
      longer (codes "&[^\\p{C") (codes "}\\t\\n\\v\\f\\r]") t (h refl).control,
    ) refl
joint_none true false t h = refl
joint_none false true t h = refl
joint_none false false t h = refl

plain_none : (u σ : Bool) (c : ℕ) (t : Text) → (c == code "\\") ≡ false → (c == code "[") ≡ false →
    (c == code "&") ≡ false → replaced_part σ (replaced u) (c ∷ t) ≡ None
plain_none true true c t h k l = rw (h, k, l) refl
plain_none true false c t h k l = rw (h, k) refl
plain_none false true c t h k l = rw h refl
plain_none false false c t h k l = rw h refl

-- ---- one step

pub or_false : (σ : Bool) → (σ || false) ≡ σ
or_false true = refl
or_false false = refl

pub part_on : (u σ : Bool) (c : ℕ) (t s v : Text) → part_at u σ c t ≡ part s v →
    source_from u σ (c ∷ t) ≡ s ++ source_from u σ v
part_on u σ c t s v e =
    source_goes_on u σ c t
    ∙ (ap (λ (p : Part). p.source ++ source_from u (σ || p.negated) p.rest) e
    ∙ ap (λ b. s ++ source_from u b v) (or_false σ))

single_on : (u σ : Bool) (c : ℕ) (t s v : Text) → replaced_part σ (replaced u) (c ∷ t) ≡ None →
    single_part c t ≡ part s v →
    source_from u σ (c ∷ t) ≡ s ++ source_from u σ v
single_on u σ c t s v e h = part_on u σ c t s v (ap (λ o. choose o (λ p. p) (single_part c t)) e ∙ h)

-- a character that is no backslash
abbrev pub char_source : ℕ → Text
char_source c = by_letter_or c (plain c)

single_is : (c : ℕ) (t : Text) → (c == code "\\") ≡ false → single_part c t ≡ part (char_source c) t
single_is c [] h = refl
single_is c (d ∷ t) h = rw h refl

-- a character that denotes itself in a class; no negated set of the rows comes after two `&`
pub char_on : (u σ : Bool) (c : ℕ) (t : Text) → c ∈ "\\[]" ≡ false →
    ((c == code "&") ≡ true → σ ≡ true → NoJoined t) →
    source_from u σ (c ∷ t) ≡ char_source c ++ source_from u σ t
char_on u σ c t h k =
    let is_not = apart (λ c. c ∈ "\\[]") c h in
    single_on u σ c t (char_source c) t (none (is_not (code "\\") refl) (is_not (code "[") refl))
    (single_is c t (is_not (code "\\") refl))
  where
    none : (c == code "\\") ≡ false → (c == code "[") ≡ false → replaced_part σ (replaced u) (c ∷ t) ≡ None
    none a b = by_test (c == code "&") refl
      where
        by_test : (x : Bool) → (c == code "&") ≡ x → replaced_part σ (replaced u) (c ∷ t) ≡ None
        by_test true e =
            subst (λ d. replaced_part σ (replaced u) (d ∷ t) ≡ None) (sym (eqb-true c (code "&") e))
            (joint_none u σ t (k e))
        by_test false e = plain_none u σ c t a b e

pub close_on : (u σ : Bool) (t : Text) → source_from u σ (code "]" ∷ t) ≡ code "]" ∷ source_from u σ t
close_on u σ t = single_on u σ (code "]") t (codes "]") t (plain_none u σ (code "]") t refl refl refl)
    (single_is (code "]") t refl)

caret_on : (u σ : Bool) (t : Text) → source_from u σ (code "^" ∷ t) ≡ code "^" ∷ source_from u σ t
caret_on u σ t = single_on u σ (code "^") t (codes "^") t (plain_none u σ (code "^") t refl refl refl)
    (single_is (code "^") t refl)

-- the opening bracket of a class
pub open_on : (u σ : Bool) (t : Text) → NoProperty t → strip (code "^") t ≡ None →
    source_from u σ (code "[" ∷ t) ≡ code "[" ∷ source_from u σ t
open_on u σ t h k = single_on u σ (code "[") t (codes "[") t (bracket_none u σ t h k) (single_is (code "[") t refl)

pub open_caret_on : (u σ : Bool) (t : Text) → NoProperty t →
    source_from u σ (codes "[^" ++ t) ≡ codes "[^" ++ source_from u σ t
open_caret_on u σ t h =
    single_on u σ (code "[") (code "^" ∷ t) (codes "[") (code "^" ∷ t) (caret_none u σ t h)
    (single_is (code "[") (code "^" ∷ t) refl)
    ∙ ap (λ z. code "[" ∷ z) (caret_on u σ t)

-- ---- the source of a character

-- it is the character, or an escape for an invisible one
pub data CharSource (c : ℕ) : Text → Type 0 where
  itself : CharSource c (c ∷ [])
  by_escape : {after : Text} → is_unseen c ≡ true → ((f : Flags) → (casei : Bool) × EscapesIn true f casei c after) →
      CharSource c (code "\\" ∷ after)

pub char_source_is : (c : ℕ) → CharSource c (char_source c)
char_source_is c =
    cond_both (is_unseen c) (coded c) (c ∷ []) (λ t. CharSource c (by_letter_or c t))
    (λ h. let e = unseen_escape c h in subst (CharSource c) (sym e.is) (by_escape h e.reads))
    (λ h. subst (CharSource c) (sym (ap (λ o. choose o (λ d. code "\\" ∷ d ∷ []) (c ∷ [])) (no_letter c h))) itself)
