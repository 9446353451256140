-- In a class the result of an escape does not depend on the text after it.
use Rattle.std.proofs.Common.{◌≡◌, ◌≢◌, ℕ, zero, suc, ◌+◌, ◌*◌, Bool, true, false, ◌&&◌, ◌==◌, nat_lt, if◌then◌else◌}
use Rattle.std.proofs.Common.{is_some, not, nat_le, option_and_then, [], ◌∷◌, ◌++◌, Option, Some, None, option_map}
use Rattle.std.proofs.Common.{refl, ap, sym, ◌∙◌, arith, subst, ◌⊎◌, inl, inr}
use Rattle.std.proofs.lemmas.Bool.{cases_eq}
use Rattle.std.proofs.lemmas.Bool.Decides.{nat_tests}
use Rattle.std.specs.Char.{digit_value, is_ascii_digit}
use Prim.Native.Char.{code}
use Rattle.fancy_lex.specs.Characters.{◌∈◌}
use Rattle.fancy_lex.specs.Escape.{escape, escape_at, number_escape, property, lone_escape}
use Rattle.fancy_lex.specs.ErrorTable.{letter_of_no_escape}
use Rattle.fancy_lex.specs.EscapeReference.{group_number}
use Rattle.fancy_lex.specs.Escaped.{Escape, delegate, literal, literal_bytes}
use Rattle.fancy_lex.specs.Located.{invalid_class, invalid_hex, invalid_codepoint_value, unclosed_unicode_name}
use Rattle.fancy_lex.specs.Hex.{hex, value, braced_value, hex_digits, fixed_digits, hex_digit, closing_brace}
use Rattle.fancy_lex.specs.Hex.{leaf_of_value}
use Rattle.fancy_lex.specs.Hex.{is_scalar}
use Rattle.fancy_lex.specs.Layout.{is_blank}
use Rattle.fancy_lex.specs.LayoutSteps.{layout, layout_from, Skipped, rest, failed, Phase, between, comment}
use Rattle.fancy_lex.specs.LayoutSteps.{escaped, line, after_comment_start}
use Rattle.fancy_lex.specs.Property.{Property, PropertyName, read_property, name_at, property_text}
use Rattle.fancy_lex.specs.Property as property_spec
use Rattle.fancy_lex.specs.Reading.{Reading, gives, fails, error_at, choose, layout_reading, ◌>=>◌}
use Rattle.fancy_lex.specs.Text.{Text, reach_of, strip, cut_at}
use Rattle.fancy_lex.specs.declared.flags.Flags.{Flags}
use Rattle.fancy_lex.proofs.LayoutLemmas.{between_step}

-- Layout before a character other than `(` does not depend on the text after that character.

from_if : (b : Bool) (p q p' q' a z : Skipped) → (p ≡ a → p' ≡ z) → (q ≡ a → q' ≡ z) → (if b then p else q) ≡ a →
    (if b then p' else q') ≡ z
from_if true p q p' q' a z f g e = f e
from_if false p q p' q' a z f g e = g e

-- an open comment stays open with s after the text
opened_more : (d : ℕ) (t s : Text) → is_some (after_comment_start (d ∷ t)) ≡ true →
    is_some (after_comment_start (d ∷ (t ++ s))) ≡ true
opened_more d [] s e = grind (arith, nat_tests)
opened_more d (a ∷ []) s e = grind (arith, nat_tests)
opened_more d (a ∷ b ∷ u) s e = grind (arith, nat_tests)

not_opened : (d : ℕ) (t : Text) → d ≢ code "(" → is_some (after_comment_start (d ∷ t)) ≡ false
not_opened d t h = grind (arith, nat_tests)

at_paren : (x : Bool) (d : ℕ) (t : Text) → d ≡ code "(" → is_some (after_comment_start (d ∷ t)) ≡ false →
    layout_from x between (d ∷ t) ≡ rest (d ∷ t)
at_paren x d t h q = let step = between_step x (d ∷ t) d t refl in grind (arith, nat_tests)

rest_same : (v w : Text) → rest v ≡ rest w → v ≡ w
rest_same v w e = cc

first_same : (c d : ℕ) (t u : Text) → ◌≡◌ {A = Text} (c ∷ t) (d ∷ u) → c ≡ d
first_same c d t u e = cc

-- a step between units; b says whether a comment opens
abbrev step_on : Bool → Bool → ℕ → Text → Skipped
step_on x b d t =
    if b then layout_from x comment t
    else if x && d == code "#" then layout_from x line t
    else if x && is_blank d then layout_from x between t
    else rest (d ∷ t)

step_is : (x b : Bool) (d : ℕ) (t : Text) → is_some (after_comment_start (d ∷ t)) ≡ b →
    layout_from x between (d ∷ t) ≡ step_on x b d t
step_is x b d t q = between_step x (d ∷ t) d t refl ∙ ap (λ a. step_on x a d t) q

module _ (x : Bool) (s : Text) (c : ℕ) (r : Text) (paren : c ≢ code "(") where
  abbrev From : Phase → Text → Type 0
  From st t = layout_from x st t ≡ rest (c ∷ r) → layout_from x st (t ++ s) ≡ rest ((c ∷ r) ++ s)

  module _ (d : ℕ) (t : Text) (rec : (st : Phase) → From st t) where
    from_step : (b : Bool) → is_some (after_comment_start (d ∷ t)) ≡ b →
        is_some (after_comment_start (d ∷ (t ++ s))) ≡ b → From between (d ∷ t)
    from_step b q z e =
        step_is x b d (t ++ s) z
        ∙ from_if b _ _ _ _ _ _ (rec comment) (from_if (x && d == code "#") _ _ _ _ _ _ (rec line)
        (from_if (x && is_blank d) _ _ _ _ _ _ (rec between)
        (λ q. ap (λ (l : Text). rest (l ++ s)) (rest_same (d ∷ t) (c ∷ r) q)))) (sym (step_is x b d t q) ∙ e)

    from_between : (b : Bool) → is_some (after_comment_start (d ∷ t)) ≡ b → (d ≡ code "(") ⊎ (d ≢ code "(") →
        From between (d ∷ t)
    from_between true q h e = from_step true q (opened_more d t s q) e
    from_between false q (inr h) e = from_step false q (not_opened d (t ++ s) h) e
    from_between false q (inl h) e =
        let stop = at_paren x d t h q in
        absurd (paren (sym (first_same d c t r (rest_same _ _ (sym stop ∙ e))) ∙ h))

    from_next : (st : Phase) → From st (d ∷ t)
    unfolding layout_from
    from_next between e = from_between _ refl (cases_eq d (code "(")) e
    from_next comment e = from_if (d == code ")") _ _ _ _ _ _ (rec between)
        (from_if (d == code "\\") _ _ _ _ _ _ (rec escaped) (rec comment)) e
    from_next escaped e = rec comment e
    from_next line e = from_if (d == code "\n") _ _ _ _ _ _ (rec between) (rec line) e

  layout_from_frame : (t : Text) (st : Phase) → From st t
  unfolding layout_from
  layout_from_frame [] between e = absurd cc
  layout_from_frame [] comment e = absurd cc
  layout_from_frame [] escaped e = absurd cc
  layout_from_frame [] line e = absurd cc
  layout_from_frame (d ∷ t) st e = from_next d t (layout_from_frame t) st e

-- layout before a character other than `(` stays the same with s after the text
pub layout_frame : (x : Bool) (t s : Text) (c : ℕ) (r : Text) → c ≢ code "(" → layout x t ≡ rest (c ∷ r) →
    layout x (t ++ s) ≡ rest ((c ∷ r) ++ s)
layout_frame x t s c r h e = layout_from_frame x s c r h t between e

-- With s after its text, a reading returns the same value, and s after the rest of the text.

abbrev Stays : {A : Type 0} → Reading A → (Text → Reading A) → Type 0
Stays (gives a u) there = (s : Text) → there s ≡ gives a (u ++ s)
Stays (fails e) there = Unit {0}

-- the text begins with a character other than `(`
abbrev Begins : Text → Type 0
Begins t = (c : ℕ) × (r : Text) × (t ≡ c ∷ r) × (c ≢ code "(")

-- the same for a reading that returns a value only if its text begins like this
abbrev Firm : {A : Type 0} → Text → Reading A → (Text → Reading A) → Type 0
Firm t (gives a u) there = Begins t × ((s : Text) → there s ≡ gives a (u ++ s))
Firm t (fails e) there = Unit {0}

stays_if : {A : Type 0} (b : Bool) (p q : Reading A) (p' q' : Text → Reading A) → Stays p p' → Stays q q' →
    Stays (if b then p else q) (λ s. if b then p' s else q' s)
stays_if true p q p' q' h k = h
stays_if false p q p' q' h k = k

firm_from : {A : Type 0} (c : ℕ) (t : Text) (o : Reading A) (there : Text → Reading A) → c ≢ code "(" →
    Stays o there → Firm (c ∷ t) o there
firm_from c t (gives a u) there h same = ((c, t, refl, h), same)
firm_from c t (fails e) there h k = tt

-- after layout
after_layout : {A : Type 0} (x : Bool) (t : Text) (R : Text → Reading A) (S : Text → Text → Reading A) →
    ((v : Text) → Firm v (R v) (λ s. S s (v ++ s))) →
    Stays (layout_reading (layout x t) >=> (λ _ v. R v))
    (λ s. layout_reading (layout x (t ++ s)) >=> (λ _ v. S s v))
after_layout {A = A} x t R S firm = by_layout (layout x t) refl where
  by_reading : (v : Text) → layout x t ≡ rest v → (o : Reading A) → Firm v o (λ s. S s (v ++ s)) →
      Stays o (λ s. layout_reading (layout x (t ++ s)) >=> (λ _ v. S s v))
  by_reading v e (gives a u) ((c, r, q, h), same) = λ s.
      ap (λ o. layout_reading o >=> (λ _ v. S s v))
      (layout_frame x t s c r h (e ∙ ap rest q) ∙ ap (λ (l : Text). rest (l ++ s)) (sym q)) ∙ same s
  by_reading v e (fails z) h = tt

  by_layout : (k : Skipped) → layout x t ≡ k →
      Stays (layout_reading k >=> (λ _ v. R v)) (λ s. layout_reading (layout x (t ++ s)) >=> (λ _ v. S s v))
  by_layout (rest v) e = by_reading v e (R v) (firm v)
  by_layout (failed p) e = tt

-- Hex codes, whose reaches h and h' are used only for errors.

is_hex : (c : ℕ) → nat_lt (digit_value c) 16 ≡ true → c ≢ code "("
is_hex c h = grind (arith, nat_tests)

module _ (x : Bool) (h : ℕ) (h' : Text → ℕ) where
  closed_firm : (some : Bool) (v : ℕ) (t : Text) →
      Firm t (closing_brace h some v (strip (code "}") t))
      (λ s. closing_brace (h' s) some v (strip (code "}") (t ++ s)))
  closed_firm false v t = tt
  closed_firm true v [] = tt
  closed_firm true v (c ∷ t) = by_test (c == code "}") refl where
    by_test : (b : Bool) → (c == code "}") ≡ b →
        Firm (c ∷ t) (closing_brace h true v (if b then Some t else None))
        (λ s. closing_brace (h' s) true v (if b then Some (t ++ s) else None))
    by_test true e = let other : c ≢ code "(" = grind (arith, nat_tests) in ((c, t, refl, other), λ s. refl)
    by_test false e = tt

  closed_none : (some : Bool) (v : ℕ) (there : Text → Reading ℕ) → Firm [] (closing_brace h some v None) there
  closed_none true v there = tt
  closed_none false v there = tt

  abbrev DigitsFirm : ℕ → Bool → ℕ → Type 0
  DigitsFirm k some v = (t : Text) → Firm t (hex_digits x h k some v t) (λ s. hex_digits x (h' s) k some v (t ++ s))

  -- after a digit there are layout and more digits, or otherwise the closing brace
  digits_on : (k : ℕ) (some : Bool) (v d c : ℕ) (t : Text) → ((v : ℕ) → DigitsFirm k true v) → (b : Bool) →
      (b ≡ true → c ≢ code "(")
      → Firm (c ∷ t)
      (choose (if b then Some (d, t) else None)
      (λ (p : ℕ × Text). layout_reading (layout x p.1) >=> (λ _ t. hex_digits x h k true (v * 16 + p.0) t))
      (closing_brace h some v (strip (code "}") (c ∷ t))))
      (λ s. choose (if b then Some (d, t ++ s) else None)
      (λ (p : ℕ × Text). layout_reading (layout x p.1) >=> (λ _ t. hex_digits x (h' s) k true (v * 16 + p.0) t))
      (closing_brace (h' s) some v (strip (code "}") ((c ∷ t) ++ s))))
  digits_on k some v d c t more false f = closed_firm some v (c ∷ t)
  digits_on k some v d c t more true f =
      firm_from c t _ _ (f refl)
      (after_layout x t (hex_digits x h k true (v * 16 + d)) (λ s u. hex_digits x (h' s) k true (v * 16 + d) u)
      (more (v * 16 + d)))

  digits_firm : (k : ℕ) (some : Bool) (v : ℕ) → DigitsFirm k some v
  unfolding hex_digits hex_digit
  digits_firm zero some v t = closed_firm some v t
  digits_firm (suc k) some v [] = closed_none some v _
  digits_firm (suc k) some v (c ∷ t) = digits_on k some v (digit_value c) c t (λ v. digits_firm k true v)
      (nat_lt (digit_value c) 16) (is_hex c)

  braced_firm : (t : Text) → Firm (code "{" ∷ t) (braced_value x h t) (λ s. braced_value x (h' s) (t ++ s))
  unfolding braced_value
  braced_firm t =
      let other : code "{" ≢ code "(" = grind (arith, nat_tests) in
      firm_from (code "{") t _ _ other
      (after_layout x t (hex_digits x h 8 false 0) (λ s v. hex_digits x (h' s) 8 false 0 v)
      (digits_firm 8 false 0))

-- the same for a reader of an optional value
abbrev pub StaysSome : {A : Type 0} → Option (A × Text) → (Text → Option (A × Text)) → Type 0
StaysSome (Some p) there = (s : Text) → there s ≡ Some (p.0, p.1 ++ s)
StaysSome None there = Unit {0}

some_map : {A B : Type 0} (g : A → B) (o : Option (A × Text)) (there : Text → Option (A × Text)) → StaysSome o there →
    StaysSome (option_map {T = A × Text} {U = B × Text} (λ p. (g p.0, p.1)) o)
    (λ s. option_map {T = A × Text} {U = B × Text} (λ p. (g p.0, p.1)) (there s))
some_map {A} {B} g (Some p) there same = λ s. ap (λ o. option_map {T = A × Text} {U = B × Text} (λ p. (g p.0, p.1)) o)
    (same s)
some_map g None there h = tt

some_if : {A : Type 0} (b : Bool) (p q : Option (A × Text)) (p' q' : Text → Option (A × Text)) → StaysSome p p' →
    StaysSome q q' → StaysSome (if b then p else q) (λ s. if b then p' s else q' s)
some_if true p q p' q' h k = h
some_if false p q p' q' h k = k

fixed_on : (k v d : ℕ) (t : Text) → ((v : ℕ) → StaysSome (fixed_digits k v t) (λ s. fixed_digits k v (t ++ s))) →
    (b : Bool)
    → StaysSome (option_and_then (λ (p : ℕ × Text). fixed_digits k (v * 16 + p.0) p.1)
    (if b then Some (d, t) else None))
    (λ s. option_and_then (λ (p : ℕ × Text). fixed_digits k (v * 16 + p.0) p.1)
    (if b then Some (d, t ++ s) else None))
fixed_on k v d t more true = more (v * 16 + d)
fixed_on k v d t more false = tt

fixed_stays : (k v : ℕ) (t : Text) → StaysSome (fixed_digits k v t) (λ s. fixed_digits k v (t ++ s))
unfolding fixed_digits hex_digit
fixed_stays zero v t = λ s. refl
fixed_stays (suc k) v [] = tt
fixed_stays (suc k) v (c ∷ t) = fixed_on k v (digit_value c) t (λ v. fixed_stays k v t) (nat_lt (digit_value c) 16)

-- a run of digits does not begin with `(`
fixed_paren : (k v c : ℕ) (t : Text) → c ≡ code "(" → fixed_digits (suc k) v (c ∷ t) ≡ None
unfolding fixed_digits hex_digit
fixed_paren k v c t e = rw e refl

not_both : {A : Type 0} (p : A) → Some p ≡ None → ⊥
not_both p e = cc

module _ (x : Bool) (h : ℕ) (h' : Text → ℕ) where
  abbrev ValueFirm : ℕ → Text → Type 0
  ValueFirm w t = Firm t (value x h (suc w) t) (λ s. value x (h' s) (suc w) (t ++ s))

  value_brace : (w : ℕ) (t : Text) → ValueFirm w (code "{" ∷ t)
  unfolding value fixed_digits hex_digit
  value_brace w t = braced_firm x h h' t

  value_on : (w c : ℕ) (t : Text) → c ≢ code "{" → (o : Option (ℕ × Text)) → fixed_digits (suc w) 0 (c ∷ t) ≡ o →
      StaysSome o (λ s. fixed_digits (suc w) 0 (c ∷ (t ++ s)))
      → Firm (c ∷ t)
      (choose o (λ p. gives p.0 p.1)
      (choose (strip (code "{") (c ∷ t)) (braced_value x h) (error_at h invalid_hex)))
      (λ s. value x (h' s) (suc w) (c ∷ (t ++ s)))
  unfolding value
  value_on w c t other None e k = let test : (c == code "{") ≡ false = grind (arith, nat_tests) in rw test tt
  value_on w c t other (Some p) e same = (
    (c, t, refl, λ z. not_both p (sym e ∙ fixed_paren w 0 c t z)),
    λ s. ap (λ o. choose o (λ (p : ℕ × Text). gives p.0 p.1)
        (choose (strip (code "{") (c ∷ (t ++ s))) (braced_value x (h' s)) (error_at (h' s) invalid_hex))) (same s),
  )

  value_other : (w c : ℕ) (t : Text) → c ≢ code "{" → ValueFirm w (c ∷ t)
  unfolding value
  value_other w c t other = value_on w c t other _ refl (fixed_stays (suc w) 0 (c ∷ t))

  value_none : (w : ℕ) → ValueFirm w []
  unfolding value fixed_digits hex_digit
  value_none w = tt

  value_firm : (w : ℕ) (t : Text) → ValueFirm w t
  value_firm w [] = value_none w
  value_firm w (c ∷ t) = by_brace (cases_eq c (code "{")) where
    by_brace : (c ≡ code "{") ⊎ (c ≢ code "{") → ValueFirm w (c ∷ t)
    by_brace (inl e) = subst (λ d. ValueFirm w (d ∷ t)) (sym e) (value_brace w t)
    by_brace (inr other) = value_other w c t other

coded_on : (h : ℕ) (b c : Bool) (y z : Escape) (t u : Text) (there other : Text → Reading Escape) → Begins t →
    ((s : Text) → there s ≡ (if b then gives y (u ++ s) else if c then gives z (u ++ s) else other s)) →
    Firm t (if b then gives y u else if c then gives z u else error_at h invalid_codepoint_value) there
coded_on h true c y z t u there other front same = (front, same)
coded_on h false true y z t u there other front same = (front, same)
coded_on h false false y z t u there other front same = tt

coded_firm : (f : Flags) (w h : ℕ) (h' : Text → ℕ) (t : Text) (o : Reading ℕ) (there : Text → Reading ℕ) →
    Firm t o there → Firm t (o >=> leaf_of_value f w h) (λ s. there s >=> leaf_of_value f w (h' s))
unfolding leaf_of_value
coded_firm f w h h' t (gives a u) there (front, same) =
    coded_on h (w == 2 && not f.unicode && nat_le 0x80 a && nat_le a 0xFF) (is_scalar a) (literal_bytes a)
    (literal a f.casei) t u _ (λ s. error_at (h' s) invalid_codepoint_value) front
    (λ s. ap (λ o. o >=> leaf_of_value f w (h' s)) (same s))
coded_firm f w h h' t (fails e) there k = tt

hex_stays : (f : Flags) (w : ℕ) (t : Text) → Stays (hex f (suc w) t) (λ s. hex f (suc w) (t ++ s))
unfolding hex
hex_stays f w t =
    after_layout f.ignore_space t
    (λ v. value f.ignore_space (reach_of v) (suc w) v >=> leaf_of_value f (suc w) (reach_of v))
    (λ s v. value f.ignore_space (reach_of v) (suc w) v >=> leaf_of_value f (suc w) (reach_of v))
    (λ v. coded_firm f (suc w) (reach_of v) (λ s. reach_of (v ++ s)) v _ _
    (value_firm f.ignore_space (reach_of v) (λ s. reach_of (v ++ s)) w v))

-- Properties.

cut_stays : (delimiter : ℕ) (t : Text) → StaysSome (cut_at delimiter t) (λ s. cut_at delimiter (t ++ s))
cut_stays delimiter [] = tt
cut_stays delimiter (c ∷ t) = some_if (c == delimiter) _ _ _ _ (λ s. refl)
    (some_map (λ w. c ∷ w) _ _ (cut_stays delimiter t))

name_stays : (c : ℕ) (t : Text) → StaysSome (name_at (c ∷ t)) (λ s. name_at (c ∷ (t ++ s)))
unfolding name_at
name_stays c t = some_if (c == code "{") _ _ _ _ (some_map property_spec.braced _ _ (cut_stays (code "}") t))
    (λ s. refl)

pub read_stays : (b : Bool) (c : ℕ) (t : Text) →
    StaysSome (read_property b (c ∷ t)) (λ s. read_property b (c ∷ (t ++ s)))
unfolding read_property
read_stays b c t = some_map (λ (w : PropertyName). let p : Property = record { negated = b; name = w } in p) _ _
    (name_stays c t)

property_on : (f : Flags) (p q c d : ℕ) (t : Text) (o : Option (Property × Text)) →
    StaysSome o (λ s. read_property (c ∈ "P") (d ∷ (t ++ s))) →
    Stays (choose o (λ q. gives (delegate (property_text f.unicode true q.0) f.casei) q.1)
    (error_at p unclosed_unicode_name)) (λ s. property f true q c (d ∷ (t ++ s)))
unfolding property
property_on f p q c d t None h = tt
property_on f p q c d t (Some a) same = λ s.
    ap (λ (o : Option (Property × Text)). choose o
    (λ q. gives (delegate (property_text f.unicode true q.0) f.casei) q.1) (error_at q unclosed_unicode_name))
    (same s)

property_stays : (f : Flags) (p q c : ℕ) (t : Text) → Stays (property f true p c t) (λ s. property f true q c (t ++ s))
unfolding property
property_stays f p q c [] = tt
property_stays f p q c (d ∷ t) = property_on f p q c d t _ (read_stays (c ∈ "P") d t)

-- The table.

numbered_on : (p : ℕ) (there : Text → Reading Escape) (o : Reading ℕ) →
    Stays (o >=> (λ k u. error_at p invalid_class)) there
numbered_on p there (gives k u) = tt
numbered_on p there (fails e) = tt

number_escape_stays : (f : Flags) (p : ℕ) (t : Text) (there : Text → Reading Escape) →
    Stays (number_escape f true p t) there
unfolding number_escape
number_escape_stays f p t there = numbered_on p there (group_number t)

lone_stays : (p q c : ℕ) (t : Text) (o : Option Escape) →
    Stays (choose o (λ e. gives e t) (fails (letter_of_no_escape p c)))
    (λ s. choose o (λ e. gives e (t ++ s)) (fails (letter_of_no_escape q c)))
lone_stays p q c t (Some e) = λ s. refl
lone_stays p q c t None = tt

escape_stays : (f : Flags) (p q : ℕ) (t : Text) →
    Stays (escape_at f true p t) (λ s. escape_at f true q (t ++ s))
unfolding escape_at
escape_stays f p q [] = tt
escape_stays f p q (c ∷ t) =
    stays_if (is_ascii_digit c) _ _ _ _ (number_escape_stays f p (c ∷ t) _)
    (stays_if (c ∈ "x") _ _ _ _ (hex_stays f 1 t)
    (stays_if (c ∈ "u") _ _ _ _ (hex_stays f 3 t)
    (stays_if (c ∈ "U") _ _ _ _ (hex_stays f 7 t)
    (stays_if (c ∈ "pP") _ _ _ _ (property_stays f p q c t) (lone_stays p q c t (lone_escape f true c))))))

-- the value of the escape and the rest of the text stay the same
pub escape_frame : (f : Flags) (t u s : Text) (e : Escape) → escape f true t ≡ gives e u →
    escape f true (t ++ s) ≡ gives e (u ++ s)
escape_frame f t u s e h =
    let q = reach_of (t ++ s) + 1 in
    (subst (λ o. Stays o (λ z. escape_at f true q (t ++ z))) h (escape_stays f (reach_of t + 1) q t)) s
