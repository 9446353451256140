-- The source of a Delegate, part by part.
use Rattle.std.proofs.Common.{◌≡◌, ◌≢◌, ◌⊎◌, inl, inr, ℕ, ◌<◌, ◌==◌, Bool, true, false, not, ◌||◌}
use Rattle.std.proofs.Common.{List, [], ◌∷◌, ◌++◌, length, length-append, Option, Some, None, if◌then◌else◌}
use Rattle.std.proofs.Common.{refl, ap, sym, subst, ◌∙◌, arith, eq-eqb}
use Rattle.std.proofs.Math.Bool.{or-false}
use Rattle.std.proofs.lemmas.Bool.{ne_eqb, or_parts}
use Rattle.std.specs.Option.{option_or}
use Prim.Native.Char.{code}
use Rattle.fancy_lex.specs.Characters.{◌∈◌}
use Rattle.fancy_lex.specs.Property.{letter}
use Rattle.fancy_lex.specs.Reading.{choose}
use Rattle.fancy_lex.specs.Text.{Text, EndsWith, strip_word, cut_at}
use Rattle.fancy_grammar.specs.PatternLetters.{by_letter_or, plain}
use Rattle.fancy_grammar.specs.PatternSource.{Replaced, Part, part, written_after, replaced, replaced_part}
use Rattle.fancy_grammar.specs.PatternSource.{named_property, property_part, single_part, part_at, source_from}
use Rattle.fancy_pattern.proofs.SourceLemmas.{source_goes_on, source_ends, part_left}
use Rattle.fancy_pattern.specs.TextOutput.{Added}
use Rattle.fancy_pattern.specs.Source.{AddedPart, part_of, found_part}
use Rattle.fancy_pattern.specs.declared.output.TextOutput.{TextOutput}
use Rattle.fancy_pattern.specs.declared.source.FoundEscape.{FoundEscape}
use Rattle.fancy_pattern.proofs.OutputLemmas.{Adding, adding_as, adding_later}

-- ---- the escapes that are found

replaced-append : (seen : Bool) (t : Text) (l k : List Replaced) →
    replaced_part seen (l ++ k) t ≡ option_or (replaced_part seen l t) (replaced_part seen k t)
replaced-append seen t [] k = refl
replaced-append seen t (r ∷ l) k = at (strip_word (written_after seen r) t) (replaced-append seen t l k)
  where
    at : (o : Option Text) → replaced_part seen (l ++ k) t ≡ option_or (replaced_part seen l t) (replaced_part seen k t) →
        choose o (λ u. Some (record { source = r.escape; rest = u; negated = r.negated })) (replaced_part seen (l ++ k) t)
        ≡ option_or
        (choose o (λ u. Some (record { source = r.escape; rest = u; negated = r.negated })) (replaced_part seen l t))
        (replaced_part seen k t)
    at (Some u) h = refl
    at None h = h

found_or : (a b : Option FoundEscape) → found_part (option_or a b) ≡ option_or (found_part a) (found_part b)
found_or (Some f) b = refl
found_or None b = refl

-- found in one list, or else in the other
pub found_either : (seen : Bool) (t : Text) (l k : List Replaced) (r a b : Option FoundEscape) → r ≡ option_or a b →
    found_part a ≡ replaced_part seen l t → found_part b ≡ replaced_part seen k t →
    found_part r ≡ replaced_part seen (l ++ k) t
found_either seen t l k r a b e p q =
    ap found_part e ∙ found_or a b ∙ ap (λ o. option_or o (found_part b)) p
    ∙ ap (option_or (replaced_part seen l t)) q ∙ sym (replaced-append seen t l k)

-- none, if no text that the reader writes for an escape begins with the first character
pub none_replaced : (unicode seen : Bool) (c : ℕ) (t text : Text) → text ≡ c ∷ t → c ∈ "\\[&" ≡ false →
    None ≡ replaced_part seen (replaced unicode) text
none_replaced unicode seen c t text e h =
    let (slash, others) = or_parts _ _ h in
    let (bracket, joints) = or_parts _ _ others in
    subst (λ u. None ≡ replaced_part seen (replaced unicode) u) (sym e) (at unicode seen slash bracket joints)
  where
    at : (b s : Bool) → (c == code "\\") ≡ false → (c == 91) ≡ false → (c == 38) ≡ false →
        None ≡ replaced_part s (replaced b) (c ∷ t)
    at true true slash bracket joints = rw (slash, bracket, joints) refl
    at true false slash bracket joints = rw (slash, bracket) refl
    at false true slash bracket joints = rw slash refl
    at false false slash bracket joints = rw slash refl

-- ---- the parts that are written

pub added_part : (a b : TextOutput) (p q : Part) (left : Text) → q ≡ p →
    Added a b p.source → left ≡ p.rest → AddedPart a b q left
added_part a b p q left e s r = subst (λ x. AddedPart a b x left) (sym e) (record { source = s; rest = r })

-- no escape begins there
pub single_plain : (c : ℕ) (t : Text) → (c ≢ code "\\") ⊎ (t ≡ []) → single_part c t ≡ part (by_letter_or c (plain c)) t
single_plain c [] h = refl
single_plain c (d ∷ t) (inl h) = rw (ne_eqb c (code "\\") h) refl
single_plain c (d ∷ t) (inr h) = absurd (cc)

pub single_escape : (c d : ℕ) (t u : Text) → c ≡ code "\\" → d ≢ 112 → d ≢ 80 → t ≡ d ∷ u →
    single_part c t ≡ part (c ∷ d ∷ []) u
single_escape c d t u h k l e = rw (e, eq-eqb c (code "\\") h, ne_eqb d 112 k, ne_eqb d 80 l) refl

-- and it is no negated set
property_keeps : (upper : Bool) (t : Text) → (property_part upper t).negated ≡ false
property_keeps upper [] = refl
property_keeps upper (c ∷ t) = at (not (c == code "{")) (cut_at (code "}") t)
  where
    at : (b : Bool) (o : Option (Text × Text)) →
        (if b then part (letter upper ++ (c ∷ [])) t
        else choose o (λ q. part (named_property upper q.0) q.1) (part (letter upper) (c ∷ t))).negated ≡ false
    at true o = refl
    at false (Some q) = refl
    at false None = refl

single_keeps : (c : ℕ) (t : Text) → (single_part c t).negated ≡ false
single_keeps c [] = refl
single_keeps c (d ∷ t) = at (not (c == code "\\")) (d ∈ "pP")
  where
    at : (b e : Bool) →
        (if b then part (by_letter_or c (plain c)) (d ∷ t)
        else if e then property_part (d ∈ "P") t
        else part (c ∷ d ∷ []) t).negated ≡ false
    at true e = refl
    at false true = property_keeps (d ∈ "P") t
    at false false = refl

-- ---- step by step

-- a part at the start of the text
pub record Begins (unicode seen : Bool) (text : Text) (p : Part) : Type 0 where
  pub first : ℕ
  pub after : Text
  pub cut : text ≡ first ∷ after
  pub part : part_at unicode seen first after ≡ p

pub begins_replaced : (unicode seen : Bool) (c : ℕ) (t text : Text) (f : FoundEscape) → text ≡ c ∷ t →
    Some (part_of f) ≡ replaced_part seen (replaced unicode) text → Begins unicode seen text (part_of f)
begins_replaced unicode seen c t text f e h = record {
  first = c;
  after = t;
  cut = e;
  part = ap (λ o. choose o (λ p. p) (single_part c t)) (ap (replaced_part seen (replaced unicode)) (sym e) ∙ sym h);
}

pub begins_single : (unicode seen : Bool) (c : ℕ) (t text : Text) → text ≡ c ∷ t →
    None ≡ replaced_part seen (replaced unicode) text → Begins unicode seen text (single_part c t)
begins_single unicode seen c t text e h = record {
  first = c;
  after = t;
  cut = e;
  part = ap (λ o. choose o (λ p. p) (single_part c t)) (ap (replaced_part seen (replaced unicode)) (sym e) ∙ sym h);
}

-- it takes a character or more
pub part_shorter : (unicode seen : Bool) (text left : Text) (p : Part) → Begins unicode seen text p → left ≡ p.rest →
    length left < length text
part_shorter unicode seen text left p b e =
    at (part_left unicode seen b.first b.after)
  where
    at : EndsWith b.after (part_at unicode seen b.first b.after).rest → length left < length text
    at (w, cut) =
        omega (
          arith,
          ap length b.cut,
          ap length cut,
          length-append w (part_at unicode seen b.first b.after).rest,
          ap (λ (q : Part). length q.rest) b.part,
          ap length e,
        )

pub part_written : (a b d : TextOutput) (unicode seen again : Bool)
    (text left whole : Text) (p : Part) → Begins unicode seen text p → again ≡ (seen || p.negated) →
    Adding a b (source_from unicode seen text) whole → AddedPart b d p left →
    Adding a d (source_from unicode again left) whole
part_written a b d unicode seen again text left whole p s n w q =
    let on : source_from unicode seen text ≡ p.source ++ source_from unicode (seen || p.negated) p.rest =
    ap (source_from unicode seen) s.cut ∙ source_goes_on unicode seen s.first s.after
    ∙ ap (λ (x : Part). x.source ++ source_from unicode (seen || x.negated) x.rest) s.part in
    adding_as a d (source_from unicode (seen || p.negated) p.rest) _ whole
    (ap (λ b. source_from unicode b p.rest) (sym n) ∙ ap (source_from unicode again) (sym q.rest))
    (adding_later a b d p.source _ _ whole on w q.source)

pub seen_still : (seen : Bool) (c : ℕ) (t : Text) → seen ≡ (seen || (single_part c t).negated)
seen_still seen c t = sym (ap (λ b. seen || b) (single_keeps c t) ∙ or-false seen)

pub source_done : (unicode seen : Bool) (t : Text) → t ≡ [] → source_from unicode seen t ≡ []
source_done unicode seen t e = ap (source_from unicode seen) e ∙ source_ends unicode seen
