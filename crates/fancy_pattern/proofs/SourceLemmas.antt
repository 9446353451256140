-- How the source of a Delegate continues after one of its parts.
use Rattle.std.proofs.Common.{◌≡◌, ℕ, zero, suc, ◌≤◌, ◌+◌, ◌==◌, Bool, true, false, not, ◌||◌, List, [], ◌∷◌, ◌++◌, Option}
use Rattle.std.proofs.Common.{Some, None, refl, ap, ◌∙◌, length, length-append, arith, if◌then◌else◌}
use Rattle.std.specs.List.{AllByRecursion}
use Rattle.std.specs.Prelude.{option_map, option_and_then, ◌&&◌}
use Prim.Native.Char.{code}
use Rattle.fancy_lex.specs.Characters.{◌∈◌}
use Rattle.fancy_lex.specs.Class.{joint}
use Rattle.fancy_lex.specs.Property.{letter}
use Rattle.fancy_lex.specs.Reading.{choose}
use Rattle.fancy_lex.specs.Text.{Text, EndsWith, strip_word, cut_at}
use Rattle.fancy_lex.proofs.LeaveLaws.{LeavesSome, ends_whole, ends_past}
use Rattle.fancy_grammar.specs.PatternLetters.{by_letter_or, plain}
use Rattle.fancy_grammar.specs.PatternSource.{Replaced, Part, part, written_after, replaced, replaced_part, part_at}
use Rattle.fancy_grammar.specs.PatternSource.{named_property, property_part, single_part, source_from, parts_in}

-- the rest of the text, if a word was removed from it
abbrev Stripped : Text → Option Text → Type 0
Stripped t (Some u) = EndsWith t u
Stripped t None = Unit {0}

past : (c : ℕ) (t : Text) (o : Option Text) → Stripped t o → Stripped (c ∷ t) o
past c t (Some u) h = ends_past c t u h
past c t None h = tt

word_left : (w t : Text) → Stripped t (strip_word w t)
word_left [] t = ends_whole t
word_left (d ∷ w) [] = tt
word_left (d ∷ w) (c ∷ t) = at (c == d) (word_left w t)
  where
    at : (b : Bool) → Stripped t (strip_word w t) →
        Stripped (c ∷ t) (option_and_then (strip_word w) (if b then Some t else None))
    at true h = past c t (strip_word w t) h
    at false h = tt

-- a word takes the first character
abbrev IsWord : Text → Type 0
IsWord [] = ⊥
IsWord (c ∷ t) = Unit {0}

word_takes : (w : Text) (c : ℕ) (t : Text) → IsWord w → Stripped t (strip_word w (c ∷ t))
word_takes [] c t h = absurd h
word_takes (d ∷ w) c t h = at (c == d)
  where
    at : (b : Bool) → Stripped t (option_and_then (strip_word w) (if b then Some t else None))
    at true = word_left w t
    at false = tt

-- the rest after a part
abbrev LeavesPart : Text → Option Part → Type 0
LeavesPart t (Some p) = EndsWith t p.rest
LeavesPart t None = Unit {0}

abbrev AreWords : List Replaced → Type 0
AreWords l = AllByRecursion (λ r. IsWord r.written) l

joined_word : (b : Bool) (w : Text) → IsWord w → IsWord (joint b ++ w)
joined_word true w h = tt
joined_word false w h = h

replaced_left : (seen : Bool) (l : List Replaced) (c : ℕ) (t : Text) → AreWords l →
    LeavesPart t (replaced_part seen l (c ∷ t))
replaced_left seen [] c t h = tt
replaced_left seen (r ∷ l) c t h =
    at (strip_word (written_after seen r) (c ∷ t)) (replaced_part seen l (c ∷ t))
    (word_takes (written_after seen r) c t (joined_word (seen && r.negated) r.written h.0))
    (replaced_left seen l c t h.1)
  where
    at : (o : Option Text) (p : Option Part) → Stripped t o → LeavesPart t p → LeavesPart t
        (choose o (λ u. Some (record { source = r.escape; rest = u; negated = r.negated })) p)
    at (Some u) p e k = e
    at None p e k = k

all_words : (unicode : Bool) → AreWords (replaced unicode)
all_words true = (tt, (tt, (tt, (tt, (tt, (tt, tt))))))
all_words false = (tt, tt)

cut_left : (delimiter : ℕ) (t : Text) → LeavesSome t (cut_at delimiter t)
cut_left delimiter [] = tt
cut_left delimiter (c ∷ t) = at (c == delimiter) (cut_at delimiter t) (cut_left delimiter t)
  where
    at : (b : Bool) (o : Option (Text × Text)) → LeavesSome t o →
        LeavesSome (c ∷ t) (if b then Some ([], t) else option_map (λ p. (c ∷ p.0, p.1)) o)
    at true o h = ends_past c t t (ends_whole t)
    at false (Some q) h = ends_past c t q.1 h
    at false None h = tt

property_left : (upper : Bool) (t : Text) → EndsWith t (property_part upper t).rest
property_left upper [] = ends_whole []
property_left upper (c ∷ t) = at (not (c == code "{")) (cut_at (code "}") t) (cut_left (code "}") t)
  where
    at : (b : Bool) (o : Option (Text × Text)) → LeavesSome t o → EndsWith (c ∷ t)
        (if b then part (letter upper ++ (c ∷ [])) t
        else choose o (λ q. part (named_property upper q.0) q.1) (part (letter upper) (c ∷ t))).rest
    at true o h = ends_past c t t (ends_whole t)
    at false (Some q) h = ends_past c t q.1 h
    at false None h = ends_whole (c ∷ t)

single_left : (c : ℕ) (t : Text) → EndsWith t (single_part c t).rest
single_left c [] = ends_whole []
single_left c (d ∷ t) = at (not (c == code "\\")) (d ∈ "pP")
  where
    at : (b e : Bool) → EndsWith (d ∷ t)
        (if b then part (by_letter_or c (plain c)) (d ∷ t)
        else if e then property_part (d ∈ "P") t
        else part (c ∷ d ∷ []) t).rest
    at true e = ends_whole (d ∷ t)
    at false true = ends_past d t (property_part (d ∈ "P") t).rest (property_left (d ∈ "P") t)
    at false false = ends_past d t t (ends_whole t)

pub part_left : (unicode seen : Bool) (c : ℕ) (t : Text) → EndsWith t (part_at unicode seen c t).rest
part_left unicode seen c t =
    at (replaced_part seen (replaced unicode) (c ∷ t)) (replaced_left seen (replaced unicode) c t (all_words unicode))
  where
    at : (o : Option Part) → LeavesPart t o → EndsWith t (choose o (λ p. p) (single_part c t)).rest
    at (Some p) h = h
    at None h = single_left c t

part_length : (unicode seen : Bool) (c : ℕ) (t : Text) → length (part_at unicode seen c t).rest ≤ length t
part_length unicode seen c t = at (part_at unicode seen c t) (part_left unicode seen c t)
  where
    at : (p : Part) → EndsWith t p.rest → length p.rest ≤ length t
    at p (w, e) =
        let long : length t ≡ length w + length p.rest = ap length e ∙ length-append w p.rest in omega (arith, long)

-- as many parts as the text has characters are all
enough : (unicode seen : Bool) (n m : ℕ) (t : Text) → length t ≤ n → length t ≤ m →
    parts_in unicode seen n t ≡ parts_in unicode seen m t
unfolding parts_in
enough unicode seen n m [] h k = refl
enough unicode seen zero m (c ∷ t) h k = absurd (omega (arith, h))
enough unicode seen (suc n) zero (c ∷ t) h k = absurd (omega (arith, k))
enough unicode seen (suc n) (suc m) (c ∷ t) h k =
    let p = part_at unicode seen c t in
    let l = part_length unicode seen c t in
    ap (λ s. p.source ++ s)
    (enough unicode (seen || p.negated) n m p.rest (omega (arith, h, l)) (omega (arith, k, l)))

pub source_ends : (unicode seen : Bool) → source_from unicode seen [] ≡ []
unfolding parts_in
source_ends unicode seen = refl

-- the source continues after its first part
pub source_goes_on : (unicode seen : Bool) (c : ℕ) (t : Text) → source_from unicode seen (c ∷ t)
    ≡ (part_at unicode seen c t).source
    ++ source_from unicode (seen || (part_at unicode seen c t).negated) (part_at unicode seen c t).rest
unfolding parts_in
source_goes_on unicode seen c t =
    let p = part_at unicode seen c t in
    enough unicode seen (length (c ∷ t)) (suc (length t)) (c ∷ t) (omega arith) (omega arith)
    ∙ ap (λ s. p.source ++ s)
    (enough unicode (seen || p.negated) (length t) (length p.rest) p.rest (part_length unicode seen c t) (omega arith))
