-- The texts that matches begin with, node by node.
use Rattle.std.proofs.Common.{IfSome, ◌≡◌, ℕ, zero, suc, ◌+◌, ◌≤◌, ◌==◌, ◌&&◌, ◌⊎◌, Bool, true, false, nat_eq, if◌then◌else◌, [], ◌∷◌, ◌++◌, length, length-drop, min, take, drop, Option, None, Some, Result, Ok, Err, IfOk, inl, inr, refl, sym, ap, ◌∙◌, subst, append_assoc, append-nil, eqb-true, eq-eqb, arith}
use Rattle.std.specs.Prelude.{MatchOption}
use Rattle.std.specs.List.{common_prefix_len}
use Rattle.std.proofs.lemmas.List.Sums.{common_prefix_len-le}
use Rattle.std.proofs.lemmas.Bool.{false≢true, and_parts, cases_Bool}
use Rattle.fancy_lex.specs.Text.{Text}
use Rattle.class_meaning.specs.ClassMeaning.{IsMeaningOf}
use Rattle.class_meaning.specs.EnginePattern.{engine_pattern}
use Rattle.class_meaning.specs.declared.character_set.CharacterSet.{CharacterSet}
use Rattle.class_meaning.specs.declared.class_text.ClassMeaning.TheVariants.{Characters, NotOneCharacter}
use Rattle.fancy_grammar.specs.Label as label
use Rattle.fancy_grammar.specs.Label.{Leaf, Wrap, Row}
use Rattle.fancy_grammar.specs.Tree.{Tree, Trees, leaf, over, row, no_trees, more_trees, any, literal, delegate}
use Rattle.fancy_grammar.specs.declared.kinds.LookAround.{LookAround}
use Rattle.std.specs.Char.{IsScalar}
use Rattle.std.specs.Option.{is_some}
use Rattle.pattern_matches.specs.Defined.{AreDefined}
use Rattle.pattern_facts.proofs.PlainLemmas.{only_it, plain_defined}
use Rattle.pattern_matches.specs.Matches.{Assertions, HasCharacter, IsOneOf, Matches, RowMatches, LeafMatches, WrapMatches, NoneMatch, MoreMatch}
use Rattle.pattern_matches.specs.Parts.{Position, Parts, One, one, Times, Repeated}
use Rattle.pattern_matches.proofs.CharacterLemmas.{same_ranges}
use Rattle.pattern_facts.specs.Bytes.{IsCharacterOf}
use Rattle.pattern_facts.specs.Known.{is_empty_leaf}
use Rattle.pattern_facts.specs.Lengths.{row_of}
use Rattle.pattern_facts.specs.Prefix.{ArePrefixed, HasPrefix, IsOr, IsPrefix, IsPrefixOfSet, IsPrefixed, IsRepeated, IsSettled, IsTaken, IsText, IsTextAndMore, IsThen, IsWhole}
use Rattle.pattern_facts.specs.declared.lengths.ListKind.{ListKind}
use Rattle.pattern_facts.specs.declared.lengths.ListKind.TheVariants as kind
use Rattle.pattern_facts.specs.declared.prefix.Prefix.{Prefix}

-- ---- a part is a text

-- each part of P is some text
Passes : Parts → Type 0
Passes P = (p q : Position) → P p q → (w : Text) × IsText w p q

no_text : (p q : Position) → p ≡ q → IsText [] p q
no_text p q h = ap (λ (x : Position). x.after) h

text_then : (w v : Text) (p m q : Position) → IsText w p m → IsText v m q → IsText (w ++ v) p q
text_then w v p m q h k = h ∙ ap (λ a. w ++ a) k ∙ sym (append_assoc w v q.after)

one_passes : (Has : ℕ → Type 0) → Passes (One Has)
unfolding Passes
one_passes Has _ _ (one {c = c} {b = b} {a = a} h) = (c ∷ [], refl)

leaf_passes : (u : Bool) (s : Assertions) (l : Leaf) → Passes (LeafMatches u s l)
unfolding Passes
leaf_passes u s label.empty p q k = ([], no_text p q k)
leaf_passes u s (label.assertion a) p q k = ([], no_text p q k.0)
leaf_passes u s (label.any newline crlf) p q k = one_passes _ p q k
leaf_passes u s (label.literal text casei) p q k = one_passes _ p q k
leaf_passes u s (label.delegate text casei) p q k = one_passes _ p q k
leaf_passes u s _ p q k = absurd k

times_pass : (P : Parts) → Passes P → (n : ℕ) → Passes (Times P n)
unfolding Passes
times_pass P f zero p q k = ([], no_text p q k)
times_pass P f (suc n) p q k =
    let a = f p k.middle k.first in
    let b = times_pass P f n k.middle q k.second in
    (a.0 ++ b.0, text_then a.0 b.0 p k.middle q a.1 b.1)

wrap_passes : (w : Wrap) (P : Parts) → Passes P → Passes (WrapMatches w P)
unfolding Passes
wrap_passes label.group P f p q k = f p q k
wrap_passes (label.look_around l) P f p q k = ([], no_text p q k.0)
wrap_passes (label.repeat lo hi greedy) P f p q k = times_pass P f k.count p q k.turns
wrap_passes _ P f p q k = absurd k

none_passes : (r : Row) → Passes (NoneMatch r)
unfolding Passes
none_passes label.concat p q k = ([], no_text p q k)
none_passes _ p q k = absurd k

more_passes : (r : Row) (P Q : Parts) → Passes P → Passes Q → Passes (MoreMatch r P Q)
unfolding Passes
more_passes label.concat P Q f g p q k =
    let a = f p k.middle k.first in
    let b = g k.middle q k.second in
    (a.0 ++ b.0, text_then a.0 b.0 p k.middle q a.1 b.1)
more_passes label.alt P Q f g p q (inl k) = f p q k
more_passes label.alt P Q f g p q (inr k) = g p q k
more_passes label.expression P Q f g p q k = absurd k
more_passes label.conditional P Q f g p q k = absurd k

mutual
  unfolding Passes

  passes : (u : Bool) (s : Assertions) (t : Tree) (p q : Position) → Matches u s t p q → (w : Text) × IsText w p q
  passes u s (leaf l) p q k = leaf_passes u s l p q k
  passes u s (over w t) p q k = wrap_passes w (Matches u s t) (λ p q k. passes u s t p q k) p q k
  passes u s (row r ts) p q k = row_passes u s r ts p q k

  row_passes : (u : Bool) (s : Assertions) (r : Row) (ts : Trees) (p q : Position) → RowMatches u s r ts p q →
      (w : Text) × IsText w p q
  row_passes u s r no_trees p q k = none_passes r p q k
  row_passes u s r (more_trees t ts) p q k =
      more_passes r (Matches u s t) (RowMatches u s r ts) (λ p q k. passes u s t p q k)
      (λ p q k. row_passes u s r ts p q k) p q k

-- ---- texts at the front of parts

text_as : (w v : Text) (p q : Position) → w ≡ v → IsText w p q → IsText v p q
text_as w v p q e h = subst (λ x. IsText x p q) e h

begins_as : (w v : Text) (p q : Position) → w ≡ v → IsTextAndMore w p q → IsTextAndMore v p q
begins_as w v p q e h = subst (λ x. IsTextAndMore x p q) e h

-- a text is all of a part, or of its beginning
of_text : (w : Text) (p q : Position) → IsText w p q → IsTextAndMore w p q
of_text w p q h = ([], text_as w (w ++ []) p q (sym (append-nil w)) h)

then_more : (w v : Text) (p m q : Position) → IsTextAndMore w p m → IsText v m q → IsTextAndMore w p q
then_more w v p m q h k = (
  h.0 ++ v,
  text_as ((w ++ h.0) ++ v) (w ++ (h.0 ++ v)) p q (append_assoc w h.0 v)
      (text_then (w ++ h.0) v p m q h.1 k),
)

text_then_more : (w v : Text) (p m q : Position) → IsText w p m → IsTextAndMore v m q → IsTextAndMore (w ++ v) p q
text_then_more w v p m q h k = (
  k.0,
  text_as (w ++ (v ++ k.0)) ((w ++ v) ++ k.0) p q (sym (append_assoc w v k.0))
      (text_then w (v ++ k.0) p m q h k.1),
)

-- a shorter text
shorter : (w v : Text) (p q : Position) → IsTextAndMore (w ++ v) p q → IsTextAndMore w p q
shorter w v p q h = (v ++ h.0, text_as ((w ++ v) ++ h.0) (w ++ (v ++ h.0)) p q (append_assoc w v h.0) h.1)

-- ---- leaves

pub empty_leaf_prefix : (u : Bool) (t : Tree) (x : Prefix) → is_empty_leaf t ≡ true → x.characters.items ≡ [] →
    HasPrefix u t x
empty_leaf_prefix u (leaf label.empty) x h none = record {
  defined = tt;
  begins = λ s p q k. begins_as [] x.characters.items p q (sym none) (of_text [] p q (no_text p q k));
  whole = λ is_all s p q k. text_as [] x.characters.items p q (sym none) (no_text p q k);
}
empty_leaf_prefix u (leaf (label.assertion a)) x h none = record {
  defined = tt;
  begins = λ s p q k. begins_as [] x.characters.items p q (sym none) (of_text [] p q (no_text p q k.0));
  whole = λ is_all s p q k. text_as [] x.characters.items p q (sym none) (no_text p q k.0);
}
empty_leaf_prefix u (leaf l) x h none = absurd (false≢true h)
empty_leaf_prefix u (over w t) x h none = absurd (false≢true h)
empty_leaf_prefix u (row r ts) x h none = absurd (false≢true h)

-- a part of one character
one_text : (Has : ℕ → Type 0) (c : ℕ) → ((d : ℕ) → Has d → d ≡ c) → (p q : Position) → One Has p q →
    IsText (c ∷ []) p q
one_text Has c f _ _ (one {c = d} {b = b} {a = a} h) = ap (λ x. x ∷ a) (f d h)

-- what a set's prefix says of parts of one character
abbrev Says : (ℕ → Type 0) → Prefix → Type 0
Says Has x = (p q : Position) → One Has p q →
    IsTextAndMore x.characters.items p q × (x.is_whole ≡ true → IsText x.characters.items p q)

set_says : (u : Bool) (t : Tree) (set : CharacterSet) (x : Prefix) → IsPrefixOfSet set x →
    IsOneOf u t set.class.ranges.items → Says (HasCharacter u t) x
unfolding Passes
set_says u t set x (inl h) is p q k =
    let w = text_as (h.0 ∷ []) x.characters.items p q (sym h.1) (one_text (HasCharacter u t) h.0
    (λ d l. h.2 d (same_ranges u t set.class.ranges.items l.ranges is l.reads d l.scalar ∙ l.inside)) p q k) in
    (of_text x.characters.items p q w, λ is_all. w)
set_says u t set x (inr h) is p q k =
    let w = one_passes (HasCharacter u t) p q k in
    (begins_as [] x.characters.items p q (sym h.0) w, λ is_all. absurd (false≢true (sym h.1 ∙ is_all)))

pub set_prefix : (u : Bool) (t : Tree) (set : CharacterSet) (x : Prefix) → IsPrefixOfSet set x →
    MatchOption (engine_pattern u t) (Characters set ≡ NotOneCharacter)
    (λ (config, text). IsMeaningOf config text (Characters set)) → HasPrefix u t x
set_prefix u (leaf (label.any newline crlf)) set x h is = record {
  defined = (set.class.ranges.items, is);
  begins = λ s p q k. (set_says u (any newline crlf) set x h is p q k).0;
  whole = λ is_all s p q k. (set_says u (any newline crlf) set x h is p q k).1 is_all;
}
set_prefix u (leaf (label.literal text casei)) set x h is = record {
  defined = (set.class.ranges.items, is);
  begins = λ s p q k. (set_says u (literal text casei) set x h is p q k).0;
  whole = λ is_all s p q k. (set_says u (literal text casei) set x h is p q k).1 is_all;
}
set_prefix u (leaf (label.delegate text casei)) set x h is = record {
  defined = (set.class.ranges.items, is);
  begins = λ s p q k. (set_says u (delegate text casei) set x h is p q k).0;
  whole = λ is_all s p q k. (set_says u (delegate text casei) set x h is p q k).1 is_all;
}
set_prefix u (leaf l) set x h is = let y = is in cc
set_prefix u (over w t) set x h is = let y = is in cc
set_prefix u (row r ts) set x h is = let y = is in cc

-- the prefix of a literal of one character, and of a node of one character that is not said
pub plain_prefix : (u : Bool) (t : Tree) (c : ℕ) (x : Prefix) → IsScalar c → t ≡ literal (c ∷ []) false →
    x.characters.items ≡ c ∷ [] → HasPrefix u t x
plain_prefix u t c x scalar is own = subst (λ y. HasPrefix u y x) (sym is) (record {
  defined = plain_defined u c scalar;
  begins = λ s p q k. of_text x.characters.items p q (text_as (c ∷ []) x.characters.items p q (sym own)
      (one_text (HasCharacter u (literal (c ∷ []) false)) c (only_it u c scalar) p q k));
  whole = λ is_all s p q k. text_as (c ∷ []) x.characters.items p q (sym own)
      (one_text (HasCharacter u (literal (c ∷ []) false)) c (only_it u c scalar) p q k);
})

-- no text of a part of one character
no_text_of : (Has : ℕ → Type 0) (x : Prefix) → x.characters.items ≡ [] → (p q : Position) → One Has p q →
    IsTextAndMore x.characters.items p q
unfolding Passes
no_text_of Has x none p q k = begins_as [] x.characters.items p q (sym none) (one_passes Has p q k)

character_prefix : (u : Bool) (t : Tree) (n m : ℕ) (x : Prefix) → IsCharacterOf u t n m →
    x.characters.items ≡ [] → x.is_whole ≡ false → HasPrefix u t x
character_prefix u (leaf (label.any newline crlf)) n m x is none part = record {
  defined = is.0;
  begins = λ s p q k. no_text_of (HasCharacter u (any newline crlf)) x none p q k;
  whole = λ is_all s p q k. absurd (false≢true (sym part ∙ is_all));
}
character_prefix u (leaf (label.literal text casei)) n m x is none part = record {
  defined = is.0;
  begins = λ s p q k. no_text_of (HasCharacter u (literal text casei)) x none p q k;
  whole = λ is_all s p q k. absurd (false≢true (sym part ∙ is_all));
}
character_prefix u (leaf (label.delegate text casei)) n m x is none part = record {
  defined = is.0;
  begins = λ s p q k. no_text_of (HasCharacter u (delegate text casei)) x none p q k;
  whole = λ is_all s p q k. absurd (false≢true (sym part ∙ is_all));
}
character_prefix u (leaf l) n m x is none part = absurd is.0.1
character_prefix u (over w t) n m x is none part = absurd is.0.1
character_prefix u (row r ts) n m x is none part = absurd is.0.1

pub unsaid_prefix : (u : Bool) (t : Tree) (o : Option (ℕ × ℕ)) (x : Prefix) → true ≡ is_some o →
    IfSome o (λ b. IsCharacterOf u t b.0 b.1) → x.characters.items ≡ [] → x.is_whole ≡ false → HasPrefix u t x
unsaid_prefix u t None x some h none part = absurd (false≢true (sym some))
unsaid_prefix u t (Some b) x some h none part = character_prefix u t b.0 b.1 x h none part

-- ---- nodes over one tree

pub group_prefix : (u : Bool) (t : Tree) (w : Wrap) (o : Option Prefix) (x : Prefix) → w ≡ label.group → o ≡ Some x →
    IsPrefix u t o → HasPrefix u (over w t) x
group_prefix u t w o x is some h =
    let k : HasPrefix u t x = subst (IsPrefix u t) some h in
    subst (λ y. HasPrefix u (over y t) x) (sym is) (record {
      defined = (tt, k.defined);
      begins = λ s p q l. k.begins s p q l;
      whole = λ is_all s p q l. k.whole is_all s p q l;
    })

pub look_prefix : (u : Bool) (t : Tree) (w : Wrap) (l : LookAround) (o : Option Prefix) (x put : Prefix) →
    w ≡ label.look_around l → o ≡ Some x → put.characters.items ≡ [] → IsPrefix u t o → HasPrefix u (over w t) put
look_prefix u t w l o x put is some none h =
    let k : HasPrefix u t x = subst (IsPrefix u t) some h in
    subst (λ y. HasPrefix u (over y t) put) (sym is) (record {
      defined = (tt, k.defined);
      begins = λ s p q m. begins_as [] put.characters.items p q (sym none) (of_text [] p q (no_text p q m.0));
      whole = λ is_all s p q m. text_as [] put.characters.items p q (sym none) (no_text p q m.0);
    })

no_turn : (P : Parts) (n : ℕ) (p q : Position) → n ≤ 0 → Times P n p q → p ≡ q
no_turn P zero p q high k = k
no_turn P (suc n) p q high k = absurd (omega arith)

first_turn : (P : Parts) (w : Text) → Passes P → ((p q : Position) → P p q → IsTextAndMore w p q) → (n : ℕ) → 1 ≤ n →
    (p q : Position) → Times P n p q → IsTextAndMore w p q
unfolding Passes
first_turn P w f g zero some p q k = absurd (omega arith)
first_turn P w f g (suc n) some p q k =
    let rest = times_pass P f n k.middle q k.second in
    then_more w rest.0 p k.middle q (g p k.middle k.first) rest.1

only_turn : (P : Parts) (w : Text) → ((p q : Position) → P p q → IsText w p q) → (n : ℕ) → n ≡ 1 → (p q : Position) →
    Times P n p q → IsText w p q
only_turn P w g zero single p q k = absurd (omega (arith, single))
only_turn P w g (suc n) single p q k =
    let e = no_turn P n k.middle q (omega (arith, single)) k.second in
    subst (λ (y : Position). IsText w p y) e (g p k.middle k.first)

-- what a repeat's prefix is, by whether its least number of turns is 0
abbrev RepeatedAt : Bool → ℕ → Prefix → Prefix → Type 0
RepeatedAt b hi once x =
    (x.characters.items ≡ (if b then [] else once.characters.items))
    × (x.is_whole ≡ (if b then hi == 0 else once.is_whole && (hi == 1)))

not_zero : (n : ℕ) → (n == 0) ≡ false → n ≡ 0 → ⊥
not_zero n e f = false≢true (sym e ∙ ap (λ m. m == 0) f)

one_more : (n k : ℕ) → (n ≡ 0 → ⊥) → n ≤ k → 1 ≤ k
one_more zero k f h = absurd (f refl)
one_more (suc n) k f h = omega (arith, h)

repeated_begins : (u : Bool) (s : Assertions) (t : Tree) (b : Bool) (lo hi : ℕ) (once x : Prefix) → (lo == 0) ≡ b →
    RepeatedAt b hi once x → HasPrefix u t once → (p q : Position) → Repeated (Matches u s t) lo hi p q →
    IsTextAndMore x.characters.items p q
unfolding Passes
repeated_begins u s t true lo hi once x is h has p q k =
    begins_as [] x.characters.items p q (sym h.0)
    (times_pass (Matches u s t) (λ y z l. passes u s t y z l) k.count p q k.turns)
repeated_begins u s t false lo hi once x is h has p q k =
    let some : lo ≡ 0 → ⊥ = not_zero lo is in
    begins_as once.characters.items x.characters.items p q (sym h.0)
    (first_turn (Matches u s t) once.characters.items (λ y z l. passes u s t y z l) (λ y z l. has.begins s y z l) k.count
    (one_more lo k.count some k.enough) p q k.turns)

exactly : (n k : ℕ) → (n == 0) ≡ false → n ≤ k → k ≤ 1 → k ≡ 1
exactly zero k e h l = absurd (false≢true (sym e))
exactly (suc n) k e h l = omega (arith, h, l)

repeated_whole : (u : Bool) (s : Assertions) (t : Tree) (b : Bool) (lo hi : ℕ) (once x : Prefix) → (lo == 0) ≡ b →
    RepeatedAt b hi once x → HasPrefix u t once → x.is_whole ≡ true → (p q : Position) →
    Repeated (Matches u s t) lo hi p q → IsText x.characters.items p q
repeated_whole u s t true lo hi once x is h has is_all p q k =
    let none : hi ≡ 0 = eqb-true hi 0 (sym h.1 ∙ is_all) in
    let few : k.count ≤ hi = k.few (omega (arith, none)) in
    text_as [] x.characters.items p q (sym h.0)
    (no_text p q (no_turn (Matches u s t) k.count p q (omega (arith, none, few)) k.turns))
repeated_whole u s t false lo hi once x is h has is_all p q k =
    let both = and_parts once.is_whole (hi == 1) (sym h.1 ∙ is_all) in
    let single : hi ≡ 1 = eqb-true hi 1 both.1 in
    let few : k.count ≤ hi = k.few (omega (arith, single)) in
    let turn : k.count ≡ 1 = exactly lo k.count is k.enough (omega (arith, single, few)) in
    text_as once.characters.items x.characters.items p q (sym h.0)
    (only_turn (Matches u s t) once.characters.items (λ y z l. has.whole both.0 s y z l) k.count turn p q k.turns)

pub repeat_prefix : (u : Bool) (t : Tree) (w : Wrap) (lo hi : ℕ) (greedy : Bool) (o : Option Prefix) (once x : Prefix) →
    w ≡ label.repeat lo hi greedy → o ≡ Some once → lo ≤ hi → IsRepeated lo hi once x → IsPrefix u t o →
    HasPrefix u (over w t) x
repeat_prefix u t w lo hi greedy o once x is some low f h =
    let k : HasPrefix u t once = subst (IsPrefix u t) some h in
    subst (λ y. HasPrefix u (over y t) x) (sym is) (record {
      defined = (low, k.defined);
      begins = λ s p q l. repeated_begins u s t (lo == 0) lo hi once x refl (f.characters, f.whole) k p q l;
      whole = λ is_all s p q l. repeated_whole u s t (lo == 0) lo hi once x refl (f.characters, f.whole) k is_all p q l;
    })

-- ---- what two texts begin with

shared : (xs ys : Text) → (a : Text) × (b : Text) × (xs ≡ take (common_prefix_len nat_eq xs ys) xs ++ a)
    × (ys ≡ take (common_prefix_len nat_eq xs ys) xs ++ b)
shared [] ys = ([], ys, refl, refl)
shared (x ∷ xs) [] = (x ∷ xs, [], refl, refl)
shared (x ∷ xs) (y ∷ ys) = elim (cases_Bool (nat_eq x y)) [
  | inl same ↦
      let k = shared xs ys in
      let n = common_prefix_len nat_eq xs ys in
      let at : common_prefix_len nat_eq (x ∷ xs) (y ∷ ys) ≡ suc n =
      ap (λ b. if b then 1 + n else 0) same ∙ (let e : 1 + n ≡ suc n = omega arith in e) in
      let front : take (common_prefix_len nat_eq (x ∷ xs) (y ∷ ys)) (x ∷ xs) ≡ x ∷ take n xs =
      ap (λ m. take m (x ∷ xs)) at in (
        k.0,
        k.1,
        ap (λ w. x ∷ w) k.2 ∙ sym (ap (λ w. w ++ k.0) front),
        ap (λ w. y ∷ w) k.3 ∙ ap (λ z. z ∷ (take n xs ++ k.1)) (sym (eqb-true x y same))
            ∙ sym (ap (λ w. w ++ k.1) front),
      )
  | inr other ↦
      let n = common_prefix_len nat_eq xs ys in
      let at : common_prefix_len nat_eq (x ∷ xs) (y ∷ ys) ≡ 0 = ap (λ b. if b then 1 + n else 0) other in
      let front : take (common_prefix_len nat_eq (x ∷ xs) (y ∷ ys)) (x ∷ xs) ≡ [] = ap (λ m. take m (x ∷ xs)) at in
      (x ∷ xs, y ∷ ys, sym (ap (λ w. w ++ (x ∷ xs)) front), sym (ap (λ w. w ++ (y ∷ ys)) front))
]

-- two texts that are what both begin with
pub same_texts : (xs ys : Text) → common_prefix_len nat_eq xs ys ≡ length xs → common_prefix_len nat_eq xs ys ≡ length ys →
    xs ≡ ys
same_texts [] [] h k = refl
same_texts [] (y ∷ ys) h k = absurd (omega (arith, k))
same_texts (x ∷ xs) [] h k = absurd (omega (arith, h))
same_texts (x ∷ xs) (y ∷ ys) h k = elim (cases_Bool (nat_eq x y)) [
  | inl same ↦
      let n = common_prefix_len nat_eq xs ys in
      let at : common_prefix_len nat_eq (x ∷ xs) (y ∷ ys) ≡ 1 + n = ap (λ b. if b then 1 + n else 0) same in
      let rest = same_texts xs ys (omega (arith, h, at)) (omega (arith, k, at)) in
      ap (λ c. c ∷ xs) (eqb-true x y same) ∙ ap (λ w. y ∷ w) rest
  | inr other ↦
      let n = common_prefix_len nat_eq xs ys in
      let at : common_prefix_len nat_eq (x ∷ xs) (y ∷ ys) ≡ 0 = ap (λ b. if b then 1 + n else 0) other in
      absurd (omega (arith, h, at))
]

-- no more of two texts is the same after the end of one
pub shared_end : (xs ys : Text) (i : ℕ) → min (length xs) (length ys) ≤ i →
    common_prefix_len nat_eq (drop i xs) (drop i ys) ≡ 0
shared_end xs ys i h =
    let both = common_prefix_len-le nat_eq (drop i xs) (drop i ys) in
    omega (arith, h, both.0, both.1, length-drop i xs, length-drop i ys)

-- ---- lists

abbrev Front : Prefix → Position → Position → Type 0
Front x p q = IsTextAndMore x.characters.items p q × (x.is_whole ≡ true → IsText x.characters.items p q)

front_of : (u : Bool) (s : Assertions) (t : Tree) (x : Prefix) → HasPrefix u t x → (p q : Position) → Matches u s t p q →
    Front x p q
front_of u s t x h p q k = (h.begins s p q k, λ is_all. h.whole is_all s p q k)

-- a match of a tree, and then one of what is left
taken_then : (u : Bool) (s : Assertions) (t : Tree) (rest : Trees) (x : Prefix) → HasPrefix u t x → (p q : Position) →
    RowMatches u s label.concat (more_trees t rest) p q → IsTaken kind.Concat x (RowMatches u s label.concat rest) p q
taken_then u s t rest x h p q k = elim (cases_Bool x.is_whole) [
  | inl is_all ↦ inr (k.middle, h.whole is_all s p k.middle k.first, k.second)
  | inr not_all ↦
      let more = row_passes u s label.concat rest k.middle q k.second in
      inl (not_all, then_more x.characters.items more.0 p k.middle q (h.begins s p k.middle k.first) more.1)
]

pub prefixed_first : (u : Bool) (k : ListKind) (rest : Trees) (t : Tree) (o : Option Prefix) → IsPrefix u t o →
    IsPrefixed u k (more_trees t rest) rest o
prefixed_first u k rest t None h = inl h
prefixed_first u kind.Concat rest t (Some x) h = record {
  begins = λ s p q m. taken_then u s t rest x h p q m;
  defined = λ d. (h.defined, d);
  unknown = λ n. inr n;
}
prefixed_first u kind.Alt rest t (Some x) h = record {
  begins = λ s p q m. elim m [ inl a ↦ inl (front_of u s t x h p q a) | inr r ↦ inr r ];
  defined = λ d. (h.defined, d);
  unknown = λ n. inr n;
}

-- the pieces so far are not known as whole
stops : (u : Bool) (s : Assertions) (t : Tree) (rest : Trees) (x put : Prefix) → x.is_whole ≡ false →
    put.characters.items ≡ x.characters.items → put.is_whole ≡ false → (p q : Position) →
    IsTaken kind.Concat x (RowMatches u s label.concat (more_trees t rest)) p q →
    IsTaken kind.Concat put (RowMatches u s label.concat rest) p q
stops u s t rest x put not_all same off p q (inl k) =
    inl (off, begins_as x.characters.items put.characters.items p q (sym same) k.1)
stops u s t rest x put not_all same off p q (inr k) =
    let more = row_passes u s label.concat (more_trees t rest) k.0 q k.2 in
    inl (
      off,
      begins_as x.characters.items put.characters.items p q (sym same)
          (then_more x.characters.items more.0 p k.0 q (of_text x.characters.items p k.0 k.1) more.1),
    )

-- they are, and the next one follows
goes : (u : Bool) (s : Assertions) (t : Tree) (rest : Trees) (x next put : Prefix) → x.is_whole ≡ true →
    put.characters.items ≡ x.characters.items ++ next.characters.items → put.is_whole ≡ next.is_whole →
    HasPrefix u t next → (p q : Position) →
    IsTaken kind.Concat x (RowMatches u s label.concat (more_trees t rest)) p q →
    IsTaken kind.Concat put (RowMatches u s label.concat rest) p q
goes u s t rest x next put is_all both same has p q (inl k) = absurd (false≢true (sym k.0 ∙ is_all))
goes u s t rest x next put is_all both same has p q (inr k) =
    let w = x.characters.items in
    let v = next.characters.items in
    elim (taken_then u s t rest next has k.0 q k.2) [
      | inl l ↦ inl (
        same ∙ l.0,
        begins_as (w ++ v) put.characters.items p q (sym both)
            (text_then_more w v p k.0 q k.1 l.1),
      )
      | inr l ↦ inr (l.0, text_as (w ++ v) put.characters.items p l.0 (sym both) (text_then w v p k.0 l.0 k.1 l.1), l.2)
    ]

then_at : (u : Bool) (s : Assertions) (t : Tree) (rest : Trees) (b : Bool) (x next put : Prefix) → x.is_whole ≡ b →
    put.characters.items ≡ (if b then x.characters.items ++ next.characters.items else x.characters.items) →
    put.is_whole ≡ (b && next.is_whole) → HasPrefix u t next → (p q : Position) →
    IsTaken kind.Concat x (RowMatches u s label.concat (more_trees t rest)) p q →
    IsTaken kind.Concat put (RowMatches u s label.concat rest) p q
then_at u s t rest true x next put is both same has p q k = goes u s t rest x next put is both same has p q k
then_at u s t rest false x next put is both same has p q k = stops u s t rest x put is both same p q k

pub then_put : (u : Bool) (k : ListKind) (all rest : Trees) (t : Tree) (x next put : Prefix) → k ≡ kind.Concat →
    IsThen x next put → ArePrefixed u k all (more_trees t rest) x → HasPrefix u t next → ArePrefixed u k all rest put
then_put u kind.Alt all rest t x next put is f h n = let y = is in cc
then_put u kind.Concat all rest t x next put is f h n = record {
  begins = λ s p q m. then_at u s t rest x.is_whole x next put refl f.characters f.whole n p q (h.begins s p q m);
  defined = λ d. h.defined (n.defined, d);
  unknown = λ l. h.unknown (inr l);
}

-- a character after a text that is the whole of each match
letter_goes : (u : Bool) (s : Assertions) (rest : Trees) (c : ℕ) (x put : Prefix) → IsScalar c → x.is_whole ≡ true →
    put.characters.items ≡ x.characters.items ++ c ∷ [] → (p q : Position) →
    IsTaken kind.Concat x (RowMatches u s label.concat (more_trees (literal (c ∷ []) false) rest)) p q →
    IsTaken kind.Concat put (RowMatches u s label.concat rest) p q
letter_goes u s rest c x put scalar is_all both p q (inl k) = absurd (false≢true (sym k.0 ∙ is_all))
letter_goes u s rest c x put scalar is_all both p q (inr k) =
    let w = x.characters.items in
    let here = one_text (HasCharacter u (literal (c ∷ []) false)) c (only_it u c scalar) k.0 k.2.middle k.2.first in
    inr (
      k.2.middle,
      text_as (w ++ c ∷ []) put.characters.items p k.2.middle (sym both)
          (text_then w (c ∷ []) p k.0 k.2.middle k.1 here),
      k.2.second,
    )

letter_put : (u : Bool) (all rest : Trees) (c : ℕ) (x put : Prefix) → IsScalar c → x.is_whole ≡ true →
    put.characters.items ≡ x.characters.items ++ c ∷ [] →
    ArePrefixed u kind.Concat all (more_trees (literal (c ∷ []) false) rest) x → ArePrefixed u kind.Concat all rest put
letter_put u all rest c x put scalar is_all both h = record {
  begins = λ s p q m. letter_goes u s rest c x put scalar is_all both p q (h.begins s p q m);
  defined = λ d. h.defined (plain_defined u c scalar, d);
  unknown = λ l. h.unknown (inr l);
}

pub character_put : (u : Bool) (k : ListKind) (all rest : Trees) (t : Tree) (c : ℕ) (x put : Prefix) → IsScalar c →
    t ≡ literal (c ∷ []) false → IsWhole k (Some x) → put.characters.items ≡ x.characters.items ++ c ∷ [] →
    ArePrefixed u k all (more_trees t rest) x → ArePrefixed u k all rest put
character_put u kind.Concat all rest t c x put scalar is is_all both h =
    letter_put u all rest c x put scalar is_all both
    (subst (λ y. ArePrefixed u kind.Concat all (more_trees y rest) x) is h)
character_put u kind.Alt all rest t c x put scalar is is_all both h = absurd is_all

same_len : (v : Text) → take (common_prefix_len nat_eq v v) v ≡ v
same_len [] = refl
same_len (c ∷ v) =
    let n = common_prefix_len nat_eq v v in
    let at : common_prefix_len nat_eq (c ∷ v) (c ∷ v) ≡ suc n =
    ap (λ b. if b then 1 + n else 0) (eq-eqb c c refl) ∙ (let e : 1 + n ≡ suc n = omega arith in e) in
    ap (λ m. take m (c ∷ v)) at ∙ ap (λ w. c ∷ w) (same_len v)

whole_text : (a b w : Text) → w ≡ take (common_prefix_len nat_eq a b) a → a ≡ b → a ≡ w
whole_text a b w is e = sym (is ∙ ap (λ v. take (common_prefix_len nat_eq a v) a) (sym e) ∙ same_len a)

pub then_result : {E : Type 0} (u : Bool) (k : ListKind) (all rest : Trees) (t : Tree) (x next : Prefix)
    (o : Result Prefix E) → k ≡ kind.Concat → IfOk o (IsThen x next) → ArePrefixed u k all (more_trees t rest) x →
    HasPrefix u t next → IfOk o (ArePrefixed u k all rest)
then_result u k all rest t x next (Ok put) is f h n = then_put u k all rest t x next put is f h n
then_result u k all rest t x next (Err e) is f h n = tt

-- the text that both begin with
or_front : (x next put : Prefix) → IsOr x next put → (p q : Position) → Front x p q ⊎ Front next p q → Front put p q
or_front x next put f p q k =
    let a = x.characters.items in
    let b = next.characters.items in
    let w = put.characters.items in
    let s = shared a b in
    let first : a ≡ w ++ s.0 = s.2 ∙ ap (λ v. v ++ s.0) (sym f.characters) in
    let second : b ≡ w ++ s.1 = s.3 ∙ ap (λ v. v ++ s.1) (sym f.characters) in
    elim k [
      | inl l ↦ (
        shorter w s.0 p q (begins_as a (w ++ s.0) p q first l.0),
        λ is_all. let all = f.whole is_all in text_as a w p q (whole_text a b w f.characters all.2) (l.1 all.0),
      )
      | inr l ↦ (
        shorter w s.1 p q (begins_as b (w ++ s.1) p q second l.0),
        λ is_all. let all = f.whole is_all in
            text_as b w p q (sym all.2 ∙ whole_text a b w f.characters all.2) (l.1 all.1),
      )
    ]

pub or_put : (u : Bool) (k : ListKind) (all rest : Trees) (t : Tree) (x next put : Prefix) → k ≡ kind.Alt →
    IsOr x next put → ArePrefixed u k all (more_trees t rest) x → HasPrefix u t next → ArePrefixed u k all rest put
or_put u kind.Concat all rest t x next put is f h n = let y = is in cc
or_put u kind.Alt all rest t x next put is f h n = record {
  begins = λ s p q m. elim (h.begins s p q m) [
    | inl a ↦ inl (or_front x next put f p q (inl a))
    | inr r ↦ elim r [
      | inl a ↦ inl (or_front x next put f p q (inr (front_of u s t next n p q a)))
      | inr l ↦ inr l
    ]
  ];
  defined = λ d. h.defined (n.defined, d);
  unknown = λ l. h.unknown (inr l);
}

-- all trees of a list
pub prefixed_all : (u : Bool) (k : ListKind) (all : Trees) (o : Option Prefix) → IsPrefixed u k all no_trees o →
    IsPrefix u (row (row_of k) all) o
prefixed_all u k all None h = inr h
prefixed_all u kind.Concat all (Some x) h = record {
  defined = (tt, h.defined tt);
  begins = λ s p q m. elim (h.begins s p q m) [
    | inl a ↦ a.1
    | inr r ↦ of_text x.characters.items p q (subst (λ (y : Position). IsText x.characters.items p y) r.2 r.1)
  ];
  whole = λ is_all s p q m. elim (h.begins s p q m) [
    | inl a ↦ absurd (false≢true (sym a.0 ∙ is_all))
    | inr r ↦ subst (λ (y : Position). IsText x.characters.items p y) r.2 r.1
  ];
}
prefixed_all u kind.Alt all (Some x) h = record {
  defined = (tt, h.defined tt);
  begins = λ s p q m. elim (h.begins s p q m) [ inl a ↦ a.0 | inr r ↦ absurd r ];
  whole = λ is_all s p q m. elim (h.begins s p q m) [ inl a ↦ a.1 is_all | inr r ↦ absurd r ];
}

-- a list whose prefix no tree that is left changes
pub settled : (u : Bool) (k : ListKind) (all rest : Trees) (o : Option Prefix) → IsSettled k o → AreDefined u rest →
    IsPrefixed u k all rest o → IsPrefix u (row (row_of k) all) o
settled u k all rest None e d h = absurd e
settled u kind.Concat all rest (Some x) e d h = record {
  defined = (tt, h.defined d);
  begins = λ s p q m. elim (h.begins s p q m) [
    | inl a ↦ a.1
    | inr r ↦
        let more = row_passes u s label.concat rest r.0 q r.2 in
        then_more x.characters.items more.0 p r.0 q (of_text x.characters.items p r.0 r.1) more.1
  ];
  whole = λ is_all s p q m. absurd (false≢true (sym e ∙ is_all));
}
settled u kind.Alt all rest (Some x) e d h = record {
  defined = (tt, h.defined d);
  begins = λ s p q m. elim (h.begins s p q m) [
    | inl a ↦ a.0
    | inr r ↦ begins_as [] x.characters.items p q (sym e.1) (row_passes u s label.alt rest p q r)
  ];
  whole = λ is_all s p q m. absurd (false≢true (sym e.0 ∙ is_all));
}

-- a list of no trees
pub no_trees_prefix : (u : Bool) (k : ListKind) (x : Prefix) → x.characters.items ≡ [] →
    HasPrefix u (row (row_of k) no_trees) x
no_trees_prefix u kind.Concat x none = record {
  defined = (tt, tt);
  begins = λ s p q k. begins_as [] x.characters.items p q (sym none) (of_text [] p q (no_text p q k));
  whole = λ is_all s p q k. text_as [] x.characters.items p q (sym none) (no_text p q k);
}
no_trees_prefix u kind.Alt x none = record {
  defined = (tt, tt);
  begins = λ s p q k. absurd k;
  whole = λ is_all s p q k. absurd k;
}
