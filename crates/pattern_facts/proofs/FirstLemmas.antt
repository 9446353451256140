-- How matches begin, node by node.
use Rattle.std.proofs.Common.{◌≡◌, ℕ, zero, suc, ◌+◌, ◌*◌, ◌≤◌, ◌==◌, ◌&&◌, ◌||◌, ◌⊎◌, Bool, true, false, length, min, inl, inr, refl, sym, ap, ◌∙◌, subst, arith, Option, None, Some, IsTrue}
use Rattle.std.specs.Prelude.{MatchOption}
use Rattle.std.proofs.Math.Nat.{suc-mul, zero-mul, mul-zero, zero-add}
use Rattle.std.proofs.Math.Dec.{eqb-suc-zero}
use Rattle.std.proofs.lemmas.Bool.{false≢true}
use Rattle.class_meaning.specs.CharacterSet.{has_character}
use Rattle.class_meaning.specs.ClassMeaning.{IsMeaningOf}
use Rattle.class_meaning.specs.EnginePattern.{engine_pattern}
use Rattle.class_meaning.specs.declared.class_text.ClassMeaning.TheVariants.{Characters, NotOneCharacter}
use Rattle.class_meaning.specs.declared.character_set.CharacterSet.{CharacterSet}
use Rattle.fancy_grammar.specs.Label as label
use Rattle.fancy_grammar.specs.Label.{Wrap}
use Rattle.fancy_grammar.specs.Tree.{Tree, Trees, leaf, over, row, no_trees, more_trees, any, literal, delegate}
use Rattle.fancy_grammar.specs.declared.kinds.LookAround.{LookAround}
use Rattle.pattern_matches.specs.Defined.{AreDefined}
use Rattle.pattern_matches.specs.Lengths.{HasAtLeast, min_length, min_lengths, or_zero, row_least}
use Rattle.pattern_matches.specs.Matches.{IsOneOf, HasCharacter, Matches, RowMatches}
use Rattle.pattern_matches.specs.Parts.{Position, Parts, One, one, Then, Times}
use Rattle.pattern_matches.proofs.LeastLemmas.{least}
use Rattle.pattern_matches.proofs.CharacterLemmas.{same_ranges}
use Rattle.pattern_facts.specs.First.{BeginsWith, HasBeginning, IsBeginning, AreBegun, IsBegun, IsFull}
use Rattle.pattern_facts.specs.Known.{is_empty_leaf}
use Rattle.pattern_facts.specs.Lengths.{row_of}
use Rattle.pattern_facts.proofs.ListLemmas.{least_assoc, least_whole}
use Rattle.pattern_facts.specs.declared.first.Beginning.{Beginning}
use Rattle.pattern_facts.specs.declared.lengths.ListKind.{ListKind}
use Rattle.pattern_facts.specs.declared.lengths.ListKind.TheVariants as kind

-- ---- sets

-- a set that contains another one
abbrev pub Holds : CharacterSet → CharacterSet → Type 0
Holds big small = (c : ℕ) → IsTrue (has_character small c) → IsTrue (has_character big c)

begins_more : (big small : CharacterSet) (p q : Position) → Holds big small → BeginsWith small p q → BeginsWith big p q
begins_more big small p q f (inl e) = inl e
begins_more big small p q f (inr k) = inr (k.0, k.1, k.2, f k.0 k.3)

-- only the beginning matters
begins_on : (set : CharacterSet) (p m q : Position) → BeginsWith set p m → (p ≡ m → BeginsWith set p q) →
    BeginsWith set p q
begins_on set p m q (inl e) f = f e
begins_on set p m q (inr k) f = inr k

-- ---- leaves and nodes over one tree

one_begins : (u : Bool) (t : Tree) (set : CharacterSet) → IsOneOf u t set.class.ranges.items → (p q : Position) →
    One (HasCharacter u t) p q → BeginsWith set p q
one_begins u t set is _ _ (one {c = c} {b = b} {a = a} h) =
    inr (c, a, refl, same_ranges u t set.class.ranges.items h.ranges is h.reads c h.scalar ∙ h.inside)

times_begin : (set : CharacterSet) (P : Parts) → ((p q : Position) → P p q → BeginsWith set p q) → (n : ℕ)
    (p q : Position) → Times P n p q → BeginsWith set p q
times_begin set P f zero p q k = inl k
times_begin set P f (suc n) p q k =
    begins_on set p k.middle q (f p k.middle k.first)
    (λ e. subst (λ x. BeginsWith set x q) (sym e) (times_begin set P f n k.middle q k.second))

or_true : (b : Bool) → (b || true) ≡ true
or_true true = refl
or_true false = refl

product_zero : (a b : ℕ) → (a * b == 0) ≡ ((a == 0) || (b == 0))
product_zero zero b = ap (λ n. n == 0) (zero-mul b)
product_zero (suc a) zero = ap (λ n. n == 0) (mul-zero (suc a)) ∙ sym (or_true (suc a == 0))
product_zero (suc a) (suc b) =
    let e : suc a * suc b ≡ suc (a * suc b + b) = omega (arith, suc-mul a (suc b)) in
    ap (λ n. n == 0) e ∙ eqb-suc-zero (a * suc b + b)
    ∙ sym (ap (λ x. x || (suc b == 0)) (eqb-suc-zero a) ∙ eqb-suc-zero b)

pub empty_leaf_begins : (u : Bool) (t : Tree) (b : Beginning) → is_empty_leaf t ≡ true → b.can_be_empty ≡ true →
    HasBeginning u t b
empty_leaf_begins u (leaf label.empty) b h e = record { defined = tt; begins = λ s p q k. inl k; empty = e }
empty_leaf_begins u (leaf (label.assertion a)) b h e = record { defined = tt; begins = λ s p q k. inl k.0; empty = e }
empty_leaf_begins u (leaf l) b h e = absurd (false≢true h)
empty_leaf_begins u (over w t) b h e = absurd (false≢true h)
empty_leaf_begins u (row r ts) b h e = absurd (false≢true h)

pub set_begins : (u : Bool) (t : Tree) (b : Beginning) → b.can_be_empty ≡ false →
    MatchOption (engine_pattern u t) (Characters b.characters ≡ NotOneCharacter)
    (λ (config, text). IsMeaningOf config text (Characters b.characters)) → HasBeginning u t b
set_begins u (leaf (label.any newline crlf)) b e is = record {
  defined = (b.characters.class.ranges.items, is);
  begins = λ s p q k. one_begins u (any newline crlf) b.characters is p q k;
  empty = e;
}
set_begins u (leaf (label.literal text casei)) b e is = record {
  defined = (b.characters.class.ranges.items, is);
  begins = λ s p q k. one_begins u (literal text casei) b.characters is p q k;
  empty = e;
}
set_begins u (leaf (label.delegate text casei)) b e is = record {
  defined = (b.characters.class.ranges.items, is);
  begins = λ s p q k. one_begins u (delegate text casei) b.characters is p q k;
  empty = e;
}
set_begins u (leaf l) b e is = let x = is in cc
set_begins u (over w t) b e is = let x = is in cc
set_begins u (row r ts) b e is = let x = is in cc

pub group_begins : (u : Bool) (t : Tree) (b : Beginning) → HasBeginning u t b → HasBeginning u (over label.group t) b
group_begins u t b h =
    record { defined = (tt, h.defined); begins = λ s p q k. h.begins s p q k; empty = h.empty }

pub look_begins : (u : Bool) (t : Tree) (l : LookAround) (b put : Beginning) → HasBeginning u t b →
    put.can_be_empty ≡ true → HasBeginning u (over (label.look_around l) t) put
look_begins u t l b put h e =
    record { defined = (tt, h.defined); begins = λ s p q k. inl k.0; empty = e }

pub repeat_begins : (u : Bool) (t : Tree) (lo hi : ℕ) (greedy : Bool) (b put : Beginning) → lo ≤ hi →
    put.characters ≡ b.characters → put.can_be_empty ≡ ((lo == 0) || b.can_be_empty) → HasBeginning u t b →
    HasBeginning u (over (label.repeat lo hi greedy) t) put
repeat_begins u t lo hi greedy b put low same flag h = record {
  defined = (low, h.defined);
  begins = λ s p q k. times_begin put.characters (Matches u s t)
      (λ x y l. subst (λ set. BeginsWith set x y) (sym same) (h.begins s x y l)) k.count p q k.turns;
  empty = flag ∙ ap (λ x. (lo == 0) || x) h.empty ∙ sym (product_zero lo (min_length t));
}

sum_zero : (a b : ℕ) → (a + b == 0) ≡ ((a == 0) && (b == 0))
sum_zero zero b = ap (λ n. n == 0) (zero-add b)
sum_zero (suc a) b =
    let e : suc a + b ≡ suc (a + b) = omega arith in
    ap (λ n. n == 0) e ∙ eqb-suc-zero (a + b) ∙ sym (ap (λ x. x && (b == 0)) (eqb-suc-zero a))

least_zero : (a b : ℕ) → (min a b == 0) ≡ ((a == 0) || (b == 0))
least_zero zero b = let e : min 0 b ≡ 0 = omega arith in ap (λ n. n == 0) e
least_zero (suc a) zero =
    let e : min (suc a) 0 ≡ 0 = omega arith in ap (λ n. n == 0) e ∙ sym (or_true (suc a == 0))
least_zero (suc a) (suc b) =
    let e : min (suc a) (suc b) ≡ suc (min a b) = omega arith in
    ap (λ n. n == 0) e ∙ eqb-suc-zero (min a b)
    ∙ sym (ap (λ x. x || (suc b == 0)) (eqb-suc-zero a) ∙ eqb-suc-zero b)

-- ---- lists

-- a match of the next tree, and what follows: it begins with a character, or is empty and is followed by the rest
then_begins : (flag : Bool) (n : ℕ) (set : CharacterSet) (P Q : Parts) (p q : Position) → flag ≡ (n == 0) →
    ((p q : Position) → P p q → HasAtLeast n p q) → ((p q : Position) → P p q → BeginsWith set p q) → Then P Q p q →
    BeginsWith set p q ⊎ ((flag ≡ true) × Q p q)
then_begins flag n set P Q p q is fits begins k =
    elim (begins p k.middle k.first) [
      | inl e ↦
          let low : HasAtLeast n p k.middle = fits p k.middle k.first in
          let same = ap (λ (x : Position). length x.before) e in
          let none : n ≡ 0 = omega (arith, same) in
          inr (is ∙ ap (λ m. m == 0) none, subst (λ x. Q x q) (sym e) k.second)
      | inr c ↦ inl (inr c)
    ]

-- the first tree of a list
pub begun_first : (u : Bool) (k : ListKind) (rest : Trees) (t : Tree) (o : Option Beginning) → IsBeginning u t o →
    IsBegun u k (more_trees t rest) rest o
begun_first u k rest t None h = inl h
begun_first u kind.Concat rest t (Some b) h = record {
  least = min_length t;
  empty = h.empty;
  min = refl;
  begins = λ s p q m. then_begins b.can_be_empty (min_length t) b.characters (Matches u s t)
      (RowMatches u s label.concat rest) p q h.empty (λ x y l. least u s t x y l) (h.begins s) m;
  defined = λ d. (h.defined, d);
  unknown = λ n. inr n;
}
begun_first u kind.Alt rest t (Some b) h = record {
  least = min_length t;
  empty = h.empty;
  min = refl;
  begins = λ s p q m. elim m [ inl a ↦ inl (h.begins s p q a) | inr r ↦ inr r ];
  defined = λ d. (h.defined, d);
  unknown = λ n. inr n;
}

-- a concatenation whose match is not empty so far
pub begun_full : (u : Bool) (all rest : Trees) (t : Tree) (b next : Beginning) → b.can_be_empty ≡ false →
    AreBegun u kind.Concat all (more_trees t rest) b → HasBeginning u t next → AreBegun u kind.Concat all rest b
begun_full u all rest t b next full h n = record {
  least = h.least + min_length t;
  empty = full ∙ sym (sum_full h.least (min_length t) (sym h.empty ∙ full));
  min = h.min ∙ least_assoc kind.Concat h.least (min_length t) (min_lengths label.concat rest);
  begins = λ s p q m. elim (h.begins s p q m) [ inl a ↦ inl a | inr r ↦ absurd (never b.can_be_empty full r.0) ];
  defined = λ d. h.defined (n.defined, d);
  unknown = λ k. h.unknown (inr k);
} where
  never : (f : Bool) → f ≡ false → f ≡ true → ⊥
  never true e g = let x = e in cc
  never false e g = let x = g in cc

  sum_full : (a c : ℕ) → (a == 0) ≡ false → (a + c == 0) ≡ false
  sum_full a c e = sum_zero a c ∙ ap (λ f. f && (c == 0)) e

-- the other cases: `put` has the characters of both
pub begun_next : (u : Bool) (all rest : Trees) (t : Tree) (b next put : Beginning) → b.can_be_empty ≡ true →
    Holds put.characters b.characters → Holds put.characters next.characters → put.can_be_empty ≡ next.can_be_empty →
    AreBegun u kind.Concat all (more_trees t rest) b → HasBeginning u t next → AreBegun u kind.Concat all rest put
begun_next u all rest t b next put opens f g flag h n = record {
  least = h.least + min_length t;
  empty = flag ∙ n.empty
      ∙ sym (sum_zero h.least (min_length t) ∙ ap (λ x. x && (min_length t == 0)) (sym h.empty ∙ opens));
  min = h.min ∙ least_assoc kind.Concat h.least (min_length t) (min_lengths label.concat rest);
  begins = λ s p q m. elim (h.begins s p q m) [
    | inl a ↦ inl (begins_more put.characters b.characters p q f a)
    | inr r ↦ elim (then_begins next.can_be_empty (min_length t) next.characters (Matches u s t)
        (RowMatches u s label.concat rest) p q n.empty (λ x y l. least u s t x y l) (n.begins s) r.1) [
          | inl a ↦ inl (begins_more put.characters next.characters p q g a)
          | inr l ↦ inr (flag ∙ l.0, l.1)
        ]
  ];
  defined = λ d. h.defined (n.defined, d);
  unknown = λ k. h.unknown (inr k);
}

pub begun_beside : (u : Bool) (all rest : Trees) (t : Tree) (b next put : Beginning) →
    Holds put.characters b.characters → Holds put.characters next.characters →
    put.can_be_empty ≡ (b.can_be_empty || next.can_be_empty) →
    AreBegun u kind.Alt all (more_trees t rest) b → HasBeginning u t next → AreBegun u kind.Alt all rest put
begun_beside u all rest t b next put f g flag h n = record {
  least = min h.least (min_length t);
  empty = flag ∙ ap (λ x. x || next.can_be_empty) h.empty ∙ ap (λ x. (h.least == 0) || x) n.empty
      ∙ sym (least_zero h.least (min_length t));
  min = h.min ∙ least_assoc kind.Alt h.least (min_length t) (min_lengths label.alt rest);
  begins = λ s p q m. elim (h.begins s p q m) [
    | inl a ↦ inl (begins_more put.characters b.characters p q f a)
    | inr r ↦ elim r [
      | inl a ↦ inl (begins_more put.characters next.characters p q g (n.begins s p q a))
      | inr l ↦ inr l
    ]
  ];
  defined = λ d. h.defined (n.defined, d);
  unknown = λ k. h.unknown (inr k);
}

-- all trees of a list
pub begun_all : (u : Bool) (k : ListKind) (all : Trees) (o : Option Beginning) → IsBegun u k all no_trees o →
    IsBeginning u (row (row_of k) all) o
begun_all u k all None h = inr h
begun_all u kind.Concat all (Some b) h = record {
  defined = (tt, h.defined tt);
  begins = λ s p q m. elim (h.begins s p q m) [ inl a ↦ a | inr r ↦ inl r.1 ];
  empty = h.empty ∙ ap (λ n. n == 0) (sym (ap or_zero h.min ∙ least_whole kind.Concat h.least));
}
begun_all u kind.Alt all (Some b) h = record {
  defined = (tt, h.defined tt);
  begins = λ s p q m. elim (h.begins s p q m) [ inl a ↦ a | inr r ↦ absurd r ];
  empty = h.empty ∙ ap (λ n. n == 0) (sym (ap or_zero h.min ∙ least_whole kind.Alt h.least));
}

-- a concatenation whose matches are not empty, whatever is left
full_row : (u : Bool) (all rest : Trees) (b : Beginning) → b.can_be_empty ≡ false → AreDefined u rest →
    AreBegun u kind.Concat all rest b → HasBeginning u (row label.concat all) b
full_row u all rest b full d h = record {
  defined = (tt, h.defined d);
  begins = λ s p q m. elim (h.begins s p q m) [ inl a ↦ a | inr r ↦ absurd (false≢true (sym full ∙ r.0)) ];
  empty = full ∙ sym (not_empty h.least (min_lengths label.concat rest) (min_lengths label.concat all)
      (sym h.empty ∙ full) (concat_least rest) h.min);
} where
  -- a concatenation has a least length
  concat_least : (ts : Trees) → (n : ℕ) × (min_lengths label.concat ts ≡ Some n)
  concat_least no_trees = (0, refl)
  concat_least (more_trees t ts) =
      let more = concat_least ts in
      (min_length t + more.0, ap (λ o. row_least label.concat (min_length t) o) more.1)

  not_empty : (least : ℕ) (o whole : Option ℕ) → (least == 0) ≡ false → (n : ℕ) × (o ≡ Some n) →
      whole ≡ row_least label.concat least o → (or_zero whole == 0) ≡ false
  not_empty least o whole e known is =
      ap (λ w. or_zero w == 0) (is ∙ ap (λ x. row_least label.concat least x) known.1)
      ∙ sum_zero least known.0 ∙ ap (λ f. f && (known.0 == 0)) e

pub full_list : (u : Bool) (k : ListKind) (all rest : Trees) (o : Option Beginning) → IsFull k o → AreDefined u rest →
    IsBegun u k all rest o → IsBeginning u (row (row_of k) all) o
full_list u kind.Concat all rest None e d h = absurd e
full_list u kind.Concat all rest (Some b) e d h = full_row u all rest b e d h
full_list u kind.Alt all rest o e d h = absurd e

-- ---- as the code puts them together

-- the characters of either set
abbrev pub IsUnion : CharacterSet → CharacterSet → CharacterSet → Type 0
IsUnion set a b = (c : ℕ) → has_character set c ≡ (has_character a c || has_character b c)

holds_left : (set a b : CharacterSet) → IsUnion set a b → Holds set a
holds_left set a b f c h = f c ∙ ap (λ x. x || has_character b c) h

holds_right : (set a b : CharacterSet) → IsUnion set a b → Holds set b
holds_right set a b f c h = f c ∙ ap (λ x. has_character a c || x) h ∙ or_true (has_character a c)

pub full_put : (u : Bool) (k : ListKind) (all rest : Trees) (t : Tree) (b next : Beginning) → k ≡ kind.Concat →
    b.can_be_empty ≡ false → AreBegun u k all (more_trees t rest) b → HasBeginning u t next → AreBegun u k all rest b
full_put u kind.Concat all rest t b next is full h n = begun_full u all rest t b next full h n
full_put u kind.Alt all rest t b next is full h n = let x = is in cc

pub next_put : (u : Bool) (k : ListKind) (all rest : Trees) (t : Tree) (b next put : Beginning) → k ≡ kind.Concat →
    b.can_be_empty ≡ true → IsUnion put.characters b.characters next.characters →
    put.can_be_empty ≡ next.can_be_empty → AreBegun u k all (more_trees t rest) b → HasBeginning u t next →
    AreBegun u k all rest put
next_put u kind.Concat all rest t b next put is opens f flag h n =
    begun_next u all rest t b next put opens (holds_left put.characters b.characters next.characters f)
    (holds_right put.characters b.characters next.characters f) flag h n
next_put u kind.Alt all rest t b next put is opens f flag h n = let x = is in cc

pub beside_put : (u : Bool) (k : ListKind) (all rest : Trees) (t : Tree) (b next put : Beginning) → k ≡ kind.Alt →
    IsUnion put.characters b.characters next.characters →
    put.can_be_empty ≡ (b.can_be_empty || next.can_be_empty) → AreBegun u k all (more_trees t rest) b →
    HasBeginning u t next → AreBegun u k all rest put
beside_put u kind.Concat all rest t b next put is f flag h n = let x = is in cc
beside_put u kind.Alt all rest t b next put is f flag h n =
    begun_beside u all rest t b next put (holds_left put.characters b.characters next.characters f)
    (holds_right put.characters b.characters next.characters f) flag h n

pub around_group : (u : Bool) (t : Tree) (w : Wrap) (o : Option Beginning) (b : Beginning) → w ≡ label.group →
    o ≡ Some b → IsBeginning u t o → HasBeginning u (over w t) b
around_group u t w o b is some h =
    subst (λ x. HasBeginning u (over x t) b) (sym is) (group_begins u t b (subst (IsBeginning u t) some h))

pub around_look : (u : Bool) (t : Tree) (w : Wrap) (l : LookAround) (o : Option Beginning) (b put : Beginning) →
    w ≡ label.look_around l → o ≡ Some b → put.can_be_empty ≡ true → IsBeginning u t o → HasBeginning u (over w t) put
around_look u t w l o b put is some flag h =
    subst (λ x. HasBeginning u (over x t) put) (sym is)
    (look_begins u t l b put (subst (IsBeginning u t) some h) flag)

pub around_repeat : (u : Bool) (t : Tree) (w : Wrap) (lo hi : ℕ) (greedy : Bool) (o : Option Beginning)
    (b put : Beginning) → w ≡ label.repeat lo hi greedy → o ≡ Some b → lo ≤ hi → put.characters ≡ b.characters →
    put.can_be_empty ≡ ((lo == 0) || b.can_be_empty) → IsBeginning u t o → HasBeginning u (over w t) put
around_repeat u t w lo hi greedy o b put is some low same flag h =
    subst (λ x. HasBeginning u (over x t) put) (sym is)
    (repeat_begins u t lo hi greedy b put low same flag (subst (IsBeginning u t) some h))

pub not_zero : (n : ℕ) → (n ≡ 0 → ⊥) → (n == 0) ≡ false
not_zero zero h = absurd (h refl)
not_zero (suc n) h = eqb-suc-zero n
