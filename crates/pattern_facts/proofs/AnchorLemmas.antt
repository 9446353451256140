-- Matches of anchored trees lie at a side of the text.
use Rattle.std.proofs.Common.{◌≡◌, ℕ, zero, suc, ◌+◌, ◌<◌, ◌≤◌, ◌||◌, ◌⊎◌, Bool, true, false, nat_lt, [], ◌∷◌, length, inl, inr, refl, sym, ap, ◌∙◌, subst, arith}
use Rattle.std.proofs.lemmas.Bool.{false≢true, and_parts, ltb-true}
use Rattle.fancy_lex.specs.Text.{Text}
use Rattle.fancy_lex.specs.declared.escape.Assertion.{Assertion}
use Rattle.fancy_lex.specs.declared.escape.Assertion.TheVariants.{StartText, EndText}
use Rattle.fancy_grammar.specs.Label as label
use Rattle.fancy_grammar.specs.Label.{Leaf, Wrap, Row}
use Rattle.fancy_grammar.specs.Tree.{Tree, Trees, leaf, over, row, no_trees, more_trees}
use Rattle.fancy_grammar.specs.declared.kinds.LookAround.{LookAround}
use Rattle.fancy_grammar.specs.declared.kinds.LookAround.TheVariants.{LookAhead, LookBehind}
use Rattle.pattern_matches.specs.Matches.{Assertions, Matches, RowMatches, LeafMatches, WrapMatches, NoneMatch, MoreMatch, Sees}
use Rattle.pattern_matches.specs.Lengths.{HasAtLeast, min_length}
use Rattle.pattern_matches.specs.Parts.{Position, Parts, Then, Times, joined}
use Rattle.pattern_matches.proofs.LeastLemmas.{least}
use Rattle.pattern_matches.proofs.TextLemmas.{same_text}
use Rattle.pattern_facts.specs.Anchors.{Side, front, back, AreTextSides, LiesAt, MatchesLieAt, asserts, touches, is_leaf_anchored, is_wrap_anchored, is_row_anchored, is_none_anchored, is_anchored, are_anchored}

-- ---- no part goes back

GoesOn : Parts → Type 0
GoesOn P = (p q : Position) → P p q → (length p.before ≤ length q.before) × (length q.after ≤ length p.after)

length_joined : (b a : Text) → length (joined b a) ≡ length b + length a
length_joined [] a = omega arith
length_joined (c ∷ b) a = let e = length_joined b (c ∷ a) in omega (arith, e)

goes_on : (u : Bool) (s : Assertions) (t : Tree) → GoesOn (Matches u s t)
unfolding GoesOn
goes_on u s t p q k =
    let a : HasAtLeast (min_length t) p q = least u s t p q k in
    let e = ap length (same_text u s t p q k) in
    let f = length_joined p.before p.after in
    let g = length_joined q.before q.after in
    (omega arith, omega (arith, a, e, f, g))

stays : (p q : Position) → p ≡ q → (length p.before ≤ length q.before) × (length q.after ≤ length p.after)
stays p q h =
    let e = ap (λ x. length x.before) h in
    let f = ap (λ x. length x.after) h in
    (omega (arith, e), omega (arith, f))

times_go : (P : Parts) → GoesOn P → (n : ℕ) → GoesOn (Times P n)
unfolding GoesOn
times_go P f zero p q k = stays p q k
times_go P f (suc n) p q k =
    let a = f p k.middle k.first in
    let b = times_go P f n k.middle q k.second in
    (omega (arith, a.0, b.0), omega (arith, a.1, b.1))

-- ---- parts at a side

nil_of : (w : Text) → length w ≤ 0 → w ≡ []
nil_of [] h = refl
nil_of (c ∷ w) h = absurd (omega arith)

-- a part around one that lies at a side
around : (s : Side) (p m n q : Position) → length p.before ≤ length m.before → length q.after ≤ length n.after →
    LiesAt s m n → LiesAt s p q
around front p m n q h k l = let e = ap length l in nil_of p.before (omega (arith, h, e))
around back p m n q h k l = let e = ap length l in nil_of q.after (omega (arith, k, e))

AllLie : Side → Parts → Type 0
AllLie s P = (p q : Position) → P p q → LiesAt s p q

then_first : (s : Side) (P Q : Parts) → AllLie s P → GoesOn Q → AllLie s (Then P Q)
unfolding AllLie GoesOn
then_first s P Q f g p q k =
    around s p p k.middle q (omega arith) (g k.middle q k.second).1 (f p k.middle k.first)

then_second : (s : Side) (P Q : Parts) → GoesOn P → AllLie s Q → AllLie s (Then P Q)
unfolding AllLie GoesOn
then_second s P Q g f p q k =
    around s p k.middle q q (g p k.middle k.first).0 (omega arith) (f k.middle q k.second)

times_lie : (s : Side) (P : Parts) → GoesOn P → AllLie s P → (n : ℕ) → 0 < n → AllLie s (Times P n)
unfolding AllLie
times_lie s P g f zero h p q k = absurd (omega arith)
times_lie s P g f (suc n) h p q k = then_first s P (Times P n) f (times_go P g n) p q k

-- ---- nodes

assertion_lies : (s : Side) (holds : Assertions) → AreTextSides holds → (a : Assertion) → asserts s a ≡ true →
    (p q : Position) → p ≡ q → holds a p ≡ true → LiesAt s p q
assertion_lies front holds sides StartText h p q same k = sides.start p k
assertion_lies back holds sides EndText h p q same k = subst (λ (x : Position). x.after ≡ []) same (sides.end p k)
assertion_lies front holds sides a h p q same k = absurd (false≢true h)
assertion_lies back holds sides a h p q same k = absurd (false≢true h)

leaf_lies : (s : Side) (u : Bool) (holds : Assertions) → AreTextSides holds → (l : Leaf) → is_leaf_anchored s l ≡ true →
    AllLie s (LeafMatches u holds l)
unfolding AllLie
leaf_lies s u holds sides (label.assertion a) h p q k = assertion_lies s holds sides a h p q k.0 k.1
leaf_lies s u holds sides l h p q k = absurd (false≢true h)

look_lies : (s : Side) (l : LookAround) (P : Parts) → touches s l ≡ true → AllLie s P → (p q : Position) → p ≡ q →
    Sees l P p → LiesAt s p q
unfolding AllLie
look_lies front LookAhead P h f p q same k = f p k.0 k.1
look_lies back LookBehind P h f p q same k = subst (λ (x : Position). x.after ≡ []) same (f k.0 p k.1)
look_lies front l P h f p q same k = absurd (false≢true h)
look_lies back l P h f p q same k = absurd (false≢true h)

wrap_lies : (s : Side) (w : Wrap) (b : Bool) (P : Parts) → GoesOn P → (b ≡ true → AllLie s P) →
    is_wrap_anchored s w b ≡ true → AllLie s (WrapMatches w P)
unfolding AllLie
wrap_lies s label.group b P g f h p q k = f h p q k
wrap_lies s (label.look_around l) b P g f h p q k =
    let both = and_parts (touches s l) b h in look_lies s l P both.0 (f both.1) p q k.0 k.1
wrap_lies s (label.repeat lo hi greedy) b P g f h p q k =
    let both = and_parts (nat_lt 0 lo) b h in
    let some = ltb-true 0 lo both.0 in
    times_lie s P g (f both.1) k.count (omega (arith, some, k.enough)) p q k.turns
wrap_lies s w b P g f h p q k = absurd (false≢true h)

one_of_two : (a b : Bool) → (a || b) ≡ true → (a ≡ true) ⊎ (b ≡ true)
one_of_two true b h = inl refl
one_of_two false b h = inr h

row_lies : (s : Side) (r : Row) (a b : Bool) (P Q : Parts) → GoesOn P → GoesOn Q → (a ≡ true → AllLie s P) →
    (b ≡ true → AllLie s Q) → is_row_anchored r a b ≡ true → AllLie s (MoreMatch r P Q)
unfolding AllLie
row_lies s label.concat a b P Q m n f g h p q k =
    elim (one_of_two a b h) [
      | inl x ↦ then_first s P Q (f x) n p q k
      | inr y ↦ then_second s P Q m (g y) p q k
    ]
row_lies s label.alt a b P Q m n f g h p q (inl k) = f (and_parts a b h).0 p q k
row_lies s label.alt a b P Q m n f g h p q (inr k) = g (and_parts a b h).1 p q k
row_lies s label.expression a b P Q m n f g h p q k = absurd k
row_lies s label.conditional a b P Q m n f g h p q k = absurd k

none_lies : (s : Side) (r : Row) → is_none_anchored r ≡ true → (p q : Position) → NoneMatch r p q → LiesAt s p q
none_lies s label.concat h p q k = absurd (false≢true h)
none_lies s label.alt h p q k = absurd k
none_lies s label.expression h p q k = absurd k
none_lies s label.conditional h p q k = absurd k

mutual
  unfolding AllLie

  lies : (s : Side) (u : Bool) (holds : Assertions) → AreTextSides holds → (t : Tree) → is_anchored s t ≡ true →
      (p q : Position) → Matches u holds t p q → LiesAt s p q
  lies s u holds sides (leaf l) h p q k = leaf_lies s u holds sides l h p q k
  lies s u holds sides (over w t) h p q k =
      wrap_lies s w (is_anchored s t) (Matches u holds t) (goes_on u holds t)
      (λ x y z l. lies s u holds sides t x y z l) h p q k
  lies s u holds sides (row r ts) h p q k = rows_lie s u holds sides r ts h p q k

  rows_lie : (s : Side) (u : Bool) (holds : Assertions) → AreTextSides holds → (r : Row) (ts : Trees) →
      are_anchored s r ts ≡ true → (p q : Position) → RowMatches u holds r ts p q → LiesAt s p q
  rows_lie s u holds sides r no_trees h p q k = none_lies s r h p q k
  rows_lie s u holds sides r (more_trees t ts) h p q k =
      row_lies s r (is_anchored s t) (are_anchored s r ts) (Matches u holds t) (RowMatches u holds r ts)
      (goes_on u holds t) (goes_on u holds (row r ts))
      (λ x y z l. lies s u holds sides t x y z l) (λ x y z l. rows_lie s u holds sides r ts x y z l) h p q k

-- a flag that says of a tree whether it is anchored
pub anchored_lie : (s : Side) (u : Bool) (t : Tree) (b : Bool) → b ≡ is_anchored s t → b ≡ true → MatchesLieAt s u t
anchored_lie s u t b is flag holds sides p q k = lies s u holds sides t (sym is ∙ flag) p q k
