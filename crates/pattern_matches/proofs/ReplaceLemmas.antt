-- A tree in place of another that matches the same parts changes nothing of what the whole pattern matches.
use Rattle.std.proofs.Common.{◌≡◌, ℕ, zero, suc, Bool, inl, inr, Some, slice_get, sym, subst}
use Rattle.fancy_grammar.specs.Label as label
use Rattle.fancy_grammar.specs.Label.{Wrap, Row}
use Rattle.fancy_grammar.specs.Tree.{Tree, Trees, over, row, no_trees, more_trees, list_of, with_tree}
use Rattle.fancy_grammar.specs.declared.kinds.LookAround.{LookAround}
use Rattle.fancy_grammar.specs.declared.kinds.LookAround.TheVariants.{LookAhead, LookAheadNeg, LookBehind, LookBehindNeg}
use Rattle.pattern_matches.specs.Parts.{Position, Parts, Times}
use Rattle.pattern_matches.specs.Matches.{Assertions, Matches, RowMatches, WrapMatches, MoreMatch, Sees}
use Rattle.pattern_matches.specs.SameMatches.{Within, SameMatches}

-- ---- the same matches, as an equivalence

pub same : (u : Bool) (t : Tree) → SameMatches u t t
same u t = record { there = λ s p q k. k; back = λ s p q k. k }

pub other_way : (u : Bool) (t v : Tree) → SameMatches u t v → SameMatches u v t
other_way u t v k = record { there = k.back; back = k.there }

pub both : (u : Bool) (t v w : Tree) → SameMatches u t v → SameMatches u v w → SameMatches u t w
both u t v w k l = record {
  there = λ s p q m. l.there s p q (k.there s p q m);
  back = λ s p q m. k.back s p q (l.back s p q m);
}

-- ---- nodes

pub times_within : (P Q : Parts) → Within P Q → (n : ℕ) → Within (Times P n) (Times Q n)
times_within P Q f zero p q k = k
times_within P Q f (suc n) p q k =
    record { middle = k.middle; first = f p k.middle k.first; second = times_within P Q f n k.middle q k.second }

sees_within : (l : LookAround) (P Q : Parts) → Within P Q → Within Q P → (p : Position) → Sees l P p → Sees l Q p
sees_within LookAhead P Q f g p (q, k) = (q, f p q k)
sees_within LookAheadNeg P Q f g p k = λ q h. k q (g p q h)
sees_within LookBehind P Q f g p (q, k) = (q, f q p k)
sees_within LookBehindNeg P Q f g p k = λ q h. k q (g q p h)

wrap_within : (w : Wrap) (P Q : Parts) → Within P Q → Within Q P → Within (WrapMatches w P) (WrapMatches w Q)
wrap_within label.group P Q f g p q k = f p q k
wrap_within (label.look_around l) P Q f g p q k = (k.0, sees_within l P Q f g p k.1)
wrap_within (label.repeat lo hi greedy) P Q f g p q k =
    record { count = k.count; enough = k.enough; few = k.few; turns = times_within P Q f k.count p q k.turns }
wrap_within _ P Q f g p q k = absurd k

-- the child of a node
pub replaced_over : (u : Bool) (w : Wrap) (t v : Tree) → SameMatches u t v → SameMatches u (over w t) (over w v)
replaced_over u w t v k = record {
  there = λ s p q m. wrap_within w (Matches u s t) (Matches u s v) (k.there s) (k.back s) p q m;
  back = λ s p q m. wrap_within w (Matches u s v) (Matches u s t) (k.back s) (k.there s) p q m;
}

pub more_within : (r : Row) (P Q R S : Parts) → Within P Q → Within R S → Within (MoreMatch r P R) (MoreMatch r Q S)
more_within label.concat P Q R S f g p q k =
    record { middle = k.middle; first = f p k.middle k.first; second = g k.middle q k.second }
more_within label.alt P Q R S f g p q (inl k) = inl (f p q k)
more_within label.alt P Q R S f g p q (inr k) = inr (g p q k)
more_within label.expression P Q R S f g p q k = absurd k
more_within label.conditional P Q R S f g p q k = absurd k

-- as many trees, each with the same matches
pub data AllSame (u : Bool) : Trees → Trees → Type 0 where
  no_more : AllSame u no_trees no_trees
  next : {t v : Tree} {ts vs : Trees} → SameMatches u t v → AllSame u ts vs → AllSame u (more_trees t ts) (more_trees v vs)

row_there : (u : Bool) (s : Assertions) (r : Row) (ts vs : Trees) → AllSame u ts vs →
    Within (RowMatches u s r ts) (RowMatches u s r vs)
row_there u s r _ _ no_more p q m = m
row_there u s r _ _ (next {t = t} {v = v} {ts = ts} {vs = vs} k l) p q m =
    more_within r (Matches u s t) (Matches u s v) (RowMatches u s r ts) (RowMatches u s r vs)
    (k.there s) (λ p q n. row_there u s r ts vs l p q n) p q m

row_back : (u : Bool) (s : Assertions) (r : Row) (ts vs : Trees) → AllSame u ts vs →
    Within (RowMatches u s r vs) (RowMatches u s r ts)
row_back u s r _ _ no_more p q m = m
row_back u s r _ _ (next {t = t} {v = v} {ts = ts} {vs = vs} k l) p q m =
    more_within r (Matches u s v) (Matches u s t) (RowMatches u s r vs) (RowMatches u s r ts)
    (k.back s) (λ p q n. row_back u s r ts vs l p q n) p q m

-- the children of a row
pub replaced_row : (u : Bool) (r : Row) (ts vs : Trees) → AllSame u ts vs → SameMatches u (row r ts) (row r vs)
replaced_row u r ts vs k = record {
  there = λ s p q m. row_there u s r ts vs k p q m;
  back = λ s p q m. row_back u s r ts vs k p q m;
}

some_tree : (t v : Tree) → Some t ≡ Some v → t ≡ v
some_tree t v h = cc

all_the_same : (u : Bool) (ts : Trees) → AllSame u ts ts
all_the_same u no_trees = no_more
all_the_same u (more_trees t ts) = next (same u t) (all_the_same u ts)

all_but_one : (u : Bool) (ts : Trees) (i : ℕ) (t v : Tree) → slice_get (list_of ts) i ≡ Some t → SameMatches u t v →
    AllSame u ts (with_tree ts i v)
all_but_one u no_trees i t v is k = no_more
all_but_one u (more_trees x ts) zero t v is k =
    next (subst (λ y. SameMatches u y v) (sym (some_tree x t is)) k) (all_the_same u ts)
all_but_one u (more_trees x ts) (suc i) t v is k = next (same u x) (all_but_one u ts i t v is k)

-- the child of a row at an index
pub replaced_tree : (u : Bool) (r : Row) (ts : Trees) (i : ℕ) (t v : Tree) → slice_get (list_of ts) i ≡ Some t →
    SameMatches u t v → SameMatches u (row r ts) (row r (with_tree ts i v))
replaced_tree u r ts i t v is k = replaced_row u r ts (with_tree ts i v) (all_but_one u ts i t v is k)
