-- Lists of trees, one after another.
use Rattle.std.proofs.Common.{◌≡◌, ℕ, ◌+◌, Bool, true, false, List, [], ◌∷◌, length, min, max, Option, None, Some, inl, inr, refl, sym, ap, ◌∙◌, subst, arith}
use Rattle.fancy_grammar.specs.Tree.{Tree, Trees, row, no_trees, more_trees, trees_of}
use Rattle.fancy_syntax.specs.View.{views}
use Rattle.fancy_syntax.specs.declared.expr.Expr.{Expr}
use Rattle.pattern_matches.specs.Defined.{IsRowDefined}
use Rattle.pattern_matches.specs.Lengths.{min_length, max_length, min_lengths, max_lengths, row_least, row_most, or_zero}
use Rattle.pattern_facts.specs.Anchors as side
use Rattle.pattern_facts.specs.Anchors.{Side, is_anchored, are_anchored, is_none_anchored, is_row_anchored}
use Rattle.pattern_facts.specs.Bytes.{AreBytes, AreLong}
use Rattle.pattern_facts.specs.Known.{IsFactsOf, IsKnownAs}
use Rattle.pattern_facts.specs.Lengths.{AreLengths, ArePut, least_of_both, row_of}
use Rattle.pattern_facts.specs.Lists.{AreTaken, AreTakenBytes, AreTakenCharacters, IsTaken, IsTakenSide}
use Rattle.pattern_facts.specs.declared.lengths.Lengths.{Lengths}
use Rattle.pattern_facts.specs.declared.lengths.ListKind.{ListKind}
use Rattle.pattern_facts.specs.declared.lengths.ListKind.TheVariants as kind
use Rattle.pattern_facts.specs.declared.node_facts.Facts.{Facts}

pub least_assoc : (k : ListKind) (a b : ℕ) (o : Option ℕ) →
    row_least (row_of k) a (row_least (row_of k) b o) ≡ row_least (row_of k) (least_of_both k a b) o
least_assoc kind.Concat a b None = refl
least_assoc kind.Concat a b (Some n) = let e : a + (b + n) ≡ (a + b) + n = omega arith in ap Some e
least_assoc kind.Alt a b None = refl
least_assoc kind.Alt a b (Some n) = let e : min a (min b n) ≡ min (min a b) n = omega arith in ap Some e

most_assoc : (k : ListKind) (m n o : Option ℕ) →
    row_most (row_of k) m (row_most (row_of k) n o) ≡ row_most (row_of k) (row_most (row_of k) m n) o
most_assoc kind.Concat None n o = refl
most_assoc kind.Concat (Some a) None o = refl
most_assoc kind.Concat (Some a) (Some b) None = refl
most_assoc kind.Concat (Some a) (Some b) (Some c) = let e : a + (b + c) ≡ (a + b) + c = omega arith in ap Some e
most_assoc kind.Alt None n o = refl
most_assoc kind.Alt (Some a) None o = refl
most_assoc kind.Alt (Some a) (Some b) None = refl
most_assoc kind.Alt (Some a) (Some b) (Some c) = let e : max a (max b c) ≡ max (max a b) c = omega arith in ap Some e

most_whole : (k : ListKind) (o : Option ℕ) → row_most (row_of k) o (Some 0) ≡ o
most_whole kind.Concat None = refl
most_whole kind.Concat (Some n) = let e : n + 0 ≡ n = omega arith in ap Some e
most_whole kind.Alt None = refl
most_whole kind.Alt (Some n) = let e : max n 0 ≡ n = omega arith in ap Some e

pub least_whole : (k : ListKind) (a : ℕ) → or_zero (row_least (row_of k) a (min_lengths (row_of k) no_trees)) ≡ a
least_whole kind.Concat a = omega arith
least_whole kind.Alt a = refl

anchored_assoc : (k : ListKind) (a b c : Bool) → is_row_anchored (row_of k) a (is_row_anchored (row_of k) b c)
    ≡ is_row_anchored (row_of k) (is_row_anchored (row_of k) a b) c
anchored_assoc kind.Concat true b c = refl
anchored_assoc kind.Concat false b c = refl
anchored_assoc kind.Alt true b c = refl
anchored_assoc kind.Alt false b c = refl

anchored_whole : (k : ListKind) (b : Bool) → is_row_anchored (row_of k) b (is_none_anchored (row_of k)) ≡ b
anchored_whole kind.Concat true = refl
anchored_whole kind.Concat false = refl
anchored_whole kind.Alt true = refl
anchored_whole kind.Alt false = refl

-- ---- lists of which some trees are taken

next_characters : (k : ListKind) (all rest : Trees) (t : Tree) (l next put : Lengths) → ArePut k l next put →
    AreTakenCharacters k all (more_trees t rest) l → AreLengths (min_length t) (max_length t) next →
    AreTakenCharacters k all rest put
next_characters k all rest t l next put f h known = record {
  least = least_of_both k h.least (min_length t);
  greatest = row_most (row_of k) h.greatest (max_length t);
  lengths = f h.least (min_length t) h.greatest (max_length t) h.lengths known;
  min = h.min ∙ least_assoc k h.least (min_length t) (min_lengths (row_of k) rest);
  max = h.max ∙ most_assoc k h.greatest (max_length t) (max_lengths (row_of k) rest);
}

next_bytes : (u : Bool) (k : ListKind) (all rest : Trees) (t : Tree) (l next put : Lengths) → ArePut k l next put →
    AreTakenBytes u k all (more_trees t rest) l → AreBytes u t next → AreTakenBytes u k all rest put
next_bytes u k all rest t l next put f h known = record {
  least = least_of_both k h.least known.0;
  greatest = row_most (row_of k) h.greatest known.1;
  lengths = f h.least known.0 h.greatest known.1 h.lengths known.3;
  long = λ n o x.
      subst (λ m. AreLong u (row_of k) all m (row_most (row_of k) (row_most (row_of k) h.greatest known.1) o))
      (least_assoc k h.least known.0 n)
      (subst (λ m. AreLong u (row_of k) all (row_least (row_of k) h.least (row_least (row_of k) known.0 n)) m)
      (most_assoc k h.greatest known.1 o)
      (h.long (row_least (row_of k) known.0 n) (row_most (row_of k) known.1 o)
      (known.0, known.1, n, o, known.2, x, refl, refl)));
}

next_side : (s : Side) (k : ListKind) (all rest : Trees) (t : Tree) (b next put : Bool) →
    put ≡ is_row_anchored (row_of k) b next → IsTakenSide s k all (more_trees t rest) b → next ≡ is_anchored s t →
    IsTakenSide s k all rest put
next_side s k all rest t b next put is h same =
    h ∙ anchored_assoc k b (is_anchored s t) (are_anchored s (row_of k) rest)
    ∙ ap (λ x. is_row_anchored (row_of k) (is_row_anchored (row_of k) b x) (are_anchored s (row_of k) rest)) (sym same)
    ∙ ap (λ x. is_row_anchored (row_of k) x (are_anchored s (row_of k) rest)) (sym is)

-- what the facts of two are, if they are put together
pub record IsPut (k : ListKind) (f next put : Facts) : Type 0 where
  pub characters : ArePut k f.characters next.characters put.characters
  pub bytes : ArePut k f.bytes next.bytes put.bytes
  pub start : put.is_anchored_at_start ≡ is_row_anchored (row_of k) f.is_anchored_at_start next.is_anchored_at_start
  pub end : put.is_anchored_at_end ≡ is_row_anchored (row_of k) f.is_anchored_at_end next.is_anchored_at_end

pub taken_next : (u : Bool) (k : ListKind) (all rest : Trees) (t : Tree) (f next put : Facts) → IsPut k f next put →
    AreTaken u k all (more_trees t rest) f → IsKnownAs u t next → AreTaken u k all rest put
taken_next u k all rest t f next put is h known = record {
  characters = next_characters k all rest t f.characters next.characters put.characters is.characters h.characters
      known.characters;
  bytes = next_bytes u k all rest t f.bytes next.bytes put.bytes is.bytes h.bytes known.bytes;
  start = next_side side.front k all rest t f.is_anchored_at_start next.is_anchored_at_start put.is_anchored_at_start
      is.start h.start known.start;
  end = next_side side.back k all rest t f.is_anchored_at_end next.is_anchored_at_end put.is_anchored_at_end
      is.end h.end known.end;
  defined = λ d. h.defined (known.defined, d);
  unknown = λ n. h.unknown (inr n);
}

first_side : (s : Side) (k : ListKind) (rest : Trees) (t : Tree) (b : Bool) → b ≡ is_anchored s t →
    IsTakenSide s k (more_trees t rest) rest b
first_side s k rest t b is = ap (λ x. is_row_anchored (row_of k) x (are_anchored s (row_of k) rest)) (sym is)

-- the first tree of a list
pub taken_first : (u : Bool) (k : ListKind) (rest : Trees) (t : Tree) (o : Option Facts) → IsFactsOf u t o →
    IsTaken u k (more_trees t rest) rest o
taken_first u k rest t None h = inl h
taken_first u k rest t (Some f) h = record {
  characters = record {
    least = min_length t;
    greatest = max_length t;
    lengths = h.characters;
    min = refl;
    max = refl;
  };
  bytes = record {
    least = h.bytes.0;
    greatest = h.bytes.1;
    lengths = h.bytes.3;
    long = λ n o x. (h.bytes.0, h.bytes.1, n, o, h.bytes.2, x, refl, refl);
  };
  start = first_side side.front k rest t f.is_anchored_at_start h.start;
  end = first_side side.back k rest t f.is_anchored_at_end h.end;
  defined = λ d. (h.defined, d);
  unknown = λ n. inr n;
}

-- ---- whole lists

is_row : (k : ListKind) → IsRowDefined (row_of k)
is_row kind.Concat = tt
is_row kind.Alt = tt

same_lengths : (a b : ℕ) (m n : Option ℕ) (l : Lengths) → a ≡ b → m ≡ n → AreLengths a m l → AreLengths b n l
same_lengths a b m n l e f h = subst (λ x. AreLengths x n l) e (subst (λ x. AreLengths a x l) f h)

whole_characters : (k : ListKind) (all : Trees) (l : Lengths) → AreTakenCharacters k all no_trees l →
    AreLengths (or_zero (min_lengths (row_of k) all)) (max_lengths (row_of k) all) l
whole_characters k all l h =
    same_lengths h.least (or_zero (min_lengths (row_of k) all)) h.greatest (max_lengths (row_of k) all) l
    (sym (ap or_zero h.min ∙ least_whole k h.least)) (sym (h.max ∙ most_whole k h.greatest)) h.lengths

whole_bytes : (u : Bool) (k : ListKind) (all : Trees) (l : Lengths) → AreTakenBytes u k all no_trees l →
    AreBytes u (row (row_of k) all) l
whole_bytes u k all l h =
    let n = row_least (row_of k) h.least (min_lengths (row_of k) no_trees) in
    let o = row_most (row_of k) h.greatest (Some 0) in (
      or_zero n,
      o,
      (n, h.long (min_lengths (row_of k) no_trees) (Some 0) (refl, refl), refl),
      same_lengths h.least (or_zero n) h.greatest o l (sym (least_whole k h.least)) (sym (most_whole k h.greatest))
          h.lengths,
    )

-- all trees of a list
pub taken_all : (u : Bool) (k : ListKind) (all : Trees) (o : Option Facts) → IsTaken u k all no_trees o →
    IsFactsOf u (row (row_of k) all) o
taken_all u k all None h = inr h
taken_all u k all (Some f) h = record {
  defined = (is_row k, h.defined tt);
  characters = whole_characters k all f.characters h.characters;
  bytes = whole_bytes u k all f.bytes h.bytes;
  start = sym (h.start ∙ anchored_whole k f.is_anchored_at_start);
  end = sym (h.end ∙ anchored_whole k f.is_anchored_at_end);
}

-- the trees of an empty list
pub no_trees_in : (es : List Expr) → length es ≡ 0 → no_trees ≡ trees_of (views es)
no_trees_in [] h = refl
no_trees_in (e ∷ es) h = absurd (omega (arith, h))

-- a list of no trees
pub no_trees_known : (u : Bool) (k : ListKind) (f : Facts) → AreLengths 0 (Some 0) f.characters →
    AreLengths 0 (Some 0) f.bytes → f.is_anchored_at_start ≡ is_none_anchored (row_of k) →
    f.is_anchored_at_end ≡ is_none_anchored (row_of k) → IsKnownAs u (row (row_of k) no_trees) f
no_trees_known u k f characters bytes at_start at_end = record {
  defined = (is_row k, tt);
  characters = same_lengths 0 (or_zero (min_lengths (row_of k) no_trees)) (Some 0) (Some 0) f.characters
      (none_least k) refl characters;
  bytes = (
    or_zero (min_lengths (row_of k) no_trees),
    Some 0,
    (min_lengths (row_of k) no_trees, (refl, refl), refl),
    same_lengths 0 (or_zero (min_lengths (row_of k) no_trees)) (Some 0) (Some 0) f.bytes (none_least k) refl bytes,
  );
  start = at_start;
  end = at_end;
} where
  none_least : (k : ListKind) → 0 ≡ or_zero (min_lengths (row_of k) no_trees)
  none_least kind.Concat = refl
  none_least kind.Alt = refl
