-- What a report on two repeats of a concatenation of a pattern rests on.
use Rattle.std.specs.Prelude.{◌≡◌, ℕ, suc, ◌+◌, ◌-◌, ◌<◌, Bool, List, map, slice_get, IsSomeAnd}
use Rattle.std.specs.List.{slice_range}
use Rattle.fancy_grammar.specs.Tree.{Tree, trees_of, concat, group, repeat}
use Rattle.fancy_syntax.specs.Spanned.{Spanned, first_span, IsNodeOf, spanned_children}
use Rattle.fancy_syntax.specs.View.{view}
use Rattle.fancy_syntax.specs.declared.span.Span.{Span}
use Rattle.backtracking.specs.Chain.{Link, Chain, start, next, last_part, links, HasWaysThrough}
use Rattle.backtracking.specs.ManySplits.{HasManySplits}
use Rattle.backtracking.specs.ThreeWays.{AreThreeWays}
use Rattle.backtracking.specs.declared.cut.SequenceWitness.{SequenceWitness}
use Rattle.backtracking.specs.declared.sequences.SlowSequence.{SlowSequence}

-- the tree repeats the part without a limit, or with one more than 20 above the least number, or is a group of such
-- a tree
pub data IsRepeatOf (part : Tree) : Tree → Type 0 where
  itself : {lo hi greedy : _} → 20 < hi - lo → IsRepeatOf part (repeat part lo hi greedy)
  inside : {t : Tree} → IsRepeatOf part t → IsRepeatOf part (group t)

-- the trees have a repeat of x at an index, a repeat of y at a later one, and ts between
pub record IsCut (trees : List Tree) (i j : ℕ) (x : Tree) (ts : List Tree) (y : Tree) : Type 0 where
  pub order : i < j
  pub first : IsSomeAnd (slice_get trees i) (IsRepeatOf x)
  pub between : ts ≡ slice_range trees (i + 1) j
  pub last : IsSomeAnd (slice_get trees j) (IsRepeatOf y)

-- the span starts with the one at an index, and ends with the one at another
pub record IsSpanAcross (spans : List Span) (i j : ℕ) (span : Span) : Type 0 where
  pub start : IsSomeAnd (slice_get spans i) (λ s. span.start ≡ s.start)
  pub end : IsSomeAnd (slice_get spans j) (λ s. span.end ≡ s.end)

-- the chain is one of repeats of the trees, each of which has three ways over the word with the next one; its last repeat
-- is at the index
pub data IsChain (unicode : Bool) (trees : List Tree) (w : List ℕ) : Chain → ℕ → Type 0 where
  one : {x i : _} → IsSomeAnd (slice_get trees i) (IsRepeatOf x) → IsChain unicode trees w (start x) i
  more : {c i j : _} → {l : Link} → IsChain unicode trees w c i → IsCut trees i j (last_part c) l.between l.part →
      AreThreeWays unicode (last_part c) l.between l.part w l.before l.across l.after → IsChain unicode trees w (next c l) j

-- the last link of the chain of a report
abbrev pub link_of : List Tree → Tree → SequenceWitness → Link
link_of ts y w = record { between = ts; part = y; before = w.first.items; across = w.across.items; after = w.last.items }

-- The report has the span of two repeats of the trees, and a word with three ways, so that there are n ways over the word n
-- times. Its degree is how many repeats the chain has that ends with these two, and there are m^(degree - 1) ways through
-- the chain over the word m * (degree - 1) times.
pub record IsSlowAcross (unicode : Bool) (trees : List Tree) (spans : List Span) (r : SlowSequence) : Type 0 where
  pub i : ℕ
  pub earlier : Chain  -- through the first of the two
  pub ts : List Tree
  pub y : Tree
  pub chain : IsChain unicode trees r.witness.word.items earlier i
  pub cut : IsCut trees i r.last (last_part earlier) ts y
  pub span : IsSpanAcross spans i r.last r.span
  pub three : AreThreeWays unicode (last_part earlier) ts y r.witness.word.items r.witness.first.items r.witness.across.items r.witness.last.items
  pub many : HasManySplits unicode (last_part earlier) ts y r.witness.word.items r.witness.first.items r.witness.across.items r.witness.last.items
  pub degree : r.degree ≡ links (next earlier (link_of ts y r.witness)) + 1
  pub through : HasWaysThrough unicode (next earlier (link_of ts y r.witness)) r.witness.word.items

-- the same of some concatenation of the pattern
pub record IsSlowSequenceIn (unicode : Bool) (tree : Spanned) (r : SlowSequence) : Type 0 where
  pub node : Spanned
  pub inside : IsNodeOf node tree
  pub trees : List Tree
  pub is_concat : view node.expr ≡ concat (trees_of trees)
  pub slow : IsSlowAcross unicode trees (map (λ c. first_span c.spans) (spanned_children node)) r
