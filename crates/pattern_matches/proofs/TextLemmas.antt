-- The two positions of a part that a tree matches are in the same text.
use Rattle.std.proofs.Common.{◌≡◌, ℕ, zero, suc, Bool, inl, inr, refl, ap, ◌∙◌}
use Rattle.fancy_grammar.specs.Label as label
use Rattle.fancy_grammar.specs.Label.{Leaf, Wrap, Row}
use Rattle.fancy_grammar.specs.Tree.{Tree, Trees, leaf, over, row, no_trees, more_trees}
use Rattle.pattern_matches.specs.Parts.{Position, Parts, One, one, Times, text_of}
use Rattle.pattern_matches.specs.Matches.{Assertions, Matches, RowMatches, LeafMatches, WrapMatches, NoneMatch, MoreMatch}

-- each part of P is a part of one text
abbrev Stays : Parts → Type 0
Stays P = (p q : Position) → P p q → text_of p ≡ text_of q

one_stays : (Has : ℕ → Type 0) → Stays (One Has)
one_stays Has p q (one h) = refl

leaf_stays : (u : Bool) (s : Assertions) (l : Leaf) → Stays (LeafMatches u s l)
leaf_stays u s label.empty p q k = ap text_of k
leaf_stays u s (label.assertion a) p q k = ap text_of k.0
leaf_stays u s (label.any newline crlf) p q k = one_stays _ p q k
leaf_stays u s (label.literal text casei) p q k = one_stays _ p q k
leaf_stays u s (label.delegate text casei) p q k = one_stays _ p q k
leaf_stays u s _ p q k = absurd k

times_stay : (P : Parts) → Stays P → (n : ℕ) → Stays (Times P n)
times_stay P f zero p q k = ap text_of k
times_stay P f (suc n) p q k = f p k.middle k.first ∙ times_stay P f n k.middle q k.second

wrap_stays : (w : Wrap) (P : Parts) → Stays P → Stays (WrapMatches w P)
wrap_stays label.group P f p q k = f p q k
wrap_stays (label.look_around l) P f p q k = ap text_of k.0
wrap_stays (label.repeat lo hi greedy) P f p q k = times_stay P f k.count p q k.turns
wrap_stays _ P f p q k = absurd k

none_stays : (r : Row) → Stays (NoneMatch r)
none_stays label.concat p q k = ap text_of k
none_stays _ p q k = absurd k

more_stays : (r : Row) (P Q : Parts) → Stays P → Stays Q → Stays (MoreMatch r P Q)
more_stays label.concat P Q f g p q k = f p k.middle k.first ∙ g k.middle q k.second
more_stays label.alt P Q f g p q (inl k) = f p q k
more_stays label.alt P Q f g p q (inr k) = g p q k
more_stays label.expression P Q f g p q k = absurd k
more_stays label.conditional P Q f g p q k = absurd k

mutual
  pub same_text : (u : Bool) (s : Assertions) (t : Tree) (p q : Position) → Matches u s t p q → text_of p ≡ text_of q
  same_text u s (leaf l) p q k = leaf_stays u s l p q k
  same_text u s (over w t) p q k = wrap_stays w (Matches u s t) (λ p q k. same_text u s t p q k) p q k
  same_text u s (row r ts) p q k = row_text u s r ts p q k

  row_text : (u : Bool) (s : Assertions) (r : Row) (ts : Trees) (p q : Position) → RowMatches u s r ts p q →
      text_of p ≡ text_of q
  row_text u s r no_trees p q k = none_stays r p q k
  row_text u s r (more_trees t ts) p q k =
      more_stays r (Matches u s t) (RowMatches u s r ts) (λ p q k. same_text u s t p q k)
      (λ p q k. row_text u s r ts p q k) p q k
