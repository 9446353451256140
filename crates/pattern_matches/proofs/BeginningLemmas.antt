-- Branches that begin with what another one matches.
use Rattle.std.proofs.Common.{◌≡◌, ◌≢◌, ℕ, zero, suc, ◌≤◌, Bool, inl, inr, Some, slice_get, refl, arith}
use Rattle.fancy_grammar.specs.Label as label
use Rattle.fancy_grammar.specs.Tree.{Tree, Trees, no_trees, more_trees, list_of, alt, concat, look_around, repeat}
use Rattle.fancy_grammar.specs.declared.kinds.LookAround.TheVariants.{LookAhead, LookAheadNeg}
use Rattle.pattern_matches.specs.Parts.{Position, Parts, Times}
use Rattle.pattern_matches.specs.Matches.{Assertions, Matches, RowMatches}
use Rattle.pattern_matches.specs.SameMatches.{SameMatches, Covers, without}
use Rattle.pattern_matches.specs.Beginnings.{CoversStarts, AreOptional, BeginsWithin, ended, last, piece}
use Rattle.pattern_matches.proofs.AltLemmas.{split, still, fewer}
use Rattle.pattern_matches.proofs.ReplaceLemmas.{times_within}

optional : (u : Bool) (s : Assertions) (ts : Trees) (p : Position) → AreOptional u ts → RowMatches u s label.concat ts p p
optional u s no_trees p k = refl
optional u s (more_trees t ts) p k = record { middle = p; first = k.0 s p; second = optional u s ts p k.1 }

-- a concatenation whose pieces begin with what those of another one match
pub begins : (u : Bool) (vs ts : Trees) → BeginsWithin u vs ts → CoversStarts u (concat ts) (concat vs)
begins u vs ts (ended k) s p m = (p, optional u s ts p k)
begins u _ _ (last {us = vs} {ts = ts} k l) s p m =
    let r = k s p (m.1.middle, m.1.first) in
    (r.0, record { middle = r.0; first = r.1; second = optional u s ts r.0 l })
begins u _ _ (piece {us = vs} {ts = ts} k l) s p m =
    let r = begins u vs ts l s m.1.middle (m.0, m.1.second) in
    (r.0, record { middle = m.1.middle; first = k s p m.1.middle m.1.first; second = r.1 })

-- the first turns
front : (P : Parts) (n l : ℕ) (p q : Position) → l ≤ n → Times P n p q → (r : Position) × Times P l p r
front P n zero p q h k = (p, refl)
front P zero (suc l) p q h k = absurd (omega arith)
front P (suc n) (suc l) p q h k =
    let r = front P n l k.middle q (omega arith) k.second in
    (r.0, record { middle = k.middle; first = k.first; second = r.1 })

-- a repeat with at least as many turns, each of which the other one's operand matches too
pub fewer_turns : (u : Bool) (t v : Tree) (lo hi least most : ℕ) (greedy other : Bool) → Covers u t v → least ≤ lo →
    least ≤ most → CoversStarts u (repeat t least most greedy) (repeat v lo hi other)
fewer_turns u t v lo hi least most greedy other covers low high s p m =
    let enough : lo ≤ m.1.count = m.1.enough in
    let r = front (Matches u s v) m.1.count least p m.0 (omega arith) m.1.turns in (
      r.0,
      record {
        count = least;
        enough = omega arith;
        few = λ h. high;
        turns = times_within (Matches u s v) (Matches u s t) (covers s) least p r.0 r.1;
      },
    )

-- as many turns
pub same_turns : (u : Bool) (t v : Tree) (lo hi : ℕ) (greedy other : Bool) → Covers u t v →
    Covers u (repeat t lo hi greedy) (repeat v lo hi other)
same_turns u t v lo hi greedy other covers s p q m = record {
  count = m.count;
  enough = m.enough;
  few = m.few;
  turns = times_within (Matches u s v) (Matches u s t) (covers s) m.count p q m.turns;
}

-- an alternation matches from the same positions without a branch if another one matches from each of its positions
pub starts_there : (u : Bool) (ts : Trees) (i j : ℕ) (t v : Tree) → i ≢ j → slice_get (list_of ts) i ≡ Some t →
    slice_get (list_of ts) j ≡ Some v → CoversStarts u t v → CoversStarts u (alt (without ts j)) (alt ts)
starts_there u ts i j t v other is there covers s p (q, k) = elim (split u s ts j v p q there k) [
  | inl l ↦ (let r = covers s p (q, l) in (r.0, still u s ts i j t p r.0 other is r.1))
  | inr l ↦ (q, l)
]

pub starts_back : (u : Bool) (ts : Trees) (j : ℕ) → CoversStarts u (alt ts) (alt (without ts j))
starts_back u ts j s p (q, k) = (q, fewer u s ts j p q k)

-- so a look-ahead does without it
pub look_ahead : (u : Bool) (ts : Trees) (i j : ℕ) (t v : Tree) → i ≢ j → slice_get (list_of ts) i ≡ Some t →
    slice_get (list_of ts) j ≡ Some v → CoversStarts u t v →
    SameMatches u (look_around (alt ts) LookAhead) (look_around (alt (without ts j)) LookAhead)
look_ahead u ts i j t v other is there covers = record {
  there = λ s p q k. (k.0, starts_there u ts i j t v other is there covers s p k.1);
  back = λ s p q k. (k.0, starts_back u ts j s p k.1);
}

pub look_ahead_neg : (u : Bool) (ts : Trees) (i j : ℕ) (t v : Tree) → i ≢ j → slice_get (list_of ts) i ≡ Some t →
    slice_get (list_of ts) j ≡ Some v → CoversStarts u t v →
    SameMatches u (look_around (alt ts) LookAheadNeg) (look_around (alt (without ts j)) LookAheadNeg)
look_ahead_neg u ts i j t v other is there covers = record {
  there = λ s p q k. (k.0, λ r m. let n = starts_back u ts j s p (r, m) in k.1 n.0 n.1);
  back = λ s p q k. (k.0, λ r m. let n = starts_there u ts i j t v other is there covers s p (r, m) in k.1 n.0 n.1);
}
