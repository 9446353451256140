-- Trees with reports fixed match the same parts of each text.
use Rattle.std.proofs.Common.{ℕ, Bool, chars, ◌⊎◌, inl, inr, List, [], ◌∷◌, ◌++◌, Contains, sym, ◌∙◌}
use Rattle.regex_class.specs.Ranges.{Range}
use Rattle.fancy_lex.specs.declared.flags.Flags.{Flags}
use Rattle.fancy_grammar.specs.GroupInfo.{GroupInfo}
use Rattle.fancy_grammar.specs.Label as label
use Rattle.fancy_grammar.specs.Tree.{Tree, Trees, leaf, over, row, alt, trees_of}
use Rattle.pattern_matches.specs.Parts.{Position}
use Rattle.pattern_matches.specs.Matches.{Assertions, IsOneOf, Matches, RowMatches}
use Rattle.pattern_matches.specs.Defined.{IsDefined, AreDefined}
use Rattle.pattern_matches.specs.SameMatches.{SameMatches}
use Rattle.pattern_matches.proofs.AltLemmas.{contained, last_of}
use Rattle.pattern_matches.proofs.CharacterLemmas.{covers_characters}
use Rattle.pattern_matches.proofs.NodeLemmas.{alt_of_one}
use Rattle.pattern_matches.proofs.RepeatLemmas as repeats
use Rattle.pattern_matches.proofs.ReplaceLemmas.{AllSame, no_more, next, both, replaced_over, replaced_row}
use Rattle.pattern_matches.proofs.UnpositionedLemmas.{same_but_for_positions, defined_but_for_positions}
use Rattle.pattern_fixes.specs.Fixed as fixed
use Rattle.pattern_fixes.specs.Fixed.{IsFixed, AreFixed, AreBranches, IsFixedText, HasSameCharacters}
use Rattle.pattern_fixes.specs.KeepsMatches.{KeepsMatches}

-- ---- the same matches

same_characters : (u : Bool) (t v : Tree) → HasSameCharacters u t v → SameMatches u t v
same_characters u t v h =
    let s = h.0.class.ranges.items in
    let r = h.1.class.ranges.items in
    record {
      there = covers_characters u t v s r h.2 h.3 (λ c k. sym (h.4 c) ∙ k);
      back = covers_characters u v t r s h.3 h.2 (λ c k. h.4 c ∙ k);
    }

-- the branches after those before match what those that remain do, or one before does
record SameBranches (u : Bool) (before ts vs : List Tree) : Type 0 where
  there : (s : Assertions) (p q : Position) → RowMatches u s label.alt (trees_of ts) p q →
      RowMatches u s label.alt (trees_of before) p q ⊎ RowMatches u s label.alt (trees_of vs) p q
  back : (s : Assertions) (p q : Position) → RowMatches u s label.alt (trees_of vs) p q →
      RowMatches u s label.alt (trees_of ts) p q

-- what the last branch before matches, one before it does, or one that remains
without_last : (u : Bool) (s : Assertions) (before : List Tree) (t : Tree) (vs : List Tree) (p q : Position) →
    (Matches u s t p q → RowMatches u s label.alt (trees_of before) p q ⊎ RowMatches u s label.alt (trees_of vs) p q) →
    RowMatches u s label.alt (trees_of (before ++ t ∷ [])) p q ⊎ RowMatches u s label.alt (trees_of vs) p q →
    RowMatches u s label.alt (trees_of before) p q ⊎ RowMatches u s label.alt (trees_of vs) p q
without_last u s before t vs p q f (inl k) = elim (last_of u s before t p q k) [ inl l ↦ inl l | inr l ↦ f l ]
without_last u s before t vs p q f (inr k) = inr k

keep : (u : Bool) (before : List Tree) (t v : Tree) (ts vs : List Tree) → SameMatches u t v →
    SameBranches u (before ++ t ∷ []) ts vs → SameBranches u before (t ∷ ts) (v ∷ vs)
keep u before t v ts vs k l = record { there = there; back = back }
  where
    later : (s : Assertions) (p q : Position) →
        RowMatches u s label.alt (trees_of (before ++ t ∷ [])) p q ⊎ RowMatches u s label.alt (trees_of vs) p q →
        RowMatches u s label.alt (trees_of (before ++ t ∷ [])) p q ⊎ RowMatches u s label.alt (trees_of (v ∷ vs)) p q
    later s p q (inl m) = inl m
    later s p q (inr m) = inr (inr m)

    there : (s : Assertions) (p q : Position) → RowMatches u s label.alt (trees_of (t ∷ ts)) p q →
        RowMatches u s label.alt (trees_of before) p q ⊎ RowMatches u s label.alt (trees_of (v ∷ vs)) p q
    there s p q (inl m) = inr (inl (k.there s p q m))
    there s p q (inr m) =
        without_last u s before t (v ∷ vs) p q (λ n. inr (inl (k.there s p q n))) (later s p q (l.there s p q m))

    back : (s : Assertions) (p q : Position) → RowMatches u s label.alt (trees_of (v ∷ vs)) p q →
        RowMatches u s label.alt (trees_of (t ∷ ts)) p q
    back s p q (inl m) = inl (k.back s p q m)
    back s p q (inr m) = inr (l.back s p q m)

leave_out : (u : Bool) (before : List Tree) (t : Tree) (ts vs : List Tree) → Contains before t →
    SameBranches u (before ++ t ∷ []) ts vs → SameBranches u before (t ∷ ts) vs
leave_out u before t ts vs k l = record { there = there; back = λ s p q m. inr (l.back s p q m) }
  where
    there : (s : Assertions) (p q : Position) → RowMatches u s label.alt (trees_of (t ∷ ts)) p q →
        RowMatches u s label.alt (trees_of before) p q ⊎ RowMatches u s label.alt (trees_of vs) p q
    there s p q (inl m) = inl (contained u s before t p q k m)
    there s p q (inr m) = without_last u s before t vs p q (λ n. inl (contained u s before t p q k n)) (l.there s p q m)

none_before : {P : Type 0} → ⊥ ⊎ P → P
none_before (inl k) = absurd k
none_before (inr k) = k

same_branches : (u : Bool) (ts vs : List Tree) → SameBranches u [] ts vs →
    SameMatches u (alt (trees_of ts)) (alt (trees_of vs))
same_branches u ts vs k = record {
  there = λ s p q m. none_before (k.there s p q m);
  back = λ s p q m. k.back s p q m;
}

mutual
  pub keeps : (u : Bool) (t v : Tree) → IsFixed u t v → SameMatches u t v
  keeps u t v (fixed.same e) = same_but_for_positions u t v e
  keeps u _ v (fixed.once {t = t} {greedy = greedy} k) = both u _ _ _ (repeats.once u t greedy) (keeps u t v k)
  keeps u t v (fixed.class k) = same_characters u t v k
  keeps u _ _ (fixed.branches {ts = ts} {us = vs} k) = same_branches u ts vs (branches u [] ts vs k)
  keeps u _ _ (fixed.one_branch {ts = ts} {u = v} k) =
      both u _ _ _ (same_branches u ts (v ∷ []) (branches u [] ts (v ∷ []) k)) (alt_of_one u v)
  keeps u _ _ (fixed.inside {w = w} {t = t} {u = v} k) = replaced_over u w t v (keeps u t v k)
  keeps u _ _ (fixed.within {r = r} {ts = ts} {us = vs} k) = replaced_row u r ts vs (all u ts vs k)

  all : (u : Bool) (ts vs : Trees) → AreFixed u ts vs → AllSame u ts vs
  all u _ _ fixed.none = no_more
  all u _ _ (fixed.more {t = t} {u = v} {ts = ts} {us = vs} k l) = next (keeps u t v k) (all u ts vs l)

  branches : (u : Bool) (before ts vs : List Tree) → AreBranches u before ts vs → SameBranches u before ts vs
  branches u before _ _ fixed.end = record { there = λ s p q m. absurd m; back = λ s p q m. absurd m }
  branches u before _ _ (fixed.kept {ts = ts} {us = vs} {t = t} {u = v} k l) =
      keep u before t v ts vs (keeps u t v k) (branches u (before ++ t ∷ []) ts vs l)
  branches u before _ vs (fixed.left_out {ts = ts} {t = t} k l) =
      leave_out u before t ts vs k (branches u (before ++ t ∷ []) ts vs l)

-- ---- and it is defined what they match

one_character : (u : Bool) (t : Tree) (rs : List Range) → IsOneOf u t rs → IsDefined u t
one_character u (leaf (label.any newline crlf)) rs k = (rs, k)
one_character u (leaf (label.literal text casei)) rs k = (rs, k)
one_character u (leaf (label.delegate text casei)) rs k = (rs, k)
one_character u (leaf _) rs k = absurd k
one_character u (over w t) rs k = absurd k
one_character u (row r ts) rs k = absurd k

mutual
  pub stays_defined : (u : Bool) (t v : Tree) → IsFixed u t v → IsDefined u t → IsDefined u v
  stays_defined u t v (fixed.same e) d = defined_but_for_positions u t v e d
  stays_defined u _ v (fixed.once {t = t} k) d = stays_defined u t v k d.1
  stays_defined u t v (fixed.class k) d = one_character u v _ k.3
  stays_defined u _ _ (fixed.branches {ts = ts} {us = vs} k) d = (d.0, branches_defined u [] ts vs k d.1)
  stays_defined u _ _ (fixed.one_branch {ts = ts} {u = v} k) d = (branches_defined u [] ts (v ∷ []) k d.1).0
  stays_defined u _ _ (fixed.inside {t = t} {u = v} k) d = (d.0, stays_defined u t v k d.1)
  stays_defined u _ _ (fixed.within {ts = ts} {us = vs} k) d = (d.0, all_defined u ts vs k d.1)

  all_defined : (u : Bool) (ts vs : Trees) → AreFixed u ts vs → AreDefined u ts → AreDefined u vs
  all_defined u _ _ fixed.none d = d
  all_defined u _ _ (fixed.more {t = t} {u = v} {ts = ts} {us = vs} k l) d =
      (stays_defined u t v k d.0, all_defined u ts vs l d.1)

  branches_defined : (u : Bool) (before ts vs : List Tree) → AreBranches u before ts vs → AreDefined u (trees_of ts) →
      AreDefined u (trees_of vs)
  branches_defined u before _ _ fixed.end d = d
  branches_defined u before _ _ (fixed.kept {ts = ts} {us = vs} {t = t} {u = v} k l) d =
      (stays_defined u t v k d.0, branches_defined u (before ++ t ∷ []) ts vs l d.1)
  branches_defined u before _ vs (fixed.left_out {ts = ts} {t = t} k l) d =
      branches_defined u (before ++ t ∷ []) ts vs l d.1

-- ---- a text

pub keeps_matches : (f : Flags) (text : List ℕ) (t : Tree) (m : GroupInfo) (cs : List (List ℕ)) →
    IsFixedText f text t m cs → KeepsMatches f (chars text) t m
keeps_matches f text t m cs k = record {
  tree = k.0;
  parsed = k.2;
  defined = λ d. stays_defined f.unicode t k.0 k.4 d;
  same = λ d. keeps f.unicode t k.0 k.4;
}
