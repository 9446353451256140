-- A branch that begins with what an earlier one matches, by what both match.
use Rattle.std.proofs.Common.{◌≡◌, ℕ, ◌≤◌, ◌==◌, Bool, true, Result, Ok, Err, IfOk, IsTrue, List, [], ◌∷◌, inl, inr, refl, sym, subst, arith, eqb-true}
use Rattle.std.proofs.lemmas.Bool.{and_parts}
use Rattle.std.specs.declared.alloc.AllocError.{AllocError}
use Rattle.fancy_grammar.specs.Label as label
use Rattle.fancy_grammar.specs.Tree.{Tree, leaf, over, row, concat, repeat, trees_of}
use Rattle.fancy_grammar.proofs.TreeLaws.{trees_back}
use Rattle.class_rules.specs.Beginnings as rules
use Rattle.class_rules.specs.Beginnings.{StartsWithin, RepeatAlike, operand, least, most, pieces, are_optional}
use Rattle.class_rules.specs.Subsumed.{IsSubsumed}
use Rattle.pattern_matches.specs.Beginnings.{AreOptional, BeginsWithin, CoversStarts, last, piece}
use Rattle.pattern_matches.specs.Defined.{IsDefined, AreDefined}
use Rattle.pattern_matches.specs.Matches.{Assertions, Matches}
use Rattle.pattern_matches.specs.Parts.{Position}
use Rattle.pattern_matches.specs.SameMatches.{Covers, SameMatches}
use Rattle.pattern_matches.proofs.BeginningLemmas.{begins, fewer_turns, same_turns}
use Rattle.pattern_matches.proofs.CharacterLemmas.{covers_characters}
use Rattle.pattern_matches.proofs.RepeatLemmas.{greed, once}
use Rattle.patterns_lint.specs.Branches.{IsCovered}

-- ---- one piece

-- a tree is its operand, repeated
as_repeat : (u : Bool) (t : Tree) → SameMatches u (repeat (operand t) (least t) (most t) true) t
as_repeat u (leaf l) = once u (leaf l) true
as_repeat u (over label.group t) = once u (over label.group t) true
as_repeat u (over (label.look_around l) t) = once u (over (label.look_around l) t) true
as_repeat u (over (label.repeat lo hi greedy) t) = greed u t lo hi true greedy
as_repeat u (over label.atomic_group t) = once u (over label.atomic_group t) true
as_repeat u (over label.define_group t) = once u (over label.define_group t) true
as_repeat u (over label.repeater t) = once u (over label.repeater t) true
as_repeat u (over label.stopper t) = once u (over label.stopper t) true
as_repeat u (over (label.ast_group name position) t) = once u (over (label.ast_group name position) t) true
as_repeat u (row r ts) = once u (row r ts) true

in_order : (u : Bool) (t : Tree) → IsDefined u t → least t ≤ most t
in_order u (leaf l) d = omega arith
in_order u (over (label.repeat lo hi greedy) t) d = d.0
in_order u (over label.group t) d = omega arith
in_order u (over (label.look_around l) t) d = omega arith
in_order u (over w t) d = absurd d.0
in_order u (row r ts) d = omega arith

subsumed : (u : Bool) (t v : Tree) → IsSubsumed u t v → Covers u v t
subsumed u t v k = covers_characters u t v (k.0).class.ranges.items (k.1).class.ranges.items k.2 k.3 k.4

starts : (u : Bool) (t v : Tree) → StartsWithin u t v → IsDefined u v → CoversStarts u v t
starts u t v k d s p (q, m) =
    let r = fewer_turns u (operand v) (operand t) (least t) (most t) (least v) (most v) true true
    (subsumed u (operand t) (operand v) k.2) k.1 (in_order u v d) s p (q, (as_repeat u t).back s p q m) in
    (r.0, (as_repeat u v).there s p r.0 r.1)

turns : (u : Bool) (t v : Tree) (lo hi : ℕ) → lo ≡ least t → hi ≡ most t → lo ≡ least v → hi ≡ most v →
    IsSubsumed u (operand t) (operand v) → Covers u v t
turns u t v lo hi a b c d k s p q m =
    let there = subst (λ x. Matches u s (repeat (operand t) x (most t) true) p q) (sym a) ((as_repeat u t).back s p q m) in
    let here = subst (λ x. Matches u s (repeat (operand t) lo x true) p q) (sym b) there in
    let other = same_turns u (operand v) (operand t) lo hi true true (subsumed u (operand t) (operand v) k) s p q here in
    let back = subst (λ x. Matches u s (repeat (operand v) x hi true) p q) c other in
    (as_repeat u v).there s p q (subst (λ x. Matches u s (repeat (operand v) (least v) x true) p q) d back)

alike : (u : Bool) (t v : Tree) → RepeatAlike t v → IsSubsumed u (operand t) (operand v) → Covers u v t
alike u t v (a, b, c) k = turns u t v (least t) (most t) refl refl a (rw (b, c) a) k

-- ---- branches

skipped : (u : Bool) (t : Tree) → (least t == 0) ≡ true → (s : Assertions) (p : Position) → Matches u s t p p
skipped u t h s p =
    let none = eqb-true (least t) 0 h in
    (as_repeat u t).there s p p
    (record { count = 0; enough = omega (arith, none); few = λ limit. omega arith; turns = refl })

optional : (u : Bool) (ts : List Tree) → are_optional ts ≡ true → AreOptional u (trees_of ts)
optional u [] h = tt
optional u (t ∷ ts) h =
    let both = and_parts (least t == 0) (are_optional ts) h in
    (λ s p. skipped u t both.0 s p, optional u ts both.1)

pieces_begin : (u : Bool) (us ts : List Tree) → rules.BeginsWithin u us ts → AreDefined u (trees_of ts) →
    BeginsWithin u (trees_of us) (trees_of ts)
pieces_begin u [] [] k d = absurd k
pieces_begin u [] (t ∷ ts) k d = absurd k
pieces_begin u (v ∷ us) [] k d = absurd k
pieces_begin u (v ∷ us) (t ∷ ts) (k, inl h) d = last (starts u v t k d.0) (optional u ts h)
pieces_begin u (v ∷ us) (t ∷ ts) (k, inr (same, l)) d = piece (alike u v t same k.2) (pieces_begin u us ts l d.1)

-- a branch is its pieces, one after another
record IsOfPieces (u : Bool) (t : Tree) : Type 0 where
  there : Covers u t (concat (trees_of (pieces t)))
  back : Covers u (concat (trees_of (pieces t))) t
  defined : IsDefined u t → AreDefined u (trees_of (pieces t))

alone : (u : Bool) (t : Tree) → pieces t ≡ t ∷ [] → IsOfPieces u t
alone u t is = record {
  there = λ s p q k.
      let one = subst (λ ts. Matches u s (concat (trees_of ts)) p q) is k in
      subst (λ x. Matches u s t p x) one.second one.first;
  back = λ s p q k. subst (λ ts. Matches u s (concat (trees_of ts)) p q) (sym is)
      (record { middle = q; first = k; second = refl });
  defined = λ d. subst (λ ts. AreDefined u (trees_of ts)) (sym is) (d, tt);
}

of_pieces : (u : Bool) (t : Tree) → IsOfPieces u t
of_pieces u (leaf l) = alone u (leaf l) refl
of_pieces u (over w t) = alone u (over w t) refl
of_pieces u (row label.concat ts) = record {
  there = λ s p q k. subst (λ us. Matches u s (concat us) p q) (trees_back ts) k;
  back = λ s p q k. subst (λ us. Matches u s (concat us) p q) (sym (trees_back ts)) k;
  defined = λ d. subst (λ us. AreDefined u us) (sym (trees_back ts)) d.1;
}
of_pieces u (row label.alt ts) = alone u (row label.alt ts) refl
of_pieces u (row label.expression ts) = alone u (row label.expression ts) refl
of_pieces u (row label.conditional ts) = alone u (row label.conditional ts) refl

-- the earlier branch matches from each position from which the later one does
pub branch_begins : (u : Bool) (later earlier : Tree) → rules.BeginsWithin u (pieces later) (pieces earlier) →
    IsDefined u earlier → CoversStarts u earlier later
branch_begins u later earlier k d s p (q, m) =
    let inside = pieces_begin u (pieces later) (pieces earlier) k ((of_pieces u earlier).defined d) in
    let r = begins u (trees_of (pieces later)) (trees_of (pieces earlier)) inside s p
    (q, (of_pieces u later).back s p q m) in
    (r.0, (of_pieces u earlier).there s p r.0 r.1)

-- the same of an answer
pub covered_if : (u : Bool) (later earlier : Tree) (o : Result Bool AllocError) →
    IfOk o (λ b. IsTrue b → rules.BeginsWithin u (pieces later) (pieces earlier)) →
    IfOk o (λ b. IsTrue b → IsCovered u later earlier)
covered_if u later earlier (Ok b) h = λ yes d s p m. branch_begins u later earlier (h yes) d s p m
covered_if u later earlier (Err e) h = tt
