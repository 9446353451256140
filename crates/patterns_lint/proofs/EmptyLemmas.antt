-- Trees that match only empty parts, none, or one at each position.
use Rattle.std.proofs.Common.{◌≡◌, ℕ, zero, suc, ◌≤◌, ◌&&◌, ◌||◌, not, ◌==◌, ◌⊎◌, Bool, true, false, List, Option, Some, option_map, IsSomeAnd, slice_get, length, inl, inr, refl, sym, ap, ◌∙◌, subst, arith, eqb-true}
use Rattle.std.proofs.lemmas.Bool.{false≢true, and_parts}
use Rattle.std.proofs.lemmas.Option.{slice_get-map}
use Rattle.fancy_grammar.specs.Label as label
use Rattle.fancy_grammar.specs.Label.{Leaf, Row}
use Rattle.fancy_grammar.specs.Tree.{Tree, Trees, leaf, over, row, no_trees, more_trees, look_around, repeat}
use Rattle.fancy_grammar.specs.declared.kinds.LookAround.{LookAround}
use Rattle.fancy_grammar.specs.declared.kinds.LookAround.TheVariants.{LookAhead, LookAheadNeg, LookBehind, LookBehindNeg}
use Rattle.fancy_syntax.specs.View.{view, views}
use Rattle.fancy_syntax.specs.declared.expr.Expr.{Expr}
use Rattle.pattern_matches.specs.Defined.{IsDefined, AreDefined}
use Rattle.pattern_matches.specs.Lengths.{HasAtLeast}
use Rattle.pattern_matches.specs.Matches.{Assertions, Matches, LeafMatches, RowMatches}
use Rattle.pattern_matches.specs.Parts.{Position, Parts, Times}
use Rattle.pattern_matches.proofs.LeastLemmas.{least}
use Rattle.patterns_lint.specs.declared.quantifiers.Surroundings.{Surroundings}
use Rattle.patterns_lint.specs.Quantifiers.{no_limit, is_quantified_assertion, is_empty_at_end, is_empty_loop, is_lazy_at_end}
use Rattle.patterns_lint.specs.Empty.{leaf_matches_only_empty, leaf_can_match_empty, matches_only_empty, all_match_only_empty, can_match_empty, all_can_match_empty, any_can_match_empty, matches_everywhere, all_match_everywhere, any_matches_everywhere, has_group, HasOnlyEmptyMatches, HasNoEmptyMatch, HasEachEmptyMatch, IsDecided}

-- ---- only empty parts

times_empty : (P : Parts) → ((p q : Position) → P p q → p ≡ q) → (n : ℕ) (p q : Position) → Times P n p q → p ≡ q
times_empty P f zero p q k = k
times_empty P f (suc n) p q k = f p k.middle k.first ∙ times_empty P f n k.middle q k.second

leaf_empty : (u : Bool) (s : Assertions) (l : Leaf) → leaf_matches_only_empty l ≡ true → (p q : Position) →
    LeafMatches u s l p q → p ≡ q
leaf_empty u s label.empty h p q k = k
leaf_empty u s (label.assertion a) h p q k = k.0
leaf_empty u s (label.any newline crlf) h p q k = absurd (false≢true h)
leaf_empty u s (label.literal text casei) h p q k = absurd (false≢true h)
leaf_empty u s (label.delegate text casei) h p q k = absurd (false≢true h)
leaf_empty u s _ h p q k = absurd k

mutual
  pub only_empty : (u : Bool) (t : Tree) → matches_only_empty t ≡ true → HasOnlyEmptyMatches u t
  only_empty u (leaf l) h s p q k = leaf_empty u s l h p q k
  only_empty u (over label.group t) h s p q k = only_empty u t h s p q k
  only_empty u (over (label.look_around l) t) h s p q k = k.0
  only_empty u (over (label.repeat lo hi greedy) t) h s p q k =
      times_empty (Matches u s t) (λ x y m. only_empty u t h s x y m) k.count p q k.turns
  only_empty u (over w t) h s p q k = absurd k
  only_empty u (row label.concat ts) h s p q k = pieces_empty u s ts h p q k
  only_empty u (row label.alt ts) h s p q k = branches_empty u s ts h p q k
  only_empty u (row r no_trees) h s p q k = absurd k
  only_empty u (row r (more_trees t ts)) h s p q k = absurd k

  pieces_empty : (u : Bool) (s : Assertions) (ts : Trees) → all_match_only_empty ts ≡ true → (p q : Position) →
      RowMatches u s label.concat ts p q → p ≡ q
  pieces_empty u s no_trees h p q k = k
  pieces_empty u s (more_trees t ts) h p q k =
      let both = and_parts (matches_only_empty t) (all_match_only_empty ts) h in
      only_empty u t both.0 s p k.middle k.first ∙ pieces_empty u s ts both.1 k.middle q k.second

  branches_empty : (u : Bool) (s : Assertions) (ts : Trees) → all_match_only_empty ts ≡ true → (p q : Position) →
      RowMatches u s label.alt ts p q → p ≡ q
  branches_empty u s no_trees h p q k = absurd k
  branches_empty u s (more_trees t ts) h p q (inl k) =
      only_empty u t (and_parts (matches_only_empty t) (all_match_only_empty ts) h).0 s p q k
  branches_empty u s (more_trees t ts) h p q (inr k) =
      branches_empty u s ts (and_parts (matches_only_empty t) (all_match_only_empty ts) h).1 p q k

-- ---- no empty part

true≢false : true ≡ false → ⊥
true≢false h = cc

one_of_two : (a b : Bool) → (a && b) ≡ false → (a ≡ false) ⊎ (b ≡ false)
one_of_two false b h = inl refl
one_of_two true b h = inr h

neither : (a b : Bool) → (a || b) ≡ false → (a ≡ false) × (b ≡ false)
neither false b h = (refl, h)
neither true b h = absurd (true≢false h)

not_zero : (n : ℕ) → (n == 0) ≡ false → 1 ≤ n
not_zero zero h = absurd (true≢false h)
not_zero (suc n) h = omega arith

times_some : (P : Parts) → ((p q : Position) → P p q → HasAtLeast 1 p q) → (n : ℕ) (p q : Position) → Times P n p q →
    HasAtLeast n p q
times_some P f zero p q k = let e = ap (λ x. length x.before) k in omega (arith, e)
times_some P f (suc n) p q k =
    let a : HasAtLeast 1 p k.middle = f p k.middle k.first in
    let b : HasAtLeast n k.middle q = times_some P f n k.middle q k.second in
    omega (arith, a, b)

leaf_some : (u : Bool) (s : Assertions) (l : Leaf) → leaf_can_match_empty l ≡ false → (p q : Position) →
    LeafMatches u s l p q → HasAtLeast 1 p q
leaf_some u s label.empty h p q k = absurd (true≢false h)
leaf_some u s (label.assertion a) h p q k = absurd (true≢false h)
leaf_some u s (label.any newline crlf) h p q k = least u s (leaf (label.any newline crlf)) p q k
leaf_some u s (label.literal text casei) h p q k = least u s (leaf (label.literal text casei)) p q k
leaf_some u s (label.delegate text casei) h p q k = least u s (leaf (label.delegate text casei)) p q k
leaf_some u s _ h p q k = absurd k

mutual
  some : (u : Bool) (s : Assertions) (t : Tree) → can_match_empty t ≡ false → (p q : Position) → Matches u s t p q →
      HasAtLeast 1 p q
  some u s (leaf l) h p q k = leaf_some u s l h p q k
  some u s (over label.group t) h p q k = some u s t h p q k
  some u s (over (label.look_around l) t) h p q k = absurd (true≢false h)
  some u s (over (label.repeat lo hi greedy) t) h p q k =
      let both = neither (lo == 0) (can_match_empty t) h in
      let low = not_zero lo both.0 in
      let enough : lo ≤ k.count = k.enough in
      let each : HasAtLeast k.count p q =
      times_some (Matches u s t) (λ x y m. some u s t both.1 x y m) k.count p q k.turns in
      omega (arith, low, enough, each)
  some u s (over w t) h p q k = absurd k
  some u s (row label.concat ts) h p q k = pieces_some u s ts h p q k
  some u s (row label.alt ts) h p q k = branches_some u s ts h p q k
  some u s (row r no_trees) h p q k = absurd k
  some u s (row r (more_trees t ts)) h p q k = absurd k

  pieces_some : (u : Bool) (s : Assertions) (ts : Trees) → all_can_match_empty ts ≡ false → (p q : Position) →
      RowMatches u s label.concat ts p q → HasAtLeast 1 p q
  pieces_some u s no_trees h p q k = absurd (true≢false h)
  pieces_some u s (more_trees t ts) h p q k =
      elim (one_of_two (can_match_empty t) (all_can_match_empty ts) h) [
        | inl x ↦ (
            let a : HasAtLeast 1 p k.middle = some u s t x p k.middle k.first in
            let b = least u s (row label.concat ts) k.middle q k.second in
            omega (arith, a, b)
            )
        | inr x ↦ (
            let a = least u s t p k.middle k.first in
            let b : HasAtLeast 1 k.middle q = pieces_some u s ts x k.middle q k.second in
            omega (arith, a, b)
            )
      ]

  branches_some : (u : Bool) (s : Assertions) (ts : Trees) → any_can_match_empty ts ≡ false → (p q : Position) →
      RowMatches u s label.alt ts p q → HasAtLeast 1 p q
  branches_some u s no_trees h p q k = absurd k
  branches_some u s (more_trees t ts) h p q (inl k) =
      some u s t (neither (can_match_empty t) (any_can_match_empty ts) h).0 p q k
  branches_some u s (more_trees t ts) h p q (inr k) =
      branches_some u s ts (neither (can_match_empty t) (any_can_match_empty ts) h).1 p q k

pub no_empty : (u : Bool) (t : Tree) → can_match_empty t ≡ false → HasNoEmptyMatch u t
no_empty u t h s p q k same =
    let a : HasAtLeast 1 p q = some u s t h p q k in
    let e = ap (λ (x : Position). length x.before) same in
    absurd (omega (arith, a, e))

-- ---- an empty part at each position

times_each : (P : Parts) → ((p : Position) → P p p) → (n : ℕ) (p : Position) → Times P n p p
times_each P f zero p = refl
times_each P f (suc n) p = record { middle = p; first = f p; second = times_each P f n p }

either : (a b : Bool) → (a || b) ≡ true → (a ≡ true) ⊎ (b ≡ true)
either true b h = inl refl
either false b h = inr h

mutual
  pub everywhere : (u : Bool) (t : Tree) → matches_everywhere t ≡ true → IsDefined u t → HasEachEmptyMatch u t
  everywhere u (leaf label.empty) h d s p = refl
  everywhere u (leaf l) h d s p = absurd (false≢true h)
  everywhere u (over label.group t) h d s p = everywhere u t h d.1 s p
  everywhere u (over (label.repeat lo hi greedy) t) h d s p =
      elim (either (lo == 0) (matches_everywhere t) h) [
        | inl x ↦ (
            let none = eqb-true lo 0 x in
            record { count = 0; enough = omega (arith, none); few = λ limit. omega arith; turns = refl }
            )
        | inr x ↦ record {
          count = lo;
          enough = omega arith;
          few = λ limit. d.0;
          turns = times_each (Matches u s t) (λ y. everywhere u t x d.1 s y) lo p;
        }
      ]
  everywhere u (over label.atomic_group t) h d s p = absurd d.0
  everywhere u (over w t) h d s p = absurd (false≢true h)
  everywhere u (row label.concat ts) h d s p = pieces_everywhere u s ts h d.1 p
  everywhere u (row label.alt ts) h d s p = branch_everywhere u s ts h d.1 p
  everywhere u (row r ts) h d s p = absurd (false≢true h)

  pieces_everywhere : (u : Bool) (s : Assertions) (ts : Trees) → all_match_everywhere ts ≡ true → AreDefined u ts →
      (p : Position) → RowMatches u s label.concat ts p p
  pieces_everywhere u s no_trees h d p = refl
  pieces_everywhere u s (more_trees t ts) h d p =
      let both = and_parts (matches_everywhere t) (all_match_everywhere ts) h in
      record {
        middle = p;
        first = everywhere u t both.0 d.0 s p;
        second = pieces_everywhere u s ts both.1 d.1 p;
      }

  branch_everywhere : (u : Bool) (s : Assertions) (ts : Trees) → any_matches_everywhere ts ≡ true → AreDefined u ts →
      (p : Position) → RowMatches u s label.alt ts p p
  branch_everywhere u s no_trees h d p = absurd (false≢true h)
  branch_everywhere u s (more_trees t ts) h d p =
      elim (either (matches_everywhere t) (any_matches_everywhere ts) h) [
        | inl x ↦ inl (everywhere u t x d.0 s p)
        | inr x ↦ inr (branch_everywhere u s ts x d.1 p)
      ]

-- the same of the one of some trees that an index chooses
pub everywhere_at : (u : Bool) (es : List Expr) (i : ℕ) (e : Expr) → slice_get es i ≡ Some e →
    matches_everywhere (view e) ≡ true → IsSomeAnd (slice_get (views es) i) (λ t. IsDefined u t → HasEachEmptyMatch u t)
everywhere_at u es i e there h =
    subst (λ (o : Option Tree). IsSomeAnd o (λ t. IsDefined u t → HasEachEmptyMatch u t))
    (sym (slice_get-map view es i ∙ ap (option_map view) there)) (λ d s p. everywhere u (view e) h d s p)

-- a look-around for what matches at each position
decided : (u : Bool) (l : LookAround) (t : Tree) → matches_everywhere t ≡ true → IsDefined u t →
    IsDecided u (look_around t l)
decided u LookAhead t h d = inl (λ s p. (refl, (p, everywhere u t h d s p)))
decided u LookBehind t h d = inl (λ s p. (refl, (p, everywhere u t h d s p)))
decided u LookAheadNeg t h d = inr (λ s p q k. k.1 p (everywhere u t h d s p))
decided u LookBehindNeg t h d = inr (λ s p q k. k.1 p (everywhere u t h d s p))

-- the same of a tree that is one
pub decided_look : (u : Bool) (l : LookAround) (t v : Tree) → v ≡ look_around t l → matches_everywhere t ≡ true →
    IsDefined u v → IsDecided u v
decided_look u l t v is h d =
    subst (λ x. IsDecided u x) (sym is) (decided u l t h (subst (λ x. IsDefined u x) is d).1)

-- ---- quantifiers

pub quantified : (u : Bool) (t : Tree) → is_quantified_assertion t ≡ true → HasOnlyEmptyMatches u t
quantified u (over (label.repeat lo hi greedy) t) h =
    only_empty u (repeat t lo hi greedy) (and_parts (matches_only_empty t) (not ((hi == 1) && has_group t)) h).0
quantified u _ h = absurd (false≢true h)

pub no_turns : (s : Surroundings) (u : Bool) (t : Tree) → is_empty_at_end s t ≡ true → HasEachEmptyMatch u t
no_turns s u (over (label.repeat lo hi greedy) t) h a p =
    let none = eqb-true lo 0 (and_parts (is_lazy_at_end s (repeat t lo hi greedy)) (lo == 0) h).1 in
    record { count = 0; enough = omega (arith, none); few = λ limit. omega arith; turns = refl }
no_turns s u _ h a p = absurd (false≢true h)

and_last : (b : Bool) → (b && true) ≡ false → b ≡ false
and_last false h = refl
and_last true h = absurd (true≢false h)

no_loop_form : (can only atomic : Bool) → (true && can && not only && not atomic) ≡ false → only ≡ false →
    atomic ≡ false → can ≡ false
no_loop_form false only atomic h o a = refl
no_loop_form true false false h o a = absurd (true≢false h)
no_loop_form true true atomic h o a = absurd (true≢false o)
no_loop_form true false true h o a = absurd (true≢false a)

-- what an unlimited repeat repeats, where neither rule reports it
pub no_loop : (s : Surroundings) (u : Bool) (t v : Tree) (lo : ℕ) (greedy : Bool) → v ≡ repeat t lo no_limit greedy →
    is_quantified_assertion v ≡ false → is_empty_loop s v ≡ false → s.is_atomic ≡ false → HasNoEmptyMatch u t
no_loop s u t v lo greedy is q l a =
    let only = and_last (matches_only_empty t) (ap is_quantified_assertion (sym is) ∙ q) in
    no_empty u t
    (no_loop_form (can_match_empty t) (matches_only_empty t) s.is_atomic (ap (is_empty_loop s) (sym is) ∙ l) only a)
