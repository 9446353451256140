-- Branches whose matches another branch has too.
use Rattle.std.proofs.Common.{◌≡◌, ◌≢◌, ℕ, zero, suc, ◌<◌, Bool, ◌⊎◌, inl, inr, Some, slice_get, List, [], ◌∷◌, ◌++◌}
use Rattle.std.proofs.Common.{length, Contains, refl, sym, ap, subst, arith}
use Rattle.std.specs.Prelude.{slice_index_or}
use Rattle.fancy_grammar.specs.Label as label
use Rattle.fancy_grammar.specs.Tree.{Tree, Trees, no_trees, more_trees, list_of, trees_of, alt}
use Rattle.pattern_matches.specs.Parts.{Position}
use Rattle.pattern_matches.specs.Matches.{Assertions, Matches, RowMatches}
use Rattle.pattern_matches.specs.SameMatches.{SameMatches, Covers, without}

some_tree : (t v : Tree) → Some t ≡ Some v → t ≡ v
some_tree t v h = cc

moved : (u : Bool) (s : Assertions) (t v : Tree) (p q : Position) → t ≡ v → Matches u s t p q → Matches u s v p q
moved u s t v p q h k = subst (λ x. Matches u s x p q) h k

-- what the branches match, the branch at j matches or one of the others
pub split : (u : Bool) (s : Assertions) (ts : Trees) (j : ℕ) (v : Tree) (p q : Position) →
    slice_get (list_of ts) j ≡ Some v → RowMatches u s label.alt ts p q →
    Matches u s v p q ⊎ RowMatches u s label.alt (without ts j) p q
split u s no_trees j v p q is k = absurd k
split u s (more_trees t ts) zero v p q is (inl k) = inl (moved u s t v p q (some_tree t v is) k)
split u s (more_trees t ts) zero v p q is (inr k) = inr k
split u s (more_trees t ts) (suc j) v p q is (inl k) = inr (inl k)
split u s (more_trees t ts) (suc j) v p q is (inr k) =
    elim (split u s ts j v p q is k) [ inl l ↦ inl l | inr l ↦ inr (inr l) ]

-- what the branch at i matches, the branches match
pub one_branch : (u : Bool) (s : Assertions) (ts : Trees) (i : ℕ) (t : Tree) (p q : Position) →
    slice_get (list_of ts) i ≡ Some t → Matches u s t p q → RowMatches u s label.alt ts p q
one_branch u s no_trees i t p q is k = absurd (cc)
one_branch u s (more_trees v ts) zero t p q is k = inl (moved u s t v p q (sym (some_tree v t is)) k)
one_branch u s (more_trees v ts) (suc i) t p q is k = inr (one_branch u s ts i t p q is k)

-- also without another branch
pub still : (u : Bool) (s : Assertions) (ts : Trees) (i j : ℕ) (t : Tree) (p q : Position) → i ≢ j →
    slice_get (list_of ts) i ≡ Some t → Matches u s t p q → RowMatches u s label.alt (without ts j) p q
still u s no_trees i j t p q other is k = absurd (cc)
still u s (more_trees v ts) zero zero t p q other is k = absurd (other refl)
still u s (more_trees v ts) zero (suc j) t p q other is k = inl (moved u s t v p q (sym (some_tree v t is)) k)
still u s (more_trees v ts) (suc i) zero t p q other is k = one_branch u s ts i t p q is k
still u s (more_trees v ts) (suc i) (suc j) t p q other is k =
    inr (still u s ts i j t p q (λ e. other (ap suc e)) is k)

-- what the branches but one match, the branches match
pub fewer : (u : Bool) (s : Assertions) (ts : Trees) (j : ℕ) (p q : Position) →
    RowMatches u s label.alt (without ts j) p q → RowMatches u s label.alt ts p q
fewer u s no_trees j p q k = k
fewer u s (more_trees t ts) zero p q k = inr k
fewer u s (more_trees t ts) (suc j) p q (inl k) = inl k
fewer u s (more_trees t ts) (suc j) p q (inr k) = inr (fewer u s ts j p q k)

-- a branch all of whose matches another one has can be left out
pub covered_branch : (u : Bool) (ts : Trees) (i j : ℕ) (t v : Tree) → i ≢ j → slice_get (list_of ts) i ≡ Some t →
    slice_get (list_of ts) j ≡ Some v → Covers u t v → SameMatches u (alt ts) (alt (without ts j))
covered_branch u ts i j t v other is there covers = record {
  there = λ s p q k. elim (split u s ts j v p q there k)
      [ inl l ↦ still u s ts i j t p q other is (covers s p q l) | inr l ↦ l ];
  back = λ s p q k. fewer u s ts j p q k;
}

-- and so can one that is equal to another one
pub equal_branch : (u : Bool) (ts : Trees) (i j : ℕ) (t : Tree) → i ≢ j → slice_get (list_of ts) i ≡ Some t →
    slice_get (list_of ts) j ≡ Some t → SameMatches u (alt ts) (alt (without ts j))
equal_branch u ts i j t other is there = covered_branch u ts i j t t other is there (λ s p q k. k)

-- ---- branches as a list

contained_at : (u : Bool) (s : Assertions) (ts : List Tree) (t : Tree) (k : ℕ) (p q : Position) → k < length ts →
    slice_index_or ts k t ≡ t → Matches u s t p q → RowMatches u s label.alt (trees_of ts) p q
contained_at u s [] t k p q h e m = absurd (omega arith)
contained_at u s (v ∷ ts) t zero p q h e m = inl (moved u s t v p q (sym e) m)
contained_at u s (v ∷ ts) t (suc k) p q h e m = inr (contained_at u s ts t k p q (omega arith) e m)

-- a branch is one of these
pub contained : (u : Bool) (s : Assertions) (ts : List Tree) (t : Tree) (p q : Position) → Contains ts t →
    Matches u s t p q → RowMatches u s label.alt (trees_of ts) p q
contained u s ts t p q h m = contained_at u s ts t h.0 p q h.1 h.2 m

-- one branch more
pub last_of : (u : Bool) (s : Assertions) (ts : List Tree) (t : Tree) (p q : Position) →
    RowMatches u s label.alt (trees_of (ts ++ t ∷ [])) p q →
    RowMatches u s label.alt (trees_of ts) p q ⊎ Matches u s t p q
last_of u s [] t p q (inl k) = inr k
last_of u s [] t p q (inr k) = absurd k
last_of u s (v ∷ ts) t p q (inl k) = inl (inl k)
last_of u s (v ∷ ts) t p q (inr k) = elim (last_of u s ts t p q k) [ inl l ↦ inl (inr l) | inr l ↦ inr l ]
