-- How the spans of a tree lie in its text, and how trees are built with their spans.
use Rattle.std.proofs.Common.{◌≡◌, ℕ, ◌≤◌, Bool, true, false, ◌&&◌, List, [], ◌∷◌, refl, sym, ap}
use Rattle.std.proofs.Common.{if◌then◌else◌, subst, arith}
use Rattle.fancy_lex.specs.Text.{Text, reach_of}
use Rattle.fancy_grammar.specs.Ranks.{is_counted}
use Rattle.fancy_grammar.specs.Grammar.{branches_of, conditional_of, clear_or_stopper}
use Rattle.fancy_grammar.specs.GroupKind.{GroupKind, capture, flag_group, group_node}
use Rattle.fancy_grammar.specs.Join.{choice, solid, is_empty, one_or}
use Rattle.fancy_grammar.specs.Label as label
use Rattle.fancy_grammar.specs.Label.{Wrap, Row}
use Rattle.fancy_grammar.specs.Slices.{Slice}
use Rattle.fancy_grammar.specs.Spans.{Span, Spans, node, Forest, no_spans, more_spans, after_bar, alone, around}
use Rattle.fancy_grammar.specs.Spans.{one_or_node, solid_spans, group_spans, body_parts}
use Rattle.fancy_grammar.specs.State.{State, Outcome}
use Rattle.fancy_grammar.specs.Tree.{Tree, leaf, over, row, Trees, no_trees, more_trees, alt, concat, ast_group}
use Rattle.fancy_grammar.specs.Tree.{conditional, trees_of, list_of, levels}
use Rattle.fancy_grammar.proofs.OutcomeLemmas.{Holds}
use Rattle.fancy_grammar.proofs.Slices.{current, on}
use Rattle.fancy_grammar.proofs.TreeLaws.{IsReadLeaf, trees_back, list_back}

-- the span between the starts of two texts
abbrev pub reaches : Text → Text → Span
reaches a b = record { start = reach_of a; end = reach_of b }

-- all but a capturing group without a number make a node
abbrev pub stays : Bool → Wrap → Bool
stays named (label.ast_group name position) = is_counted named name
stays named _ = true

abbrev pub is_alt : Row → Bool
is_alt label.alt = true
is_alt _ = false

some_levels : (r : Tree) → 1 ≤ levels r
some_levels (leaf l) = omega arith
some_levels (over w r) = omega arith
some_levels (row l rs) = omega arith

-- ---- how the spans of a raw tree lie in its text

module _ (named : Bool) where
  mutual
    -- the spans of the tree's remaining nodes lie between the starts of t and u, those of a node's children in its own,
    -- one after another
    pub data Lies : Text → Text → Tree → Spans → Type 0 where
      leaf_at : {t a b u l : _} → Slice t a → Slice a b → Slice b u → Lies t u (leaf l) (alone (reaches a b))
      over_at : {t a b u r x : _} (w : _) → stays named w ≡ true → Slice t a → Lies a b r x →
          Slice b u → Lies t u (over w r) (around (reaches a b) x)
      inside_at : {t u name position r x : _} → is_counted named name ≡ false → Lies t u r x →
          Lies t u (ast_group name position r) x
      row_at : {t a b u rs xs : _} (l : _) → is_alt l ≡ false → Slice t a → InRow a b rs xs → Slice b u →
          Lies t u (row l rs) (node (reaches a b) xs)
      alt_at : {t a m c b u r rs x xs : _} → Slice t a → Lies a m r x → Slice m c → InBranches c b rs xs →
          Slice b u →
          Lies t u (alt (more_trees r rs)) (node (reaches a b) (more_spans x (after_bar (reach_of c) xs)))

    pub data InRow : Text → Text → Trees → Forest → Type 0 where
      none : {t u : _} → Slice t u → InRow t u no_trees no_spans
      beside : {t m u r rs x xs : _} → Lies t m r x → InRow m u rs xs →
          InRow t u (more_trees r rs) (more_spans x xs)

    -- the same with a bar between two
    pub data InBranches : Text → Text → Trees → Forest → Type 0 where
      one : {t u r x : _} → Lies t u r x → InBranches t u (more_trees r no_trees) (more_spans x no_spans)
      barred : {t m c u r rs x xs : _} → Lies t m r x → Slice m c → InBranches c u rs xs →
          InBranches t u (more_trees r rs) (more_spans x (after_bar (reach_of c) xs))

  -- what is read spans from t to where it ends
  abbrev pub LiesFrom : Text → Spans → Outcome Tree → Type 0
  LiesFrom t x o = Holds (λ r (v : State). Lies t v.rest r x) o

  mutual
    pub lies_slice : {t u : Text} {r : Tree} {x : Spans} → Lies t u r x → Slice t u
    lies_slice (leaf_at f h g) = on f (on h g)
    lies_slice (over_at w k f h g) = on f (on (lies_slice h) g)
    lies_slice (inside_at k h) = lies_slice h
    lies_slice (row_at l k f h g) = on f (on (row_slice h) g)
    lies_slice (alt_at f h c i g) = on f (on (lies_slice h) (on c (on (branches_slice i) g)))

    pub row_slice : {t u : Text} {rs : Trees} {xs : Forest} → InRow t u rs xs → Slice t u
    row_slice (none h) = h
    row_slice (beside h i) = on (lies_slice h) (row_slice i)

    pub branches_slice : {t u : Text} {rs : Trees} {xs : Forest} → InBranches t u rs xs → Slice t u
    branches_slice (one h) = lies_slice h
    branches_slice (barred h c i) = on (lies_slice h) (on c (branches_slice i))

  -- between texts that begin earlier and end later
  pub wider : {v t u z : Text} {r : Tree} {x : Spans} → Slice v t → Slice u z → Lies t u r x → Lies v z r x
  wider a b (leaf_at f h g) = leaf_at (on a f) h (on g b)
  wider a b (over_at w k f h g) = over_at w k (on a f) h (on g b)
  wider a b (inside_at k h) = inside_at k (wider a b h)
  wider a b (row_at l k f h g) = row_at l k (on a f) h (on g b)
  wider a b (alt_at f h c i g) = alt_at (on a f) h c i (on g b)

  earlier : {v t u : Text} {rs : Trees} {xs : Forest} → Slice v t → InRow t u rs xs → InRow v u rs xs
  earlier a (none h) = none (on a h)
  earlier a (beside {m} h i) = beside (wider a (current m) h) i

  later : {t u z : Text} {rs : Trees} {xs : Forest} → Slice u z → InRow t u rs xs → InRow t z rs xs
  later b (none h) = none (on h b)
  later b (beside h i) = beside h (later b i)

  -- ---- trees that are built from parts

  -- a leaf that is read spans all of its text
  pub leaf_lies : {t u : Text} (a : Tree) → IsReadLeaf a → Slice t u → Lies t u a (alone (reaches t u))
  leaf_lies {t} {u} (leaf l) h k = leaf_at (current t) k (current u)
  leaf_lies (over w r) h k = absurd (omega (arith, h.2, some_levels r))
  leaf_lies (row label.alt no_trees) h k = absurd (omega (arith, h.0))
  leaf_lies {t} {u} (row l no_trees) h k = row_at l refl (current t) (none k) (current u)
  leaf_lies (row l (more_trees r rs)) h k = absurd (omega (arith, h.2, some_levels r))

  pub joined : {t u : Text} {xs : Forest} (l : List Tree) → InRow t u (trees_of l) xs →
      Lies t u (one_or concat l) (one_or_node (reaches t u) xs)
  joined {t} {u} [] (none h) = leaf_at (current t) h (current u)
  joined {t} (r ∷ []) (beside h (none k)) = wider (current t) k h
  joined {t} {u} (r ∷ q ∷ l) (beside h (beside i k)) =
      row_at label.concat refl (current t) (beside h (beside i k)) (current u)

  some_choice : {t u : Text} {rs : Trees} {xs : Forest} (r : Tree) → InBranches t u rs xs →
      alt (more_trees r rs) ≡ choice (r ∷ list_of rs)
  some_choice r (one h) = refl
  some_choice r (barred {r = q} {rs} h c i) = ap (λ us. alt (more_trees r (more_trees q us))) (sym (trees_back rs))

  chosen : {t u : Text} {rs : Trees} {xs : Forest} → InBranches t u rs xs →
      Lies t u (choice (list_of rs)) (one_or_node (reaches t u) xs)
  chosen (one h) = h
  chosen {t} {u} (barred {c} {r} {x} {xs} h g i) =
      subst (λ a. Lies t u a (node (reaches t u) (more_spans x (after_bar (reach_of c) xs)))) (some_choice r i)
      (alt_at (current t) h g i (current u))

  pub chosen_among : {t u : Text} {xs : Forest} (l : List Tree) → InBranches t u (trees_of l) xs →
      Lies t u (choice l) (one_or_node (reaches t u) xs)
  chosen_among {t} {u} {xs} l h =
      subst (λ m. Lies t u (choice m) (one_or_node (reaches t u) xs)) (list_back l) (chosen h)

  pub in_front : {t m u : Text} {r : Tree} {x : Spans} {xs : Forest} (l : List Tree) → Lies t m r x →
      InRow m u (trees_of (solid l)) xs → InRow t u (trees_of (solid (r ∷ l))) (solid_spans r x xs)
  in_front {t} {u} {r} {x} {xs} l h i = by_test (is_empty r)
    where
      by_test : (b : Bool) →
          InRow t u (trees_of (if b then solid l else r ∷ solid l)) (if b then xs else more_spans x xs)
      by_test true = earlier (lies_slice h) i
      by_test false = beside h i

  -- a group, from its parenthesis on
  pub group_lies : {t a v : Text} {r : Tree} {x : Spans} (h : GroupKind) (p : ℕ) → Slice t a → Lies a v r x →
      Lies t v (group_node h p r) (group_spans named h (reaches t v) x)
  group_lies {t} {v} {r} {x} (capture name) p k i = by_test (is_counted named name) refl
    where
      by_test : (b : Bool) → is_counted named name ≡ b →
          Lies t v (ast_group name p r) (if b then around (reaches t v) x else x)
      by_test true e = over_at (label.ast_group name p) e (current t) (wider k (current v) i) (current v)
      by_test false e = inside_at e (wider k (current v) i)
  group_lies {v} flag_group p k i = wider k (current v) i
  group_lies {t} {v} h p k i = over_at _ refl (current t) (wider k (current v) i) (current v)

  -- the branches of a body that ends at v
  pub parts_lie : {t : Text} {r : Tree} {x : Spans} (v : State) → Lies t v.rest r x →
      (m : Text) × Lies t m (branches_of r).0 (body_parts r v x).0
      × Lies m v.rest (branches_of r).1 (body_parts r v x).1
  parts_lie v (alt_at {m} {b} f h c i g) = (m, wider f (current m) h, wider c g (chosen i))
  parts_lie v (row_at label.alt e f h g) = absurd cc
  parts_lie v h = (v.rest, h, leaf_at (current v.rest) (current v.rest) (current v.rest))

  pub conditional_lies : {t m n v z : Text} {c a e : Tree} {x y w : Spans} → Lies t m c x → Lies m n a y →
      Lies n v e w → Slice v z →
      Lies t z (conditional_of c a e) (if is_empty a && is_empty e then x
      else node (reaches t z) (more_spans x (more_spans y (more_spans w no_spans))))
  conditional_lies {t} {z} {c} {a} {e} {x} {y} {w} h i j g = by_test (is_empty a && is_empty e)
    where
      by_test : (b : Bool) → Lies t z (if b then c else conditional c a e) (if b then x
          else node (reaches t z) (more_spans x (more_spans y (more_spans w no_spans))))
      by_test true = wider (current t) (on (lies_slice i) (on (lies_slice j) g)) h
      by_test false = row_at label.conditional refl (current t) (beside h (beside i (beside j (none g)))) (current z)

  -- a branch after `(?~|`
  pub stopper_lies : {t v z : Text} {a : Tree} {x : Spans} → Lies t v a x → Slice v z →
      Lies t z (clear_or_stopper a) (node (reaches t z) (solid_spans a x no_spans))
  stopper_lies {t} {z} {a} {x} h g = by_test (is_empty a)
    where
      by_test : (b : Bool) → Lies t z (if b then leaf label.clear else over label.stopper a)
          (node (reaches t z) (if b then no_spans else more_spans x no_spans))
      by_test true = leaf_at (current t) (on (lies_slice h) g) (current z)
      by_test false = over_at label.stopper refl (current t) (wider (current t) g h) (current z)
