-- A text has one list of spans, with one span for each node of its tree. They lie in the text, and those of children in
-- that of their parent, one after another. Each begins and ends at a character boundary.
use Rattle.std.proofs.Common.{◌≡◌, ℕ, suc, ◌-◌, ◌≤◌, Bool, true, List, [], ◌∷◌, length, map, chars, Some}
use Rattle.std.proofs.Common.{None, ◌+◌, if◌then◌else◌, refl, sym, ap, ◌∙◌, subst, arith, append-nil, length-append}
use Rattle.std.proofs.lemmas.List.{map-append}
use Rattle.std.specs.List.{AllByRecursion}
use Rattle.std.specs.Str.{IsUtf8, IsCharBoundary}
use Rattle.fancy_lex.specs.Text.{Text, bytes, reach_of, position_at}
use Rattle.fancy_lex.specs.declared.flags.Flags.{Flags}
use Rattle.fancy_grammar.specs.Meaning.{Meaning, number, refers_to}
use Rattle.fancy_grammar.specs.Ranks.{only_named, numbered_openings_in}
use Rattle.fancy_grammar.specs.ParseResult.{IsTreeOf}
use Rattle.fancy_grammar.specs.Items.{openings, role_of, target_of, numbers_in}
use Rattle.fancy_grammar.specs.Label as label
use Rattle.fancy_grammar.specs.Label.{Leaf, Wrap, AstReference, ast_backref, ast_call, ast_condition}
use Rattle.fancy_grammar.specs.GroupInfo.{GroupInfo}
use Rattle.fancy_grammar.specs.Preorder.{preorder, preorder_all}
use Rattle.fancy_grammar.specs.Resolved.{resolved, resolved_in, resolved_all, reference_node}
use Rattle.fancy_grammar.specs.Slices.{Slice}
use Rattle.fancy_grammar.specs.Spans.{Span, Spans, Forest, AreSpansOf, IsCutOut, Nests, AllNest, of_leaf, of_over}
use Rattle.fancy_grammar.specs.Spans.{of_row, of_none, of_more, alone, around, positioned, in_preorder, all_in_preorder}
use Rattle.fancy_grammar.specs.Spans.{whole_spans}
use Rattle.fancy_grammar.specs.Tree.{Tree, leaf, over, group, Trees}
use Rattle.fancy_grammar.proofs.OutcomeLemmas.{each_append}
use Rattle.fancy_grammar.proofs.Slices.{current, on, fits}
use Rattle.fancy_grammar.proofs.SpansLaws.{whole_lies}
use Rattle.fancy_grammar.proofs.SpansLemmas.{Lies, leaf_at, over_at, inside_at, row_at, alt_at, InRow, none, beside}
use Rattle.fancy_grammar.proofs.SpansLemmas.{InBranches, one, barred, stays, reaches, lies_slice, row_slice}
use Rattle.fancy_grammar.proofs.SpansLemmas.{branches_slice}
use Rattle.fancy_grammar.proofs.SpansUnique.{whole_same}
use Rattle.fancy_grammar.proofs.Unique.{value_of, whole_unique}
use Rattle.fancy_grammar.proofs.Verdict.{cut_at}

-- ---- what nests

mutual
  as_many : {low high : ℕ} {t : Tree} {l : List Span} → Nests low high t l → length l ≡ length (preorder t)
  as_many (of_leaf h i j) = refl
  as_many (of_over h i k) = ap suc (as_many k)
  as_many (of_row h i k) = ap suc (all_as_many k)

  all_as_many : {low high : ℕ} {ts : Trees} {l : List Span} → AllNest low high ts l →
      length l ≡ length (preorder_all ts)
  all_as_many (of_none h) = refl
  all_as_many (of_more {t} {ts} {l} {m} h i e) =
      omega (
        arith,
        ap length e,
        length-append l m,
        length-append (preorder t) (preorder_all ts),
        as_many h,
        all_as_many i,
      )

-- spans within a part are within a larger one
within_more : (a low high b : ℕ) (l : List Span) → a ≤ low → high ≤ b →
    AllByRecursion (λ p. (low ≤ p.start) × (p.start ≤ p.end) × (p.end ≤ high)) l →
    AllByRecursion (λ p. (a ≤ p.start) × (p.start ≤ p.end) × (p.end ≤ b)) l
within_more a low high b [] h i e = tt
within_more a low high b (p ∷ l) h i e =
    ((omega (arith, e.0.0), e.0.1, omega (arith, e.0.2)), within_more a low high b l h i e.1)

-- each span is within the part in which the tree nests
mutual
  pub nests_within : {low high : ℕ} {t : Tree} {l : List Span} → Nests low high t l →
      (low ≤ high) × AllByRecursion (λ p. (low ≤ p.start) × (p.start ≤ p.end) × (p.end ≤ high)) l
  nests_within (of_leaf h i j) = (omega arith, ((h, i, j), tt))
  nests_within (of_over {low} {high} {l = l} {p = p} h i k) =
      let (inside, each) = nests_within k in
      (omega arith, ((h, inside, i), within_more low p.start p.end high l h i each))
  nests_within (of_row {low} {high} {l = l} {p = p} h i k) =
      let (inside, each) = all_nest_within k in
      (omega arith, ((h, inside, i), within_more low p.start p.end high l h i each))

  all_nest_within : {low high : ℕ} {ts : Trees} {l : List Span} → AllNest low high ts l →
      (low ≤ high) × AllByRecursion (λ p. (low ≤ p.start) × (p.start ≤ p.end) × (p.end ≤ high)) l
  all_nest_within (of_none h) = (h, tt)
  all_nest_within (of_more {low} {mid} {high} {l = l} {m = m} h i e) =
      let (first, front) = nests_within h in
      let (others, back) = all_nest_within i in (
        omega arith,
        subst (AllByRecursion (λ p. (low ≤ p.start) × (p.start ≤ p.end) × (p.end ≤ high))) (sym e)
            (each_append _ l m (within_more low low mid high l (omega arith) others front)
            (within_more low mid high high m first (omega arith) back)),
      )

nests_in : {a low high b : ℕ} {t : Tree} {l : List Span} → a ≤ low → high ≤ b → Nests low high t l → Nests a b t l
nests_in f g (of_leaf h i j) = of_leaf (omega arith) i (omega arith)
nests_in f g (of_over h i k) = of_over (omega arith) (omega arith) k
nests_in f g (of_row h i k) = of_row (omega arith) (omega arith) k

-- ---- the spans of a raw tree are those of the resolved one, in a pattern of n bytes

module _ (n : ℕ) (named : Bool) (numbers_of : Text → List ℕ) where
  -- if c groups that have a number open before it
  abbrev after : ℕ → Tree → Tree
  after c r = resolved_in n named numbers_of c r

  abbrev later : ℕ → Tree → ℕ
  later c r = c + length (numbered_openings_in named (openings r))

  abbrev position : Text → ℕ
  position t = position_at n (reach_of t)

  reference_leaf : (m : Meaning) (r : AstReference) (p : ℕ) → (l : Leaf) × (reference_node n m r p ≡ leaf l)
  reference_leaf (number k) (ast_backref t casei None) p = (_, refl)
  reference_leaf (number k) (ast_backref t casei (Some level)) p = (_, refl)
  reference_leaf (number k) (ast_call t) p = (_, refl)
  reference_leaf (number k) (ast_condition t level) p = (_, refl)
  reference_leaf _ r p = (_, refl)

  leaf_after : (c : ℕ) (l : Leaf) → (k : Leaf) × (after c (leaf l) ≡ leaf k)
  leaf_after c (label.ast_node r p) = reference_leaf (refers_to numbers_of c (role_of r) (target_of r)) r p
  leaf_after c l = (_, refl)

  over_after : (c : ℕ) (w : Wrap) (r : Tree) → stays named w ≡ true →
      (v : Wrap) × (k : ℕ) × (after c (over w r) ≡ over v (after k r))
  over_after c (label.ast_group name p) r e =
      (label.group, c + 1, ap (λ b. if b then group (after (c + 1) r) else after c r) e)
  over_after c w r e = (w, c, refl)

  earlier : {t u : Text} → Slice t u → position t ≤ position u
  earlier h = omega (arith, fits h)

  abbrev NestsIn : Text → Text → Tree → Spans → Type 0
  NestsIn t u r x = Nests (position t) (position u) r (map (positioned n) (in_preorder x))

  abbrev AllNestIn : Text → Text → Trees → Forest → Type 0
  AllNestIn t u rs xs = AllNest (position t) (position u) rs (map (positioned n) (all_in_preorder xs))

  mutual
    nests : (c : ℕ) {t u : Text} {r : Tree} {x : Spans} → Lies named t u r x → NestsIn t u (after c r) x
    nests c {t} {u} (leaf_at {a} {b} {l} f h k) =
        let (i, e) = leaf_after c l in
        subst (λ r. NestsIn t u r (alone (reaches a b))) (sym e) (of_leaf (earlier f) (earlier h) (earlier k))
    nests c {t} {u} (over_at {a} {b} {r} {x} w e f h k) =
        let (v, z, i) = over_after c w r e in
        let inner = subst (λ l. Nests (position a) (position b) (after z r) (map (positioned n) l))
        (sym (append-nil (in_preorder x))) (nests z h) in
        subst (λ r. NestsIn t u r (around (reaches a b) x)) (sym i) (of_over (earlier f) (earlier k) inner)
    nests c {t} {u} {x} (inside_at {r} e h) =
        subst (λ b. NestsIn t u (if b then group (after (c + 1) r) else after c r) x) (sym e) (nests c h)
    nests c (row_at l e f h k) = of_row (earlier f) (earlier k) (row_nests c h)
    nests c (alt_at {r} {x} {xs} f h g i k) =
        of_row (earlier f) (earlier k)
        (of_more (nests_in (omega arith) (earlier g) (nests c h)) (branches_nest (later c r) i)
        (map-append (positioned n) (in_preorder x) (all_in_preorder xs)))

    row_nests : (c : ℕ) {t u : Text} {rs : Trees} {xs : Forest} → InRow named t u rs xs →
        AllNestIn t u (resolved_all n named numbers_of c rs) xs
    row_nests c (none h) = of_none (earlier h)
    row_nests c (beside {r} {x} {xs} h i) =
        of_more (nests c h) (row_nests (later c r) i) (map-append (positioned n) (in_preorder x) (all_in_preorder xs))

    branches_nest : (c : ℕ) {t u : Text} {rs : Trees} {xs : Forest} → InBranches named t u rs xs →
        AllNestIn t u (resolved_all n named numbers_of c rs) xs
    branches_nest c {u} (one {x} h) =
        of_more (nests c h) (of_none (omega arith)) (map-append (positioned n) (in_preorder x) [])
    branches_nest c (barred {r} {x} {xs} h g i) =
        of_more (nests_in (omega arith) (earlier g) (nests c h)) (branches_nest (later c r) i)
        (map-append (positioned n) (in_preorder x) (all_in_preorder xs))

-- ---- where character boundaries are

module _ (re : List ℕ) (valid : IsUtf8 re) where
  abbrev IsPosition : ℕ → Type 0
  IsPosition q = IsCharBoundary re (position_at (bytes (chars re)) q)

  abbrev BothPositions : Span → Type 0
  BothPositions p = IsPosition p.start × IsPosition p.end

  abbrev ArePositions : List Span → Type 0
  ArePositions l = AllByRecursion BothPositions l

  cut_in : {t u : Text} → Slice (chars re) t → Slice t u → IsPosition (reach_of u)
  cut_in {t} {u} a b =
      let c = on a b in
      let same : bytes (chars re) - bytes u ≡ position_at (bytes (chars re)) (reach_of u) = omega arith in
      subst (IsCharBoundary re) same (cut_at re u valid (c.word, c.cut))

  cut_both : {t a b : Text} → Slice (chars re) t → Slice t a → Slice a b →
      IsPosition (reach_of a) × IsPosition (reach_of b)
  cut_both s f h = (cut_in s f, cut_in (on s f) h)

  mutual
    cuts : {named : Bool} {t u : Text} {r : Tree} {x : Spans} → Slice (chars re) t → Lies named t u r x →
        ArePositions (in_preorder x)
    cuts s (leaf_at f h k) = (cut_both s f h, tt)
    cuts {named} s (over_at {x} w e f h k) =
        (cut_both s f (lies_slice named h), each_append BothPositions (in_preorder x) [] (cuts (on s f) h) tt)
    cuts s (inside_at e h) = cuts s h
    cuts {named} s (row_at l e f h k) = (cut_both s f (row_slice named h), row_cuts (on s f) h)
    cuts {named} s (alt_at {x} {xs} f h c i k) =
        let a = on (lies_slice named h) c in
        let later = branches_cut (on (on s f) a) i in (
          cut_both s f (on a (branches_slice named i)),
          each_append BothPositions (in_preorder x) (all_in_preorder xs) (cuts (on s f) h) later,
        )

    row_cuts : {named : Bool} {t u : Text} {rs : Trees} {xs : Forest} → Slice (chars re) t → InRow named t u rs xs →
        ArePositions (all_in_preorder xs)
    row_cuts s (none h) = tt
    row_cuts {named} s (beside {x} {xs} h i) =
        each_append BothPositions (in_preorder x) (all_in_preorder xs) (cuts s h)
        (row_cuts (on s (lies_slice named h)) i)

    branches_cut : {named : Bool} {t u : Text} {rs : Trees} {xs : Forest} → Slice (chars re) t →
        InBranches named t u rs xs → ArePositions (all_in_preorder xs)
    branches_cut s (one {x} h) = each_append BothPositions (in_preorder x) [] (cuts s h) tt
    branches_cut {named} s (barred {x} {xs} h c i) =
        each_append BothPositions (in_preorder x) (all_in_preorder xs) (cuts s h)
        (branches_cut (on s (on (lies_slice named h) c)) i)

  positioned_cut : (l : List Span) → ArePositions l → AllByRecursion (IsCutOut re) (map (positioned (bytes (chars re))) l)
  positioned_cut [] h = tt
  positioned_cut (p ∷ l) h = (h.0, positioned_cut l h.1)

-- ---- the spans of a text

-- a text that has a tree has spans
pub some_spans : {f : Flags} {text : Text} (t : Tree) (m : GroupInfo) → IsTreeOf f text t m →
    (l : List Span) × AreSpansOf f text l
some_spans t m (r, (v, a), no_error, is, info) = (_, (r, v, a, refl))

-- and it has no others
pub only_spans : {f : Flags} {text : Text} (l m : List Span) → AreSpansOf f text l → AreSpansOf f text m → m ≡ l
only_spans {f} {text} l m (r, t, a, e) (q, v, b, h) =
    let same : r ≡ q = value_of (whole_unique a b) in
    let returned : Spans → List Span = λ x. map (positioned (bytes text)) (in_preorder x) in
    h ∙ ap returned (ap (λ x. whole_spans (only_named f (openings x)) b) (sym same)
    ∙ sym (whole_same (only_named f (openings r)) a b))
    ∙ sym e

-- the spans of its nodes lie in the text, those of children in that of their parent, one after another
pub spans_nest : {f : Flags} {text : Text} (l : List Span) (t : Tree) (m : GroupInfo) → AreSpansOf f text l →
    IsTreeOf f text t m → Nests 0 (bytes text) t l
spans_nest {f} {text} l t m (r, v, a, e) (q, (w, b), no_error, is, info) =
    let n = bytes text in
    let named = only_named f (openings r) in
    let same : q ≡ r = value_of (whole_unique b a) in
    let all = nests n named (numbers_in f r) 0 (whole_lies named a) in
    subst (λ k. Nests 0 n t k) (sym e)
    (subst (λ x. Nests 0 n x (map (positioned n) (in_preorder (whole_spans named a))))
    (sym (is ∙ ap (resolved f n) same)) (nests_in (omega arith) (omega arith) all))

-- the i-th of the spans is that of the i-th node
pub spans_of_nodes : {f : Flags} {text : Text} (l : List Span) (t : Tree) (m : GroupInfo) → AreSpansOf f text l →
    IsTreeOf f text t m → length l ≡ length (preorder t)
spans_of_nodes l t m a b = as_many (spans_nest l t m a b)

-- each position is a character boundary
pub spans_cut : {f : Flags} {re : List ℕ} (l : List Span) → IsUtf8 re → AreSpansOf f (chars re) l →
    AllByRecursion (IsCutOut re) l
spans_cut {f} {re} l valid (r, v, a, e) =
    let named = only_named f (openings r) in
    let h = cuts re valid (current (chars re)) (whole_lies named a) in
    subst (AllByRecursion (IsCutOut re)) (sym e) (positioned_cut re valid (in_preorder (whole_spans named a)) h)
