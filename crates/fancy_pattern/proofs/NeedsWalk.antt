-- What a tree needs of the flags, child by child.
use Rattle.std.proofs.Common.{◌≡◌, ℕ, zero, suc, ◌<◌, ◌≤◌, Bool, false, List, [], ◌∷◌, ◌++◌, refl, ap}
use Rattle.std.proofs.Common.{sym, ◌∙◌, subst, append_assoc, append-nil, length, drop, get_or, arith}
use Rattle.std.proofs.Math.ListN.{set}
use Rattle.std.specs.Bool.{Decides}
use Rattle.std.specs.List.{flat_map}
use Rattle.fancy_lex.specs.declared.flags.Flags.{Flags}
use Rattle.fancy_grammar.specs.Label as label
use Rattle.fancy_pattern.proofs.NeedsLemmas.{IsJoin, first_joins, both_joins, joined-after}
use Rattle.fancy_pattern.proofs.NeedsLemmas.{needs_node, needs_next, table_node}
use Rattle.fancy_grammar.specs.PatternNeeds.{first, both, joined, needs, needs_all, with_needs}
use Rattle.fancy_grammar.specs.PatternWalk.{needs_alone, needs_listed, all_listed}
use Rattle.fancy_grammar.specs.Tree.{Tree, leaf, over, row, Trees, is_leaf, children, trees_of}
use Rattle.fancy_grammar.specs.Tree.{levels, levels_all}
use Rattle.fancy_grammar.specs.declared.needs.Need.{Need}
use Rattle.fancy_grammar.specs.declared.needs.Need.TheVariants.{Free}
use Rattle.fancy_grammar.specs.declared.needs.Needs.{Needs}
use Rattle.fancy_pattern.specs.ContextViews.{AreMet}
use Rattle.fancy_pattern.proofs.KnownLemmas.{met_both, met_front, met_back, met_tree, met_trees, keeps_first}
use Rattle.fancy_syntax.specs.View.{view, views}
use Rattle.fancy_syntax.specs.declared.expr.Expr.{Expr}

-- ---- what needs nothing adds nothing

pub first_free : (a b : Need) → b ≡ Free → a ≡ first a b
first_free a b e = sym (ap (first a) e ∙ first_joins.after a)

pub both_free : (a b : Need) → b ≡ Free → a ≡ both a b
both_free a b e = sym (ap (both a) e ∙ both_joins.after a)

-- ---- needs that are joined so far, with some children left

pub record Joining (join : Need → Need → Need) (o : Bool) (t : Tree) (n : Needs) (left : List Expr) : Type 0 where
  pub whole : joined join n (needs_all join o (trees_of (views left))) ≡ needs join o t

module _ (join : Need → Need → Need) (j : IsJoin join) (o : Bool) (t : Tree) where
  pub joining_starts : (n : Needs) (left : List Expr) → n ≡ needs_alone o t → views left ≡ children t →
      Joining join o t n left
  joining_starts n left e h = record {
    whole = ap (λ m. joined join m (needs_all join o (trees_of (views left)))) e
        ∙ ap (λ ts. joined join (needs_alone o t) (needs_all join o (trees_of ts))) h ∙ sym (needs_node join j o t);
  }

  pub joining_next : (n m k : Needs) (c : Expr) (left more : List Expr) → Joining join o t n left → left ≡ c ∷ more →
      m ≡ joined join n k → k ≡ needs join o (view c) → Joining join o t m more
  joining_next n m k c left more s h e f = record {
    whole = ap (λ x. joined join x (needs_all join o (trees_of (views more)))) (e ∙ ap (joined join n) f)
        ∙ sym (needs_next join j o n (view c) (trees_of (views more)))
        ∙ ap (λ es. joined join n (needs_all join o (trees_of (views es)))) (sym h) ∙ s.whole;
  }

  pub joining_ends : (n : Needs) (left : List Expr) → Joining join o t n left → left ≡ [] → n ≡ needs join o t
  joining_ends n left s h =
      sym (joined-after join j n) ∙ ap (λ es. joined join n (needs_all join o (trees_of (views es)))) (sym h) ∙ s.whole

-- a tree without children
pub leaf_joins : (join : Need → Need → Need) (j : IsJoin join) (o : Bool) (t : Tree) (n : Needs) →
    n ≡ needs_alone o t → children t ≡ [] → n ≡ needs join o t
leaf_joins join j o t n e none =
    joining_ends join j o t n [] (joining_starts join j o t n [] e (sym none)) refl

-- ---- the table so far, after what was there before, with some children left

pub record Listing (o : Bool) (t : Tree) (old now : List Needs) (left : List Expr) : Type 0 where
  pub whole : now ++ flat_map (needs_listed o) (views left)
      ≡ old ++ needs_alone o t ∷ flat_map (needs_listed o) (children t)

module _ (o : Bool) (t : Tree) (old : List Needs) where
  pub listing_starts : (n : Needs) (now : List Needs) (left : List Expr) → n ≡ needs_alone o t →
      now ≡ old ++ n ∷ [] → views left ≡ children t → Listing o t old now left
  listing_starts n now left e p h = record {
    whole = ap (λ l. l ++ flat_map (needs_listed o) (views left)) p
        ∙ append_assoc old (n ∷ []) (flat_map (needs_listed o) (views left))
        ∙ ap (λ m. old ++ m ∷ flat_map (needs_listed o) (views left)) e
        ∙ ap (λ ts. old ++ needs_alone o t ∷ flat_map (needs_listed o) ts) h;
  }

  pub listing_next : (now more_now : List Needs) (c : Expr) (left more : List Expr) → Listing o t old now left →
      left ≡ c ∷ more → more_now ≡ now ++ needs_listed o (view c) → Listing o t old more_now more
  listing_next now more_now c left more s h e = record {
    whole = ap (λ l. l ++ flat_map (needs_listed o) (views more)) e
        ∙ append_assoc now (needs_listed o (view c)) (flat_map (needs_listed o) (views more))
        ∙ ap (λ es. now ++ flat_map (needs_listed o) (views es)) (sym h) ∙ s.whole;
  }

  pub listing_ends : (now : List Needs) (left : List Expr) → Listing o t old now left → left ≡ [] →
      now ≡ old ++ needs_alone o t ∷ flat_map (needs_listed o) (children t)
  listing_ends now left s h =
      sym (append-nil now) ∙ ap (λ es. now ++ flat_map (needs_listed o) (views es)) (sym h) ∙ s.whole

  set_after : (a : List Needs) (x y : Needs) (l : List Needs) → set (a ++ x ∷ l) (length a) y ≡ a ++ y ∷ l
  set_after [] x y l = refl
  set_after (z ∷ a) x y l = ap (λ m. z ∷ m) (set_after a x y l)

  -- with the needs of the node set in it
  pub table_complete : (n : Needs) (now : List Needs) (left : List Expr) → Listing o t old now left → left ≡ [] →
      n ≡ needs first o t → set now (length old) n ≡ old ++ needs_listed o t
  table_complete n now left s h e =
      ap (λ l. set l (length old) n) (listing_ends now left s h)
      ∙ set_after old (needs_alone o t) n (flat_map (needs_listed o) (children t))
      ∙ ap (λ m. old ++ m ∷ flat_map (needs_listed o) (children t)) e
      ∙ ap (λ l. old ++ l) (sym (table_node o t))

  -- the table of a tree without children
  pub leaf_table : (n : Needs) (now : List Needs) → n ≡ needs first o t → children t ≡ [] → now ≡ old ++ n ∷ [] →
      now ≡ old ++ needs_listed o t
  leaf_table n now e none p =
      p ∙ ap (λ m. old ++ m ∷ []) e
      ∙ ap (λ ts. old ++ needs first o t ∷ flat_map (needs_listed o) ts) (sym none)
      ∙ ap (λ l. old ++ l) (sym (table_node o t))

-- ---- flags as each leaf needs them

module _ (f : Flags) (o : Bool) where
  -- a tree without children
  pub leaf_decides : (b : Bool) (t : Tree) → children t ≡ [] → Decides b (with_needs f (needs_alone o t) ≡ f) →
      Decides b (AreMet f (needs_listed o t))
  leaf_decides b t none d =
      let n = needs_alone o t in
      let same : n ∷ [] ≡ needs_listed o t =
      leaf_table o t [] n (n ∷ []) (leaf_joins first first_joins o t n refl none) none refl in
      (λ e. subst (AreMet f) same (d.0 e, tt), λ p. d.1 (subst (AreMet f) (sym same) p).0)

  row_met : (r : label.Row) (ts : Trees) → AreMet f (all_listed o ts) → AreMet f (needs_listed o (row r ts))
  row_met r ts p = (met_trees first keeps_first f o ts p, p)

  pub row_decides : (b : Bool) (r : label.Row) (ts : Trees) → Decides b (AreMet f (all_listed o ts)) →
      Decides b (AreMet f (needs_listed o (row r ts)))
  row_decides b r ts d = (λ e. row_met r ts (d.0 e), λ p. d.1 p.1)

  abbrev pub children_listed : Tree → List Needs
  children_listed t = flat_map (needs_listed o) (children t)

  -- a tree that has children
  pub tree_met : (t : Tree) → is_leaf t ≡ false → AreMet f (children_listed t) → AreMet f (needs_listed o t)
  tree_met (leaf l) e p = absurd cc
  tree_met (over (label.ast_group name position) t) e p = absurd cc
  tree_met (over w t) e p =
      let inside = met_front f (needs_listed o t) [] p in (met_tree first keeps_first f o t inside, inside)
  tree_met (row r ts) e p = row_met r ts (subst (AreMet f) (sym (ap (drop 1) (table_node o (row r ts)))) p)

  pub children_met : (t : Tree) → AreMet f (needs_listed o t) → AreMet f (children_listed t)
  children_met t p = (subst (AreMet f) (table_node o t) p).1

  -- with some children left, or some trees of a list
  pub record MetSoFar (left all : List Needs) : Type 0 where
    pub if_left : AreMet f left → AreMet f all
    pub if_all : AreMet f all → AreMet f left

  pub met_next : (left here more all : List Needs) → MetSoFar left all → left ≡ here ++ more → AreMet f here →
      MetSoFar more all
  met_next left here more all s e p = record {
    if_left = λ q. s.if_left (subst (AreMet f) (sym e) (met_both f here more p q));
    if_all = λ q. met_back f here more (subst (AreMet f) e (s.if_all q));
  }

  pub met_ends : (left all : List Needs) → MetSoFar left all → left ≡ [] → AreMet f all
  met_ends left all s e = s.if_left (subst (AreMet f) (sym e) tt)

  pub met_here : (left here more all : List Needs) → MetSoFar left all → left ≡ here ++ more → AreMet f all →
      AreMet f here
  met_here left here more all s e p = met_front f here more (subst (AreMet f) e (s.if_all p))

-- a tree of a list is not deeper than the list
pub levels_of_piece : (es : List Expr) (i : ℕ) (e : Expr) → i < length es → e ≡ get_or es i e →
    levels (view e) ≤ levels_all (trees_of (views es))
levels_of_piece [] i e h is = absurd (omega arith)
levels_of_piece (x ∷ es) zero e h is =
    let same : levels (view e) ≡ levels (view x) = ap (λ d. levels (view d)) is in
    omega (arith, same)
levels_of_piece (x ∷ es) (suc i) e h is = omega (arith, levels_of_piece es i e (omega arith) is)
