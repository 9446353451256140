-- How many nodes each node has, and which of the spans belong to its children.
use Rattle.std.proofs.Common.{◌≡◌, ℕ, suc, ◌-◌, List, [], ◌∷◌, ◌++◌, length, take, drop, map, min, refl, ap}
use Rattle.std.proofs.Common.{sym, ◌∙◌, arith, append_assoc, append-nil, length-append, length-take, length-drop}
use Rattle.std.proofs.Math.ListN.{set}
use Rattle.std.proofs.Math.Seq.{take-append_seam, drop-append_seam}
use Rattle.std.proofs.lemmas.List.{take-append-drop}
use Rattle.std.specs.List.{AllByRecursion, flat_map}
use Rattle.fancy_grammar.specs.ParsedTree.{IsParsedTree, IsParsedTreeNode}
use Rattle.fancy_grammar.specs.Label as label
use Rattle.fancy_grammar.specs.Preorder.{preorder, preorder_all}
use Rattle.fancy_grammar.specs.Tree.{Tree, leaf, over, row, Trees, no_trees, more_trees, list_of, children}
use Rattle.fancy_syntax.specs.Spanned.{Spanned, IsWhole, sizes, sizes_all, first_size, side_by_side}
use Rattle.fancy_syntax.specs.View.{view, views}
use Rattle.fancy_syntax.specs.declared.expr.Expr.{Expr}
use Rattle.fancy_syntax.specs.declared.span.Span.{Span}

-- ---- how many nodes

sizes_listed : (ts : Trees) → sizes_all ts ≡ flat_map sizes (list_of ts)
sizes_listed no_trees = refl
sizes_listed (more_trees t ts) = ap (λ l. sizes t ++ l) (sizes_listed ts)

-- the number of nodes of a node is followed by those of its children
pub sizes_node : (t : Tree) →
    sizes t ≡ suc (length (flat_map sizes (children t))) ∷ flat_map sizes (children t)
sizes_node (leaf l) = refl
sizes_node (over (label.ast_group name position) t) = refl
sizes_node (over w t) = ap (λ l. suc (length l) ∷ l) (sym (append-nil (sizes t)))
sizes_node (row r ts) = ap (λ l. suc (length l) ∷ l) (sizes_listed ts)

first_is : (t : Tree) (l : List ℕ) → first_size (sizes t ++ l) ≡ length (sizes t)
first_is t l =
    ap (λ n. first_size (n ++ l)) (sizes_node t) ∙ sym (ap length (sizes_node t))

both_halves : {A : Type 0} (P : A → Type 0) (l m : List A) → AllByRecursion P (l ++ m) →
    AllByRecursion P l × AllByRecursion P m
both_halves P [] m h = (tt, h)
both_halves P (x ∷ l) m (f, g) = let (a, b) = both_halves P l m g in ((f, a), b)

-- in a parsed tree every node counts
mutual
  many_sizes : (t : Tree) → IsParsedTree t → length (sizes t) ≡ length (preorder t)
  many_sizes (leaf l) h = refl
  many_sizes (over (label.ast_group name position) t) h = absurd h.0
  many_sizes (over w t) h = ap suc (many_sizes t h.1)
  many_sizes (row r ts) h = ap suc (all_many_sizes ts h.1)

  all_many_sizes : (ts : Trees) → AllByRecursion IsParsedTreeNode (preorder_all ts) →
      length (sizes_all ts) ≡ length (preorder_all ts)
  all_many_sizes no_trees h = refl
  all_many_sizes (more_trees t ts) h =
      let (f, g) = both_halves IsParsedTreeNode (preorder t) (preorder_all ts) h in
      omega (
        arith,
        length-append (sizes t) (sizes_all ts),
        length-append (preorder t) (preorder_all ts),
        many_sizes t f,
        all_many_sizes ts g,
      )

-- a node of a parsed tree that has as many spans as nodes
pub whole_of_nodes : (p : Spanned) → p.sizes ≡ sizes (view p.expr) → IsParsedTree (view p.expr) →
    length p.spans ≡ length (preorder (view p.expr)) → IsWhole p
whole_of_nodes p s a n = record {
  sized = s;
  spanned = n ∙ sym (many_sizes (view p.expr) a) ∙ ap length (sym s);
}

-- ---- the numbers so far, after those that were there before, with some children left

pub record Counting (t : Tree) (old now : List ℕ) (left : List Expr) : Type 0 where
  pub whole : now ++ flat_map sizes (views left) ≡ old ++ 0 ∷ flat_map sizes (children t)

module _ (t : Tree) (old : List ℕ) where
  pub counting_starts : (now : List ℕ) (left : List Expr) → now ≡ old ++ 0 ∷ [] → views left ≡ children t →
      Counting t old now left
  counting_starts now left p h = record {
    whole = ap (λ l. l ++ flat_map sizes (views left)) p ∙ append_assoc old (0 ∷ []) (flat_map sizes (views left))
        ∙ ap (λ ts. old ++ 0 ∷ flat_map sizes ts) h;
  }

  pub counting_next : (now more_now : List ℕ) (c : Expr) (left more : List Expr) → Counting t old now left →
      left ≡ c ∷ more → more_now ≡ now ++ sizes (view c) → Counting t old more_now more
  counting_next now more_now c left more s h e = record {
    whole = ap (λ l. l ++ flat_map sizes (views more)) e ∙ append_assoc now (sizes (view c)) (flat_map sizes (views more))
        ∙ ap (λ es. now ++ flat_map sizes (views es)) (sym h) ∙ s.whole;
  }

  counting_ends : (now : List ℕ) (left : List Expr) → Counting t old now left → left ≡ [] →
      now ≡ old ++ 0 ∷ flat_map sizes (children t)
  counting_ends now left s h =
      sym (append-nil now) ∙ ap (λ es. now ++ flat_map sizes (views es)) (sym h) ∙ s.whole

  set_after : (a : List ℕ) (x y : ℕ) (l : List ℕ) → set (a ++ x ∷ l) (length a) y ≡ a ++ y ∷ l
  set_after [] x y l = refl
  set_after (z ∷ a) x y l = ap (λ m. z ∷ m) (set_after a x y l)

  -- with the number of the node itself in its position
  pub counting_complete : (now : List ℕ) (left : List Expr) (n : ℕ) → Counting t old now left → left ≡ [] →
      n ≡ length now - length old → set now (length old) n ≡ old ++ sizes t
  counting_complete now left n s h e =
      let rest = flat_map sizes (children t) in
      let is : now ≡ old ++ 0 ∷ rest = counting_ends now left s h in
      let many : n ≡ suc (length rest) = omega (arith, e, ap length is, length-append old (0 ∷ rest)) in
      ap (λ l. set l (length old) n) is ∙ set_after old 0 n rest
      ∙ ap (λ m. old ++ m ∷ rest) many ∙ ap (λ l. old ++ l) (sym (sizes_node t))

-- ---- children side by side

pub side_exprs : (es : List Expr) (s : List Span) (n : List ℕ) → map (λ p. p.expr) (side_by_side es s n) ≡ es
side_exprs [] s n = refl
side_exprs (e ∷ es) s n = ap (λ l. e ∷ l) (side_exprs es (drop (first_size n) s) (drop (first_size n) n))

-- the numbers are those of these trees, and there are as many spans
pub record AreWhole (es : List Expr) (s : List Span) (n : List ℕ) : Type 0 where
  pub sized : n ≡ flat_map sizes (views es)
  pub spanned : length s ≡ length n

-- the children of a whole node are whole
pub children_whole : (p : Spanned) (es : List Expr) (s : List Span) (n : List ℕ) → views es ≡ children (view p.expr) →
    s ≡ drop 1 p.spans → n ≡ drop 1 p.sizes → IsWhole p → AreWhole es s n
children_whole p es s n h f g w = record {
  sized = g ∙ ap (drop 1) w.sized ∙ ap (drop 1) (sizes_node (view p.expr)) ∙ ap (flat_map sizes) (sym h);
  spanned = ap length f ∙ length-drop 1 p.spans ∙ ap (λ k. k - 1) w.spanned ∙ sym (length-drop 1 p.sizes)
      ∙ ap length (sym g);
}

module _ (e : Expr) (es : List Expr) (s : List Span) (n : List ℕ) (w : AreWhole (e ∷ es) s n) where
  first_of : first_size n ≡ length (sizes (view e))
  first_of = ap first_size w.sized ∙ first_is (view e) (flat_map sizes (views es))

  front_whole : IsWhole (record { expr = e; spans = take (first_size n) s; sizes = take (first_size n) n })
  front_whole =
      let front : take (first_size n) n ≡ sizes (view e) = ap (λ k. take k n) first_of
      ∙ ap (take (length (sizes (view e)))) w.sized ∙ take-append_seam (sizes (view e)) (flat_map sizes (views es)) in
      record {
        sized = front;
        spanned = length-take (first_size n) s ∙ ap (λ k. min (first_size n) k) w.spanned ∙ sym
            (length-take (first_size n) n);
      }

  others_whole : AreWhole es (drop (first_size n) s) (drop (first_size n) n)
  others_whole = record {
    sized = ap (λ k. drop k n) first_of ∙ ap (drop (length (sizes (view e)))) w.sized
        ∙ drop-append_seam (sizes (view e)) (flat_map sizes (views es));
    spanned = length-drop (first_size n) s ∙ ap (λ k. k - first_size n) w.spanned ∙ sym (length-drop (first_size n) n);
  }

pub side_whole : (es : List Expr) (s : List Span) (n : List ℕ) → AreWhole es s n →
    AllByRecursion IsWhole (side_by_side es s n)
side_whole [] s n w = tt
side_whole (e ∷ es) s n w = (front_whole e es s n w, side_whole es _ _ (others_whole e es s n w))

none_left : {A : Type 0} (l : List A) → length l ≡ 0 → [] ≡ l
none_left [] h = refl
none_left (x ∷ l) h = absurd (omega arith)

pub side_spans : (es : List Expr) (s : List Span) (n : List ℕ) → AreWhole es s n →
    flat_map (λ p. p.spans) (side_by_side es s n) ≡ s
side_spans [] s n w = none_left s (w.spanned ∙ ap length w.sized)
side_spans (e ∷ es) s n w =
    ap (λ l. take (first_size n) s ++ l) (side_spans es _ _ (others_whole e es s n w)) ∙ take-append-drop (first_size n) s
