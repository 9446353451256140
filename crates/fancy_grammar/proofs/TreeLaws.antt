-- What is true of trees that are built from parts: their groups and references, their nodes, and how large they are.
use Rattle.std.proofs.Common.{◌≡◌, ℕ, ◌+◌, ◌≤◌, ◌∷◌, [], ◌++◌, List, refl, sym, ap, ◌∙◌, subst, arith, Bool, true}
use Rattle.std.proofs.Common.{false, append-nil, length, max, if◌then◌else◌}
use Rattle.std.specs.Prelude.{◌&&◌}
use Rattle.std.proofs.lemmas.Bool.{cond_both}
use Rattle.std.specs.List.{AllByRecursion}
use Rattle.fancy_lex.specs.declared.flags.Flags.{Flags}
use Rattle.fancy_lex.specs.declared.counts.Counts.{Counts}
use Rattle.fancy_grammar.specs.Grammar.{branches_of, conditional_of, clear_or_stopper}
use Rattle.fancy_grammar.specs.GroupKind.{GroupKind, capture, flag_group, look, atomic, define, repeater, group_node}
use Rattle.fancy_grammar.specs.Join.{join, choice, solid, is_empty, one_or}
use Rattle.fancy_grammar.specs.Items.{Item, items, items_all}
use Rattle.fancy_grammar.specs.Quantified.{is_swapped, quantified, is_repeatable, Suffix}
use Rattle.fancy_grammar.specs.Tree.{leaf, Tree, Trees, no_trees, more_trees, empty, concat, alt, trees_of, list_of}
use Rattle.fancy_grammar.specs.Tree.{over, row, levels, nodes, nodes_all, levels_all}
use Rattle.fancy_grammar.specs.Preorder.{preorder, preorder_all}
use Rattle.fancy_grammar.specs.Label as label
use Rattle.fancy_grammar.proofs.LevelLaws.{nodes_preorder}

-- ---- groups and references

-- the items of several trees
abbrev pub items_of : List Tree → List Item
items_of l = items_all (trees_of l)

no_items : (t : Tree) → is_empty t ≡ true → items t ≡ []
no_items empty e = refl
no_items _ e = absurd cc

items_solid : (ts : List Tree) → items_of (solid ts) ≡ items_of ts
items_solid [] = refl
items_solid (t ∷ ts) =
    let more = items_solid ts in
    cond_both (is_empty t) _ _ (λ us. items_of us ≡ items_of (t ∷ ts))
    (λ e. more ∙ ap (λ l. l ++ items_of ts) (sym (no_items t e)))
    (λ e. ap (λ l. items t ++ l) more)

pub items_choice : (ts : List Tree) → items (choice ts) ≡ items_of ts
items_choice [] = refl
items_choice (t ∷ []) = sym (append-nil (items t))
items_choice (t ∷ u ∷ ts) = refl

items_one_or_concat : (ts : List Tree) → items (one_or concat ts) ≡ items_of ts
items_one_or_concat [] = refl
items_one_or_concat (t ∷ []) = sym (append-nil (items t))
items_one_or_concat (t ∷ u ∷ ts) = refl

pub items_join : (ts : List Tree) → items (join ts) ≡ items_of ts
items_join ts = items_one_or_concat (solid ts) ∙ items_solid ts

pub items_quantified : (f : Flags) (c : Counts) (m : Suffix) (a : Tree) → items a ≡ items (quantified f c m a)
items_quantified f c m a =
    cond_both (is_swapped f c) _ _ (λ x. items a ≡ items x) (λ _. refl)
    (λ _. cond_both m.possessive _ _ (λ x. items a ≡ items x) (λ _. refl) (λ _. refl))

pub trees_back : (ts : Trees) → trees_of (list_of ts) ≡ ts
trees_back no_trees = refl
trees_back (more_trees t ts) = ap (more_trees t) (trees_back ts)

pub list_back : (l : List Tree) → list_of (trees_of l) ≡ l
list_back [] = refl
list_back (t ∷ l) = ap (t ∷◌) (list_back l)

pub items_conditional : (c t f : Tree) → items c ++ (items t ++ items f) ≡ items (conditional_of c t f)
items_conditional c t f =
    cond_both (is_empty t && is_empty f) _ _ (λ x. items c ++ (items t ++ items f) ≡ items x)
    (λ e. let h = both_true (is_empty t) (is_empty f) e in
    ap (λ l. items c ++ (l ++ items f)) (no_items t h.0) ∙ ap (λ l. items c ++ l) (no_items f h.1)
    ∙ append-nil (items c)) (λ _. simp append-nil)
  where
    both_true : (a b : Bool) → (a && b) ≡ true → (a ≡ true) × (b ≡ true)
    both_true true b e = (refl, e)
    both_true false b e = absurd cc

pub items_branches : (r : Tree) → items r ≡ items (branches_of r).0 ++ items (branches_of r).1
items_branches (alt (more_trees t ts)) = ap (λ l. items t ++ l)
    (ap items_all (sym (trees_back ts)) ∙ sym (items_choice (list_of ts)))
items_branches r = sym (append-nil (items r))

pub items_clear_or_stopper : (a : Tree) → items a ≡ items (clear_or_stopper a)
items_clear_or_stopper a = cond_both (is_empty a) _ _ (λ x. items a ≡ items x) (λ e. no_items a e) (λ _. refl)

-- ---- nodes

-- a node of a raw tree: as in a parsed tree, but without the nodes that only resolving makes
abbrev pub IsReadNode : Tree → Type 0
IsReadNode (leaf (label.literal w casei)) = length w ≡ 1
IsReadNode (leaf (label.literal_bytes w)) = (length w ≡ 1) × AllByRecursion (λ b. (0x80 ≤ b) × (b ≤ 0xFF)) w
IsReadNode (row label.alt ts) = 2 ≤ length (list_of ts)
IsReadNode (over label.group t) = ⊥
IsReadNode (leaf (label.backref n casei)) = ⊥
IsReadNode (leaf (label.backref_at_level n level casei)) = ⊥
IsReadNode (leaf (label.backref_exists n level)) = ⊥
IsReadNode (leaf (label.subroutine_call n)) = ⊥
IsReadNode _ = Unit {0}

abbrev pub IsRead : Tree → Type 0
IsRead t = AllByRecursion IsReadNode (preorder t)

abbrev pub AreRead : List Tree → Type 0
AreRead ts = AllByRecursion IsRead ts

both_read : (a b : List Tree) → AllByRecursion IsReadNode a → AllByRecursion IsReadNode b →
    AllByRecursion IsReadNode (a ++ b)
both_read [] b h i = i
both_read (t ∷ a) b h i = (h.0, both_read a b h.1 i)

-- this holds for a node without children
abbrev pub IsReadLeaf : Tree → Type 0
IsReadLeaf t = IsReadNode t × (preorder t ≡ t ∷ []) × (levels t ≡ 1)

pub leaf_is_read : (t : Tree) → IsReadLeaf t → IsRead t
leaf_is_read t h = subst (AllByRecursion IsReadNode) (sym h.1) (h.0, tt)

pub all_read : (ts : List Tree) → AreRead ts → AllByRecursion IsReadNode (preorder_all (trees_of ts))
all_read [] h = tt
all_read (t ∷ ts) h = both_read (preorder t) (preorder_all (trees_of ts)) h.0 (all_read ts h.1)

each_read : (ts : Trees) → AllByRecursion IsReadNode (preorder_all ts) → AreRead (list_of ts)
each_read no_trees h = tt
each_read (more_trees t ts) h =
    (front (preorder t) (preorder_all ts) h, each_read ts (back (preorder t) (preorder_all ts) h))
  where
    front : (a b : List Tree) → AllByRecursion IsReadNode (a ++ b) → AllByRecursion IsReadNode a
    front [] b h = tt
    front (x ∷ a) b h = (h.0, front a b h.1)

    back : (a b : List Tree) → AllByRecursion IsReadNode (a ++ b) → AllByRecursion IsReadNode b
    back [] b h = h
    back (x ∷ a) b h = back a b h.1

solid_read : (ts : List Tree) → AreRead ts → AreRead (solid ts)
solid_read [] h = tt
solid_read (t ∷ ts) h = cond_both (is_empty t) _ _ AreRead (λ _. solid_read ts h.1) (λ _. (h.0, solid_read ts h.1))

pub join_read : (ts : List Tree) → AreRead ts → IsRead (join ts)
join_read ts h = of_solid (solid ts) (solid_read ts h)
  where
    of_solid : (ts : List Tree) → AreRead ts → IsRead (one_or concat ts)
    of_solid [] h = (tt, tt)
    of_solid (t ∷ []) h = h.0
    of_solid (t ∷ u ∷ ts) h = (tt, all_read (t ∷ u ∷ ts) h)

pub choice_read : (ts : List Tree) → AreRead ts → IsRead (choice ts)
choice_read [] h = (tt, tt)
choice_read (t ∷ []) h = h.0
choice_read (t ∷ u ∷ ts) h = (omega arith, all_read (t ∷ u ∷ ts) h)

pub quantified_read : (f : Flags) (c : Counts) (m : Suffix) (a : Tree) → IsRead a → IsRead (quantified f c m a)
quantified_read f c m a h =
    cond_both (is_swapped f c) _ _ IsRead (λ _. (tt, (tt, h)))
    (λ _. cond_both m.possessive _ _ IsRead (λ _. (tt, (tt, h))) (λ _. (tt, h)))

pub node_read : (h : GroupKind) (p : ℕ) (r : Tree) → IsRead r → IsRead (group_node h p r)
node_read (capture name) p r i = (tt, i)
node_read flag_group p r i = i
node_read (look l) p r i = (tt, i)
node_read atomic p r i = (tt, i)
node_read define p r i = (tt, i)
node_read repeater p r i = (tt, i)

pub conditional_of_read : (c t f : Tree) → IsRead c → IsRead t → IsRead f → IsRead (conditional_of c t f)
conditional_of_read c t f h i j =
    cond_both (is_empty t && is_empty f) _ _ IsRead (λ _. h)
    (λ _. (tt, all_read (c ∷ t ∷ f ∷ []) (h, (i, (j, tt)))))

pub branches_read : (r : Tree) → IsRead r → IsRead (branches_of r).0 × IsRead (branches_of r).1
branches_read (alt (more_trees t ts)) h =
    let each = each_read (more_trees t ts) h.1 in (each.0, choice_read (list_of ts) each.1)
branches_read r h = (h, (tt, tt))

pub clear_or_stopper_read : (a : Tree) → IsRead a → IsRead (clear_or_stopper a)
clear_or_stopper_read a h = cond_both (is_empty a) _ _ IsRead (λ _. (tt, tt)) (λ _. (tt, h))

-- ---- how large they are

abbrev pub sizes : List Tree → ℕ
sizes [] = 0
sizes (t ∷ ts) = nodes t + sizes ts

-- in a row a tree counts one more than its nodes, and an Empty counts nothing
abbrev pub weight : Tree → ℕ
weight t = if is_empty t then 0 else nodes t + 1

abbrev pub weights : List Tree → ℕ
weights [] = 0
weights (t ∷ ts) = weight t + weights ts

-- the levels of trees side by side
abbrev pub widest : List Tree → ℕ
widest ts = levels_all (trees_of ts)

pub weight_most : (t : Tree) → weight t ≤ nodes t + 1
weight_most t = cond_both (is_empty t) _ _ (λ m. m ≤ nodes t + 1) (λ _. omega arith) (λ _. omega arith)

size_all : (ts : List Tree) → nodes_all (trees_of ts) ≡ sizes ts
size_all [] = refl
size_all (t ∷ ts) = omega (arith, size_all ts)

-- a branch of pieces
solid_weights : (ts : List Tree) → sizes (solid ts) + length (solid ts) ≤ weights ts
solid_weights [] = omega arith
solid_weights (t ∷ ts) =
    let more = solid_weights ts in
    by_test (is_empty t) more
  where
    by_test : (b : Bool) → sizes (solid ts) + length (solid ts) ≤ weights ts →
        sizes (if b then solid ts else t ∷ solid ts) + length (if b then solid ts else t ∷ solid ts)
        ≤ (if b then 0 else nodes t + 1) + weights ts
    by_test true h = omega (arith, h)
    by_test false h = omega (arith, h)

one_size : (ts : List Tree) → nodes (one_or concat ts) ≤ sizes ts + length ts + 1
one_size [] = omega arith
one_size (t ∷ []) = omega arith
one_size (t ∷ u ∷ ts) = omega (arith, size_all (t ∷ u ∷ ts))

pub join_size : (ts : List Tree) → nodes (join ts) ≤ weights ts + 1
join_size ts = omega (arith, one_size (solid ts), solid_weights ts)

solid_levels : (ts : List Tree) → widest (solid ts) ≤ widest ts
solid_levels [] = omega arith
solid_levels (t ∷ ts) =
    let more = solid_levels ts in
    cond_both (is_empty t) _ _ (λ us. widest us ≤ widest (t ∷ ts)) (λ _. omega (arith, more)) (λ _. omega (arith, more))

one_level : (ts : List Tree) → levels (one_or concat ts) ≤ widest ts + 1
one_level [] = omega arith
one_level (t ∷ []) = omega arith
one_level (t ∷ u ∷ ts) = omega arith

pub join_levels : (ts : List Tree) → levels (join ts) ≤ widest ts + 1
join_levels ts = omega (arith, one_level (solid ts), solid_levels ts)

-- a choice among branches
choice_size : (ts : List Tree) → nodes (choice ts) ≤ sizes ts + 1
choice_size [] = omega arith
choice_size (t ∷ []) = omega arith
choice_size (t ∷ u ∷ ts) = omega (arith, size_all (t ∷ u ∷ ts))

pub some_choice_size : (ts : List Tree) → 1 ≤ length ts → nodes (choice ts) + 1 ≤ sizes ts + length ts
some_choice_size [] h = absurd (omega (arith, h))
some_choice_size (t ∷ []) h = omega arith
some_choice_size (t ∷ u ∷ ts) h = omega (arith, size_all (t ∷ u ∷ ts))

pub choice_levels : (ts : List Tree) → levels (choice ts) ≤ widest ts + 1
choice_levels [] = omega arith
choice_levels (t ∷ []) = omega arith
choice_levels (t ∷ u ∷ ts) = omega arith

-- a conditional
pub branches_size : (r : Tree) → nodes (branches_of r).0 + nodes (branches_of r).1 ≤ nodes r + 1
branches_size (alt (more_trees t ts)) =
    omega (arith, choice_size (list_of ts), size_all (list_of ts), ap nodes_all (trees_back ts))
branches_size r = omega arith

pub branches_levels : (r : Tree) → (levels (branches_of r).0 ≤ levels r)
    × (levels (branches_of r).1 ≤ max 1 (levels r))
branches_levels (alt (more_trees t ts)) =
    (omega arith, omega (arith, choice_levels (list_of ts), ap levels_all (trees_back ts)))
branches_levels r = (omega arith, omega arith)

pub conditional_size : (c t f : Tree) → nodes (conditional_of c t f) ≤ nodes c + (nodes t + nodes f) + 1
conditional_size c t f =
    cond_both (is_empty t && is_empty f) _ _ (λ x. nodes x ≤ nodes c + (nodes t + nodes f) + 1) (λ _. omega arith)
    (λ _. omega arith)

pub conditional_levels : (c t f : Tree) → levels (conditional_of c t f) ≤ max (levels c)
    (max (levels t) (levels f)) + 1
conditional_levels c t f =
    cond_both (is_empty t && is_empty f) _ _
    (λ x. levels x ≤ max (levels c) (max (levels t) (levels f)) + 1)
    (λ _. omega arith) (λ _. omega arith)

-- a group, and a branch after `(?~|`
abbrev IsNodeOver : Tree → Tree → Type 0
IsNodeOver t u = (nodes u ≤ nodes t + 1) × (levels u ≤ levels t + 1)

pub node_over : (h : GroupKind) (p : ℕ) (t : Tree) → IsNodeOver t (group_node h p t)
node_over (capture name) p t = (omega arith, omega arith)
node_over flag_group p t = (omega arith, omega arith)
node_over (look l) p t = (omega arith, omega arith)
node_over atomic p t = (omega arith, omega arith)
node_over define p t = (omega arith, omega arith)
node_over repeater p t = (omega arith, omega arith)

pub clear_or_stopper_over : (a : Tree) → IsNodeOver a (clear_or_stopper a)
clear_or_stopper_over a =
    cond_both (is_empty a) _ _ (IsNodeOver a) (λ _. (omega arith, omega arith)) (λ _. (omega arith, omega arith))

pub repeatable_solid : (f : Flags) (a : Tree) → is_repeatable f a ≡ true → is_empty a ≡ false
repeatable_solid f empty e = absurd cc
repeatable_solid f _ e = refl

pub solid_weight : (a : Tree) → is_empty a ≡ false → weight a ≡ nodes a + 1
solid_weight a e = ap (λ b. if b then 0 else nodes a + 1) e

-- a Repeat, or a possessive one
abbrev IsOver : Tree → Tree → Type 0
IsOver a b = (weight b ≤ nodes a + 3) × (levels b ≤ levels a + 2)

pub quantified_over : (f : Flags) (c : Counts) (m : Suffix) (a : Tree) → IsOver a (quantified f c m a)
quantified_over f c m a =
    cond_both (is_swapped f c) _ _ (IsOver a) (λ _. (omega arith, omega arith)) (λ _.
    cond_both m.possessive _ _ (IsOver a) (λ _. (omega arith, omega arith)) (λ _. (omega arith, omega arith)))

-- a leaf is one node
pub leaf_size : (t : Tree) → preorder t ≡ t ∷ [] → nodes t ≡ 1
leaf_size t e = nodes_preorder t ∙ ap length e
