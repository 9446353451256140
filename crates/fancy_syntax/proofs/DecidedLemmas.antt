-- The loop reads the same whether groups are decided or not: what it makes of decided trees is decided.
use Rattle.std.proofs.Common.{◌≡◌, ℕ, zero, suc, ◌+◌, Bool, true, false, ◌&&◌, nat_lt, List, [], ◌∷◌, ◌++◌}
use Rattle.std.proofs.Common.{Option, Some, None, refl, sym, ap, ◌∙◌, if◌then◌else◌}
use Rattle.std.proofs.lemmas.List.{map-append}
use Rattle.fancy_lex.specs.LayoutSteps.{Skipped, rest, failed as open_comment}
use Rattle.fancy_lex.specs.Located.{Located}
use Rattle.fancy_lex.specs.ErrorTable.{quantifier_too_deep, not_repeatable}
use Rattle.fancy_lex.specs.Text.{Text, bytes}
use Rattle.fancy_lex.specs.declared.flags.Flags.{Flags}
use Rattle.fancy_lex.specs.Quantifier.{counts}
use Rattle.fancy_grammar.specs.Ranks.{is_counted}
use Rattle.fancy_lex.specs.declared.counts.Counts.{Counts}
use Rattle.fancy_grammar.specs.Depth.{max_depth}
use Rattle.fancy_grammar.specs.Grammar.{is_condition, branches_of, conditional_of, clear_or_stopper}
use Rattle.fancy_grammar.specs.GroupKind.{group_node}
use Rattle.fancy_grammar.specs.Join.{is_empty, solid, one_or, choice}
use Rattle.fancy_grammar.specs.Label as label
use Rattle.fancy_grammar.specs.Preorder.{preorder, preorder_all}
use Rattle.fancy_grammar.specs.Quantified.{Suffix, quantified, is_swapped, is_repeatable, is_dropped, is_greedy, suffix}
use Rattle.fancy_grammar.specs.Quantified.{with_counts, quant, quants, adjacent, max_adjacent, is_unmoved}
use Rattle.fancy_grammar.specs.State.{State, at, skipped, after_skipped, Outcome, done, failed, and_then, mapped}
use Rattle.fancy_grammar.specs.Tree.{Tree, leaf, over, row, Trees, no_trees, more_trees, concat, alt, trees_of, list_of}
use Rattle.fancy_grammar.specs.Tree.{repeat, stopper, clear, conditional, atomic_repeat}
use Rattle.fancy_syntax.specs.Decided.{decided, decided_all, all_decided, made, IsDecidedKind}
use Rattle.fancy_syntax.specs.Parsed.{group_kind}
use Rattle.fancy_syntax.specs.declared.grammar.group.kind.GroupKind.{GroupKind}
use Rattle.fancy_syntax.specs.declared.grammar.group.kind.GroupKind.TheVariants as code
use Rattle.fancy_syntax.proofs.FoundLemmas.{never_none}

-- ---- single trees

pub decided_empty : (i : Bool) (t : Tree) → is_empty (decided i t) ≡ is_empty t
decided_empty i (leaf l) = refl
decided_empty i (over w t) = refl
decided_empty i (row r ts) = refl

pub decided_condition : (i : Bool) (t : Tree) → is_condition (decided i t) ≡ is_condition t
decided_condition i (leaf l) = refl
decided_condition i (over w t) = refl
decided_condition i (row r ts) = refl

pub decided_repeatable : (i : Bool) (f : Flags) (t : Tree) → is_repeatable f (decided i t) ≡ is_repeatable f t
decided_repeatable i f (leaf l) = refl
decided_repeatable i f (over (label.ast_group name reach) t) = by_test (is_counted i name)
  where
    by_test : (b : Bool) →
        is_repeatable f (over (if b then label.group else label.ast_group name reach) (decided i t)) ≡ true
    by_test true = refl
    by_test false = refl
decided_repeatable i f (over w t) = refl
decided_repeatable i f (row r ts) = refl

-- a tree that holds no other stays as it is
pub decided_alone : (i : Bool) (t : Tree) → preorder t ≡ t ∷ [] → decided i t ≡ t
decided_alone i (leaf l) e = refl
decided_alone i (over w t) e = let none : preorder t ≡ [] = cc in absurd (never_none t none)
decided_alone i (row r no_trees) e = refl
decided_alone i (row r (more_trees t ts)) e =
    let none : preorder t ++ preorder_all ts ≡ [] = cc in absurd (never_none t (first_none (preorder t) (preorder_all ts) none))
  where
    first_none : (l m : List Tree) → l ++ m ≡ [] → l ≡ []
    first_none [] m e = refl
    first_none (x ∷ l) m e = absurd cc

-- ---- quantifiers

pub decided_quantified : (i : Bool) (f : Flags) (c : Counts) (m : Suffix) (a : Tree) →
    quantified f c m (decided i a) ≡ decided i (quantified f c m a)
decided_quantified i f c m a = by_tests (is_swapped f c) m.possessive
  where
    by_tests : (x y : Bool) →
        (if x then atomic_repeat (decided i a) c.high c.low (is_greedy f m.lazy)
        else if y then atomic_repeat (decided i a) c.low c.high (is_greedy f m.lazy)
        else repeat (decided i a) c.low c.high (is_greedy f m.lazy))
        ≡ decided i (if x then atomic_repeat a c.high c.low (is_greedy f m.lazy)
        else if y then atomic_repeat a c.low c.high (is_greedy f m.lazy)
        else repeat a c.low c.high (is_greedy f m.lazy))
    by_tests true y = refl
    by_tests false true = refl
    by_tests false false = refl

decided_suffix : (i : Bool) (f : Flags) (c : Counts) (a : Tree) (o : Outcome Suffix) →
    mapped (λ m. quantified f c m (decided i a)) o ≡ mapped (decided i) (mapped (λ m. quantified f c m a) o)
decided_suffix i f c a (done m s) = ap (λ b. done b s) (decided_quantified i f c m a)
decided_suffix i f c a (failed e) = refl

decided_plain : (i : Bool) (a : Tree) (o : Outcome Suffix) →
    mapped (λ m. decided i a) o ≡ mapped (decided i) (mapped (λ m. a) o)
decided_plain i a (done m s) = refl
decided_plain i a (failed e) = refl

decided_counts : (i : Bool) (left : ℕ) (a : Tree) (s : State) (o : Option (Counts × Text)) →
    with_counts left (decided i a) s o ≡ mapped (decided i) (with_counts left a s o)
decided_counts i left a s None = refl
decided_counts i left a s (Some (c, t)) =
    (λ j. if decided_repeatable i s.flags a j then mapped (λ m. quantified s.flags c m (decided i a)) (suffix (at s t) c)
    else if s.flags.oniguruma_mode && (decided_empty i a j && nat_lt (bytes t + 1) left)
    then mapped (λ m. decided i a) (suffix (at s t) c) else failed (not_repeatable t))
    ∙ by_tests (is_repeatable s.flags a) (is_dropped s.flags left a t)
  where
    by_tests : (x y : Bool) →
        (if x then mapped (λ m. quantified s.flags c m (decided i a)) (suffix (at s t) c)
        else if y then mapped (λ m. decided i a) (suffix (at s t) c) else failed (not_repeatable t))
        ≡ mapped (decided i) (if x then mapped (λ m. quantified s.flags c m a) (suffix (at s t) c)
        else if y then mapped (λ m. a) (suffix (at s t) c) else failed (not_repeatable t))
    by_tests true y = decided_suffix i s.flags c a (suffix (at s t) c)
    by_tests false true = decided_plain i a (suffix (at s t) c)
    by_tests false false = refl

pub decided_quant : (i : Bool) (left : ℕ) (a : Tree) (s : State) →
    quant left (decided i a) s ≡ mapped (decided i) (quant left a s)
unfolding quant
decided_quant i left a s = by_layout (skipped s)
  where
    by_layout : (k : Skipped) →
        after_skipped k (λ t. with_counts left (decided i a) (at s t) (counts s.flags.ignore_space t)) failed
        ≡ mapped (decided i) (after_skipped k (λ t. with_counts left a (at s t) (counts s.flags.ignore_space t)) failed)
    by_layout (rest t) = decided_counts i left a (at s t) (counts s.flags.ignore_space t)
    by_layout (open_comment p) = refl

then_decided : (i : Bool) (q : Outcome Tree) (f g : Tree → State → Outcome Tree) →
    ((b : Tree) (t : State) → f (decided i b) t ≡ mapped (decided i) (g b t)) →
    and_then (mapped (decided i) q) f ≡ mapped (decided i) (and_then q g)
then_decided i (done b t) f g h = h b t
then_decided i (failed e) f g h = refl

pub decided_adjacent : (i : Bool) (k d : ℕ) (a : Tree) (s : State) →
    adjacent k d (decided i a) s ≡ mapped (decided i) (adjacent k d a s)
unfolding adjacent
decided_adjacent i zero d a s =
    let more : Tree → State → Outcome Tree =
    λ b t. if is_unmoved s t then done b t else failed (quantifier_too_deep t.rest) in
    ap (λ q. and_then q more) (decided_quant i (bytes s.rest) a s)
    ∙ then_decided i (quant (bytes s.rest) a s) more more (λ b t. by_test (is_unmoved s t) b t)
  where
    by_test : (x : Bool) (b : Tree) (t : State) →
        (if x then done (decided i b) t else failed (quantifier_too_deep t.rest))
        ≡ mapped (decided i) (if x then done b t else failed (quantifier_too_deep t.rest))
    by_test true b t = refl
    by_test false b t = refl
decided_adjacent i (suc k) d a s =
    let more : Tree → State → Outcome Tree =
    λ b t. if is_unmoved s t then done b t else if nat_lt (d + 1) max_depth then adjacent k (d + 1) b t
    else failed (quantifier_too_deep t.rest) in
    ap (λ q. and_then q more) (decided_quant i (bytes s.rest) a s)
    ∙ then_decided i (quant (bytes s.rest) a s) more more
    (λ b t. by_tests (is_unmoved s t) (nat_lt (d + 1) max_depth) b t (decided_adjacent i k (d + 1) b t))
  where
    by_tests : (x y : Bool) (b : Tree) (t : State) →
        adjacent k (d + 1) (decided i b) t ≡ mapped (decided i) (adjacent k (d + 1) b t) →
        (if x then done (decided i b) t else if y then adjacent k (d + 1) (decided i b) t
        else failed (quantifier_too_deep t.rest))
        ≡ mapped (decided i) (if x then done b t else if y then adjacent k (d + 1) b t
        else failed (quantifier_too_deep t.rest))
    by_tests true y b t h = refl
    by_tests false true b t h = h
    by_tests false false b t h = refl

pub decided_quants : (i : Bool) (d left : ℕ) (a : Tree) (s : State) →
    quants d left (decided i a) s ≡ mapped (decided i) (quants d left a s)
decided_quants i d left a s =
    let more : Tree → State → Outcome Tree =
    λ b t. if t.flags.oniguruma_mode then adjacent max_adjacent d b t else done b t in
    ap (λ q. and_then q more) (decided_quant i left a s)
    ∙ then_decided i (quant left a s) more more
    (λ b t. by_test t.flags.oniguruma_mode b t (decided_adjacent i max_adjacent d b t))
  where
    by_test : (x : Bool) (b : Tree) (t : State) →
        adjacent max_adjacent d (decided i b) t ≡ mapped (decided i) (adjacent max_adjacent d b t) →
        (if x then adjacent max_adjacent d (decided i b) t else done (decided i b) t)
        ≡ mapped (decided i) (if x then adjacent max_adjacent d b t else done b t)
    by_test true b t h = h
    by_test false b t h = refl

-- so a tree that stays as it is does so under its quantifiers
pub quants_kept : (i : Bool) (d left : ℕ) (a : Tree) (s : State) {r : Tree} {t : State} → decided i a ≡ a →
    quants d left a s ≡ done r t → decided i r ≡ r
quants_kept i d left a s {r} {t} h e =
    let same : done (decided i r) t ≡ done r t =
    sym (sym (ap (λ x. quants d left x s) h ∙ e) ∙ decided_quants i d left a s ∙ ap (mapped (decided i)) e) in cc

-- what is read of the quantifiers of a tree is decided, if the tree is
pub quants_done : (i : Bool) (d left : ℕ) (a : Tree) (s : State) {b : Tree} {t : State} →
    quants d left (decided i a) s ≡ done b t → (r : Tree) × (b ≡ decided i r) × (quants d left a s ≡ done r t)
quants_done i d left a s {b} {t} e = by_outcome (quants d left a s) (sym (decided_quants i d left a s) ∙ e)
  where
    by_outcome : (o : Outcome Tree) → mapped (decided i) o ≡ done b t →
        (r : Tree) × (b ≡ decided i r) × (o ≡ done r t)
    by_outcome (done r u) h = (r, cc, cc)
    by_outcome (failed f) h = absurd cc

pub quants_fails : (i : Bool) (d left : ℕ) (a : Tree) (s : State) (f : Located) →
    quants d left (decided i a) s ≡ failed f → quants d left a s ≡ failed f
quants_fails i d left a s f e = by_outcome (quants d left a s) (sym (decided_quants i d left a s) ∙ e)
  where
    by_outcome : (o : Outcome Tree) → mapped (decided i) o ≡ failed f → o ≡ failed f
    by_outcome (done r u) h = absurd cc
    by_outcome (failed g) h = cc

-- ---- lists of trees

pub decided_trees : (i : Bool) (l : List Tree) → trees_of (all_decided i l) ≡ decided_all i (trees_of l)
decided_trees i [] = refl
decided_trees i (t ∷ l) = ap (more_trees (decided i t)) (decided_trees i l)

pub decided_list : (i : Bool) (ts : Trees) → list_of (decided_all i ts) ≡ all_decided i (list_of ts)
decided_list i no_trees = refl
decided_list i (more_trees t ts) = ap (λ l. decided i t ∷ l) (decided_list i ts)

pub decided_concat : (i : Bool) (l : List Tree) → one_or concat (all_decided i l) ≡ decided i (one_or concat l)
decided_concat i [] = refl
decided_concat i (t ∷ []) = refl
decided_concat i (t ∷ u ∷ l) = ap concat (decided_trees i (t ∷ u ∷ l))

pub decided_choice : (i : Bool) (l : List Tree) → choice (all_decided i l) ≡ decided i (choice l)
decided_choice i [] = refl
decided_choice i (t ∷ []) = refl
decided_choice i (t ∷ u ∷ l) = ap alt (decided_trees i (t ∷ u ∷ l))

-- all branches, with the one that the pieces make
pub decided_branches_pieces : (i : Bool) (bs ps : List Tree) →
    all_decided i bs ++ one_or concat (all_decided i ps) ∷ [] ≡ all_decided i (bs ++ one_or concat ps ∷ [])
decided_branches_pieces i bs ps =
    ap (λ t. all_decided i bs ++ t ∷ []) (decided_concat i ps) ∙ sym (map-append (decided i) bs (one_or concat ps ∷ []))

pub decided_solid : (i : Bool) (t : Tree) → all_decided i (solid (t ∷ [])) ≡ solid (decided i t ∷ [])
decided_solid i t = by_test (is_empty t) ∙ ap (λ b. if b then [] else decided i t ∷ []) (sym (decided_empty i t))
  where
    by_test : (b : Bool) → all_decided i (if b then [] else t ∷ []) ≡ (if b then [] else decided i t ∷ [])
    by_test true = refl
    by_test false = refl

-- ---- the nodes of parts

pub decided_branches : (i : Bool) (r : Tree) →
    branches_of (decided i r) ≡ (decided i (branches_of r).0, decided i (branches_of r).1)
decided_branches i (row label.alt (more_trees t ts)) =
    ap (λ u. (decided i t, u)) (ap choice (decided_list i ts) ∙ decided_choice i (list_of ts))
decided_branches i (leaf l) = refl
decided_branches i (over w t) = refl
decided_branches i (row r ts) = refl

pub decided_conditional : (i : Bool) (c t f : Tree) →
    conditional_of (decided i c) (decided i t) (decided i f) ≡ decided i (conditional_of c t f)
decided_conditional i c t f =
    (λ j. if decided_empty i t j && decided_empty i f j then decided i c
    else conditional (decided i c) (decided i t) (decided i f))
    ∙ by_test (is_empty t && is_empty f)
  where
    by_test : (b : Bool) → (if b then decided i c else conditional (decided i c) (decided i t) (decided i f))
        ≡ decided i (if b then c else conditional c t f)
    by_test true = refl
    by_test false = refl

pub decided_clear : (i : Bool) (a : Tree) → clear_or_stopper (decided i a) ≡ decided i (clear_or_stopper a)
decided_clear i a =
    ap (λ b. if b then clear else stopper (decided i a)) (decided_empty i a) ∙ by_test (is_empty a)
  where
    by_test : (b : Bool) → (if b then clear else stopper (decided i a)) ≡ decided i (if b then clear else stopper a)
    by_test true = refl
    by_test false = refl

pub decided_made : (i : Bool) (k : GroupKind) (reach : ℕ) (t : Tree) → IsDecidedKind i k →
    made k reach (decided i t) ≡ decided i (group_node (group_kind k) reach t)
decided_made i (code.Capture None) reach t e = rw e refl
decided_made true (code.Capture (Some name)) reach t e = refl
decided_made false (code.Capture (Some name)) reach t e = refl
decided_made i code.Undecided reach t e = rw e refl
decided_made i code.FlagGroup reach t e = refl
decided_made i (code.Look look) reach t e = refl
decided_made i code.Atomic reach t e = refl
decided_made i code.Define reach t e = refl
decided_made i code.Repeater reach t e = refl
