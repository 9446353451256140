-- The spans of the nodes of a tree in its pattern, given by the derivation that reads them.
-- The span of a node is that of the innermost rule that makes it. A leaf spans its own text, and a node made by
-- parentheses spans them. A Repeat, and an AtomicGroup that a quantifier makes, spans from the start of the atom under
-- it through the last character of the quantifier. A Concat, and the Empty of a branch without pieces, spans the
-- branch. An Alt spans from the start of its first branch to the end of its last, including layout. A group that makes
-- no node leaves the span of its contents unchanged; the node around it includes the parentheses.
use Rattle.std.specs.Prelude.{◌≡◌, ◌≤◌, ℕ, zero, suc, ◌+◌, Bool, ◌||◌, ◌&&◌, List, [], ◌∷◌, ◌++◌, Option, map, codes}
use Rattle.std.specs.Prelude.{if◌then◌else◌}
use Rattle.std.specs.Option.{option_and_then}
use Rattle.std.specs.Str.{IsCharBoundary}
use Prim.Native.Char.{code}
use Rattle.fancy_lex.specs.LayoutSteps.{past_layout}
use Rattle.fancy_lex.specs.Reading.{choose}
use Rattle.fancy_lex.specs.Text.{Text, bytes, reach_of, position_at, strip, strip_word}
use Rattle.fancy_lex.specs.declared.flags.Flags.{Flags}
use Rattle.fancy_lex.specs.Quantifier.{counts}
use Rattle.fancy_grammar.specs.Ranks.{is_counted, only_named}
use Rattle.fancy_lex.specs.declared.counts.Counts.{Counts}
use Rattle.fancy_grammar.specs.AtomStart.{AtomStart}
use Rattle.fancy_grammar.specs.Grammar.{Alternation, alternation, Branches, last, more, branch_error, Branch, branch}
use Rattle.fancy_grammar.specs.Grammar.{Pieces, stop, next, piece_error, Piece, piece, layout_error, Atom, atom, AtomOf}
use Rattle.fancy_grammar.specs.Grammar.{a_nothing, a_read, a_group, a_condition, condition_error, a_body, two_branches}
use Rattle.fancy_grammar.specs.Grammar.{one_branch, absent_error, Inside, inside, Body, the_body, Whole, whole}
use Rattle.fancy_grammar.specs.Grammar.{branches_of}
use Rattle.fancy_grammar.specs.GroupKind.{GroupKind, capture, flag_group}
use Rattle.fancy_grammar.specs.Items.{openings}
use Rattle.fancy_grammar.specs.Join.{is_empty}
use Rattle.fancy_grammar.specs.Quantified.{quant, suffix, Suffix, is_repeatable, is_swapped, is_unmoved, max_adjacent}
use Rattle.fancy_grammar.specs.State.{State, at, Outcome, done, failed}
use Rattle.fancy_grammar.specs.Tree.{Tree, leaf, over, row, Trees, no_trees, more_trees, alt}

-- where the text of a node begins and where it ends: as reaches while the pattern is read, and as positions in the
-- result
pub record Span : Type 0 where
  pub start : ℕ
  pub end : ℕ

-- with positions in a pattern of n bytes
abbrev pub positioned : ℕ → Span → Span
positioned n p = record { start = position_at n p.start; end = position_at n p.end }

-- ---- how the spans of a tree nest

mutual
  -- the list has a span for each node in preorder: the spans lie between these two positions, those of a node's
  -- children lie in its own, and siblings follow one another
  pub data Nests : ℕ → ℕ → Tree → List Span → Type 0 where
    of_leaf : {low high a : _} {p : Span} → low ≤ p.start → p.start ≤ p.end → p.end ≤ high →
        Nests low high (leaf a) (p ∷ [])
    of_over : {low high w t l : _} {p : Span} → low ≤ p.start → p.end ≤ high → Nests p.start p.end t l →
        Nests low high (over w t) (p ∷ l)
    of_row : {low high r ts l : _} {p : Span} → low ≤ p.start → p.end ≤ high → AllNest p.start p.end ts l →
        Nests low high (row r ts) (p ∷ l)

  pub data AllNest : ℕ → ℕ → Trees → List Span → Type 0 where
    of_none : {low high : ℕ} → low ≤ high → AllNest low high no_trees []
    of_more : {low mid high t ts l m k : _} → Nests low mid t l → AllNest mid high ts m → k ≡ l ++ m →
        AllNest low high (more_trees t ts) k

-- the span begins and ends at character boundaries of the pattern
abbrev pub IsCutOut : List ℕ → Span → Type 0
IsCutOut pattern p = IsCharBoundary pattern p.start × IsCharBoundary pattern p.end

-- ---- the spans of a tree, as a tree

mutual
  -- the span of a node, and those of its children
  pub data Spans : Type 0 where
    node : Span → Forest → Spans

  -- the spans of several nodes; among branches, also the reaches just after the bars
  pub data Forest : Type 0 where
    no_spans : Forest
    more_spans : Spans → Forest → Forest
    after_bar : ℕ → Forest → Forest

abbrev mutual
  -- each span before those of the node's children
  pub in_preorder : Spans → List Span
  in_preorder (node p xs) = p ∷ all_in_preorder xs

  pub all_in_preorder : Forest → List Span
  all_in_preorder no_spans = []
  all_in_preorder (more_spans x xs) = in_preorder x ++ all_in_preorder xs
  all_in_preorder (after_bar p xs) = all_in_preorder xs

abbrev pub alone : Span → Spans
alone p = node p no_spans

abbrev pub around : Span → Spans → Spans
around p x = node p (more_spans x no_spans)

-- the node of the pieces or branches that span p: without any an Empty, a single one itself, otherwise a node around
-- them
abbrev pub one_or_node : Span → Forest → Spans
one_or_node p no_spans = alone p
one_or_node p (more_spans x no_spans) = x
one_or_node p xs = node p xs

-- a tree before others; an Empty is left out
abbrev pub solid_spans : Tree → Spans → Forest → Forest
solid_spans r x xs = if is_empty r then xs else more_spans x xs

-- ---- outcomes

-- the reach at which what is read ends, or the reach of the error
abbrev pub end_of : {A : Type 0} → Outcome A → ℕ
end_of (done a t) = reach_of t.rest
end_of (failed e) = e.reach

-- from a state to the end of what is read from it
abbrev pub between : {A : Type 0} → State → Outcome A → Span
between s o = record { start = reach_of s.rest; end = end_of o }

-- f applied to what is read, or x for an error
abbrev pub if_done : {A B : Type 0} → Outcome A → (A → State → B) → B → B
if_done (done a t) f x = f a t
if_done (failed e) f x = x

-- ---- groups and conditionals

-- the node of a group that spans p, around its contents; if only groups with a name have a number, the other capturing
-- groups make no node
abbrev pub group_spans : Bool → GroupKind → Span → Spans → Spans
group_spans named (capture name) p x = if is_counted named name then around p x else x
group_spans named flag_group p x = x
group_spans named _ p x = around p x

-- the branches of a conditional's body, which ends at v: the first branch of an Alt, even an Alt from a group without a
-- node, as in `(?(1)(?:a|b))`, and the choice among the branches after its first bar; if the body is no Alt, the body
-- itself and an Empty at its end
abbrev pub body_parts : Tree → State → Spans → Spans × Spans
body_parts (alt ts) v (node p (more_spans x (after_bar b xs))) =
    (x, one_or_node (record { start = b; end = p.end }) xs)
body_parts r v x = (x, alone (record { start = reach_of v.rest; end = reach_of v.rest }))

-- a conditional that spans p, with its condition and its body; if both branches are Empty, only the condition
abbrev pub conditional_spans : Span → Spans → Outcome Tree → Spans → Spans
conditional_spans p c q x = if_done q (λ r v.
    let b = branches_of r in
    let y = body_parts r v x in
    if is_empty b.0 && is_empty b.1 then c
    else node p (more_spans c (more_spans y.0 (more_spans y.1 no_spans)))) c

-- the text after the parenthesis of a conditional, layout and `?(`
abbrev pub condition_text : State → Option Text
condition_text s = option_and_then (strip_word (codes "?(")) (option_and_then (past_layout s.flags.ignore_space)
    (strip (code "(") s.rest))

-- the span of a condition that is no alternation, in the conditional that begins at s: it ends one byte before the
-- body, which begins at t
abbrev pub condition_span : State → State → Span
condition_span s t =
    record { start = choose (condition_text s) reach_of (reach_of s.rest); end = reach_of t.rest + 1 }

-- ---- quantifiers

-- the counts of the quantifier that follows layout, if one does, with the text after them
abbrev pub counts_ahead : State → Option (Counts × Text)
counts_ahead s = option_and_then (counts s.flags.ignore_space) (past_layout s.flags.ignore_space s.rest)

-- the nodes that a quantifier with these counts and operators makes
abbrev pub under : Flags → Counts → Suffix → Span → Spans → Spans
under f c m p x = if is_swapped f c || m.possessive then around p (around p x) else around p x

-- where a quantifier ends: after its operators, or, if it has none, after its counts, at t
abbrev pub quantifier_end : Text → Suffix → State → ℕ
quantifier_end t m v = if m.lazy || m.possessive then reach_of v.rest else reach_of t

-- the atom a, which begins at the reach `from`, under these counts, which t follows
abbrev pub counted : ℕ → Tree → State → Spans → Counts × Text → Spans
counted from a s x (c, t) =
    if is_repeatable s.flags a
    then if_done (suffix (at s t) c)
    (λ m v. under s.flags c m (record { start = from; end = quantifier_end t m v }) x) x
    else x

-- under the quantifier that follows layout, if there is one
abbrev pub quant_spans : ℕ → Tree → State → Spans → Spans
quant_spans from a s x = choose (counts_ahead s) (counted from a s x) x

-- under adjacent quantifiers, of which k more may follow
abbrev pub adjacent_spans : ℕ → ℕ → Tree → State → Spans → Spans
adjacent_spans zero from a s x = quant_spans from a s x
adjacent_spans (suc k) from a s x =
    let y = quant_spans from a s x in
    if_done (quant (bytes s.rest) a s) (λ b t. if is_unmoved s t then y else adjacent_spans k from b t y) y

-- under all its quantifiers, in a piece before which this many bytes were left
abbrev pub quants_spans : ℕ → ℕ → Outcome Tree → Spans → Spans
quants_spans left from q x = if_done q (λ a s.
    let y = quant_spans from a s x in
    if_done (quant left a s)
    (λ b t. if t.flags.oniguruma_mode then adjacent_spans max_adjacent from b t y else y) y) x

-- ---- the productions

-- whether only groups with a name have a number
module _ (named : Bool) where
  abbrev mutual
    pub alternation_spans : {d : ℕ} {s : State} {o : Outcome Tree} → Alternation d s o → Spans
    alternation_spans {s} {o} (alternation b) = one_or_node (between s o) (branches_spans b)

    pub branches_spans : {d : ℕ} {s : State} {o : Outcome (List Tree)} → Branches d s o → Forest
    branches_spans (last b e) = more_spans (branch_spans b) no_spans
    branches_spans (more {u} b e m) = more_spans (branch_spans b) (after_bar (reach_of u) (branches_spans m))
    branches_spans (branch_error b) = no_spans

    pub branch_spans : {d : ℕ} {s : State} {o : Outcome Tree} → Branch d s o → Spans
    branch_spans {s} {o} (branch p) = one_or_node (between s o) (pieces_spans p)

    pub pieces_spans : {d : ℕ} {s : State} {o : Outcome (List Tree)} → Pieces d s o → Forest
    pieces_spans (stop e) = no_spans
    pieces_spans (next {r} e a m) = solid_spans r (piece_spans a) (pieces_spans m)
    pieces_spans (piece_error e a) = no_spans

    pub piece_spans : {d : ℕ} {s : State} {o : Outcome Tree} → Piece d s o → Spans
    piece_spans {s} (piece {u} {q} l a) = quants_spans (bytes s.rest) (reach_of u) q (atom_spans a)
    piece_spans {s} {o} (layout_error l) = alone (between s o)

    pub atom_spans : {d : ℕ} {s : State} {o : Outcome Tree} → Atom d s o → Spans
    atom_spans (atom e a) = atom_of_spans a

    pub atom_of_spans : {k : AtomStart} {d : ℕ} {s : State} {o : Outcome Tree} → AtomOf k d s o → Spans
    atom_of_spans {s} {o} a_nothing = alone (between s o)
    atom_of_spans {s} {o} a_read = alone (between s o)
    atom_of_spans {s} {o} (a_group {h} i) = group_spans named h (between s o) (inside_spans i)
    atom_of_spans {s} (a_condition i b) = body_spans s (inside_spans i) b
    atom_of_spans {s} {o} (condition_error i) = alone (between s o)
    atom_of_spans {s} (a_body {t} b) = body_spans s (alone (condition_span s t)) b
    atom_of_spans {s} {o} (two_branches b e m) =
        node (between s o) (more_spans (branch_spans b) (more_spans (branch_spans m) no_spans))
    atom_of_spans {s} {o} (one_branch {a} b e) = node (between s o) (solid_spans a (branch_spans b) no_spans)
    atom_of_spans {s} {o} (absent_error b) = alone (between s o)

    pub inside_spans : {d : ℕ} {s : State} {o : Outcome Tree} → Inside d s o → Spans
    inside_spans (inside a) = alternation_spans a

    -- for a conditional that begins at w, whose condition has the spans y
    pub body_spans : State → Spans → {d : ℕ} {c : Tree} {s : State} {o : Outcome Tree} → Body d c s o → Spans
    body_spans w y {o} (the_body {q} a) = conditional_spans (between w o) y q (alternation_spans a)

  abbrev pub whole_spans : {f : Flags} {text : Text} {o : Outcome Tree} → Whole f text o → Spans
  whole_spans (whole a) = alternation_spans a

-- the spans of the nodes of the tree that is parsed from a text, in preorder
abbrev pub AreSpansOf : Flags → Text → List Span → Type 0
AreSpansOf f text l =
    (r : Tree) × (t : State) × (a : Whole f text (done r t)) ×
    (l ≡ map (positioned (bytes text)) (in_preorder (whole_spans (only_named f (openings r)) a)))
