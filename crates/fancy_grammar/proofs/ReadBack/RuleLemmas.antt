-- What the grammar's rules read, under flags with which no blank is layout. Nothing else here uses the rules.
use Rattle.std.proofs.Common.{◌≡◌, ℕ, ◌+◌, ◌<◌, ◌≤◌, suc, Bool, true, false, not, ◌&&◌, ◌==◌, nat_le, nat_lt, List, []}
use Rattle.std.proofs.Common.{◌∷◌, ◌++◌, Option, Some, None, is_none, refl, sym, ap, ap₂, ◌∙◌, subst, arith}
use Rattle.std.proofs.Common.{append_assoc, append-nil, le-leb, if◌then◌else◌}
use Rattle.std.proofs.lemmas.Bool.{cond-true, cond-false}
use Rattle.std.proofs.lemmas.Bool.Decides.{nat_tests}
use Rattle.std.proofs.Math.Bool.{and-true, and-false, not-not}
use Rattle.std.specs.List.{AllByRecursion, AllZip}
use Prim.Native.Char.{code}
use Rattle.fancy_lex.specs.Located.{Located}
use Rattle.fancy_lex.specs.LayoutSteps.{layout, after_comment_start, rest}
use Rattle.fancy_lex.specs.Reading.{gives, choose, layout_reading}
use Rattle.fancy_lex.specs.Text.{Text, bytes, IsPositionOf, reach_of}
use Rattle.fancy_lex.specs.declared.flags.Flags.{Flags}
use Rattle.fancy_lex.specs.ErrorTable.{group_too_deep}
use Rattle.fancy_lex.specs.FlagLetters.{Letters, flag_group as scoped, flags_end, flags_go_on}
use Rattle.fancy_lex.specs.LetterSteps.{letters, letters_in, step}
use Rattle.fancy_lex.specs.Quantifier.{counts}
use Rattle.fancy_grammar.specs.Quote.{after_backslash, needs_backslash}
use Rattle.fancy_lex.specs.declared.counts.Counts.{Counts}
use Rattle.fancy_lex.proofs.LetterLemmas.{letters_start, in_end, in_go}
use Rattle.fancy_grammar.specs.State as states
use Rattle.fancy_grammar.specs.AtomStart.{read, of_kind, atom_start, begins_no_atom, flags_start, after_question}
use Rattle.fancy_grammar.specs.AtomStart.{group_start, error_start, leaf_of, leaf_node, leaf_outcome}
use Rattle.fancy_grammar.specs.Depth.{max_depth}
use Rattle.fancy_grammar.specs.Grammar.{Alternation, alternation, Branches, last, more, branch_error, Branch, branch}
use Rattle.fancy_grammar.specs.Grammar.{Pieces, stop, next, piece_error, Piece, piece, Atom, atom, a_read, a_group}
use Rattle.fancy_grammar.specs.Grammar.{inside, DerivesTree, FailsWith, whole}
use Rattle.fancy_grammar.specs.GroupKind.{GroupKind, capture, flag_group}
use Rattle.fancy_grammar.specs.Items.{Item, opening, reference, items, items_all}
use Rattle.fancy_grammar.specs.Label as label
use Rattle.fancy_grammar.specs.Label.{Row}
use Rattle.fancy_grammar.specs.Join.{is_empty, solid, one_or, join, choice}
use Rattle.fancy_grammar.specs.Quantified as quantified
use Rattle.fancy_grammar.specs.Quantified.{is_repeatable, may_be_possessive, quant, quants}
use Rattle.fancy_grammar.specs.Quantified.{adjacent, max_adjacent, after_lazy, suffix}
use Rattle.fancy_grammar.specs.Resolved.{resolved_in, resolved_all}
use Rattle.fancy_grammar.specs.State.{skipped, State, Outcome, done, failed, and_then, mapped}
use Rattle.fancy_grammar.specs.Tree as tree
use Rattle.fancy_grammar.specs.Tree.{Tree, row, empty, literal, concat, repeat, trees_of, ast_node}
use Rattle.fancy_grammar.specs.Tree.{ast_group}
use Rattle.fancy_grammar.proofs.OutcomeLemmas.{trees_before, before-nil, solid-append, piece_as, after_rest}
use Rattle.fancy_grammar.specs.Normal.{unicode_flags, case_flags}
use Rattle.fancy_grammar.proofs.ReadBack.InFront.{put_as}
use Rattle.fancy_grammar.proofs.ReadBack.ClearLemmas.{Clear, no_layout, clear_counts, clear_lazy, clear_star}
use Rattle.fancy_grammar.proofs.ReadBack.ClearLemmas.{clear_plus, Stops, Ends, apart, after_none, after_some}
use Rattle.fancy_grammar.proofs.ReadBack.CountTexts.{IsQuantifier, lazy}

abbrev pub st : Flags → Text → State
st f s = record { flags = f; rest = s }

-- no blank is layout, greed is not swapped, and the mode is not that of Oniguruma
pub record Kept (f : Flags) : Type 0 where
  pub no_space : f.ignore_space ≡ false
  pub not_swapped : f.swap_greed ≡ false
  pub not_oniguruma : f.oniguruma_mode ≡ false

pub kept_unicode : (u : Bool) → Kept (unicode_flags u)
kept_unicode u = record { no_space = refl; not_swapped = refl; not_oniguruma = refl }

pub kept_case : (u i : Bool) → Kept (case_flags u i)
kept_case u i = record { no_space = refl; not_swapped = refl; not_oniguruma = refl }

-- ---- trees that have groups without a name, and no reference

abbrev pub OnlyGroups : List Item → Type 0
OnlyGroups [] = Unit {0}
OnlyGroups (opening o ∷ l) = (o.name ≡ None) × OnlyGroups l
OnlyGroups (reference r p ∷ l) = ⊥

groups_append : (l m : List Item) → OnlyGroups l → OnlyGroups m → OnlyGroups (l ++ m)
groups_append [] m h k = k
groups_append (opening o ∷ l) m h k = (h.0, groups_append l m h.1 k)
groups_append (reference r p ∷ l) m h k = absurd h

abbrev pub HasGroups : Tree → Type 0
HasGroups t = OnlyGroups (items t)

abbrev pub EachHasGroups : List Tree → Type 0
EachHasGroups l = AllByRecursion HasGroups l

all_groups : (l : List Tree) → EachHasGroups l → OnlyGroups (items_all (trees_of l))
all_groups [] h = tt
all_groups (t ∷ l) h = groups_append (items t) (items_all (trees_of l)) h.0 (all_groups l h.1)

-- a raw tree of that kind that resolves to x, whatever is around it
pub record Becomes (r x : Tree) : Type 0 where
  pub is : (n : ℕ) (numbers_of : Text → List ℕ) (c : ℕ) → resolved_in n false numbers_of c r ≡ x
  pub groups : OnlyGroups (items r)

-- each of the trees becomes the one at its index
abbrev pub EachBecomes : List Tree → List Tree → Type 0
EachBecomes l m = AllZip Becomes l m

-- ---- what resolving keeps

no_numbers : Text → List ℕ
no_numbers u = []

resolved_repeatable : (f : Flags) (t : Tree) → OnlyGroups (items t) →
    is_repeatable f (resolved_in 0 false no_numbers 0 t) ≡ is_repeatable f t
resolved_repeatable f (ast_group m p t) h = refl
resolved_repeatable f (ast_node r p) h = absurd h
resolved_repeatable f _ h = refl

same_repeatable : (f : Flags) {r x : Tree} → Becomes r x → is_repeatable f r ≡ is_repeatable f x
same_repeatable f {r} b = sym (resolved_repeatable f r b.groups) ∙ ap (is_repeatable f) (b.is 0 no_numbers 0)

resolved_empty : (t : Tree) → OnlyGroups (items t) → is_empty (resolved_in 0 false no_numbers 0 t) ≡ is_empty t
resolved_empty (ast_group m p t) h = refl
resolved_empty (ast_node r p) h = absurd h
resolved_empty _ h = refl

same_empty : {r x : Tree} → Becomes r x → is_empty r ≡ is_empty x
same_empty {r} b = sym (resolved_empty r b.groups) ∙ ap is_empty (b.is 0 no_numbers 0)

solid_cond : (t : Tree) (l : List Tree) (b : Bool) → is_empty t ≡ b → solid l ≡ l →
    solid (if b then l else t ∷ l) ≡ (if b then l else t ∷ l)
solid_cond t l true e h = h
solid_cond t l false e h = cond-false _ _ _ e ∙ ap (λ m. t ∷ m) h

pub solid_solid : (l : List Tree) → solid (solid l) ≡ solid l
solid_solid [] = refl
solid_solid (t ∷ l) = solid_cond t (solid l) (is_empty t) refl (solid_solid l)

pub join_one : (x : Tree) → join (solid (x ∷ [])) ≡ x
join_one empty = refl
join_one _ = refl

each_groups : (l m : List Tree) → EachBecomes l m → EachHasGroups l
each_groups [] [] h = tt
each_groups (r ∷ l) (x ∷ m) h = (h.0.groups, each_groups l m h.1)
each_groups _ _ h = absurd h

each_resolved : (l m : List Tree) → EachBecomes l m → (n : ℕ) (numbers_of : Text → List ℕ) (c : ℕ) →
    resolved_all n false numbers_of c (trees_of l) ≡ trees_of m
each_resolved [] [] h n u c = refl
each_resolved (r ∷ l) (x ∷ m) h n u c = ap₂ tree.more_trees (h.0.is n u c) (each_resolved l m h.1 n u _)
each_resolved _ _ h n u c = absurd h

one_becomes : (w : Row) (l m : List Tree) → EachBecomes l m → Becomes (one_or (row w) l) (one_or (row w) m)
one_becomes w [] [] h = record { is = λ n u c. refl; groups = tt }
one_becomes w (r ∷ []) (x ∷ []) h = h.0
one_becomes w (r ∷ s ∷ l) (x ∷ y ∷ m) h = record {
  is = λ n u c. ap (row w) (each_resolved (r ∷ s ∷ l) (x ∷ y ∷ m) h n u c);
  groups = all_groups (r ∷ s ∷ l) (each_groups (r ∷ s ∷ l) (x ∷ y ∷ m) h);
}
one_becomes w (r ∷ []) (x ∷ y ∷ m) h = absurd h.1
one_becomes w (r ∷ s ∷ l) (x ∷ []) h = absurd h.1
one_becomes w _ _ h = absurd h

append_becomes : (l m a b : List Tree) → EachBecomes l m → EachBecomes a b → EachBecomes (l ++ a) (m ++ b)
append_becomes [] [] a b h k = k
append_becomes (r ∷ l) (x ∷ m) a b h k = (h.0, append_becomes l m a b h.1 k)
append_becomes _ _ a b h k = absurd h

solid_both : (b d : Bool) (r x : Tree) (l m : List Tree) → b ≡ d → Becomes r x → EachBecomes l m →
    EachBecomes (if b then l else r ∷ l) (if d then m else x ∷ m)
solid_both true true r x l m e h k = k
solid_both false false r x l m e h k = (h, k)
solid_both _ _ r x l m e h k = absurd cc

solid_becomes : (l m : List Tree) → EachBecomes l m → EachBecomes (solid l) (solid m)
solid_becomes [] [] h = tt
solid_becomes (r ∷ l) (x ∷ m) h =
    solid_both (is_empty r) (is_empty x) r x (solid l) (solid m) (same_empty h.0) h.0 (solid_becomes l m h.1)
solid_becomes _ _ h = absurd h

-- ---- what the text from s to v is read as: a tree that becomes x

pub record AtomAs (d : ℕ) (f : Flags) (s v : Text) (x : Tree) : Type 0 where
  pub tree : Tree
  pub derives : Atom d (st f s) (done tree (st f v))
  pub becomes : Becomes tree x

pub record BranchAs (d : ℕ) (f : Flags) (s v : Text) (x : Tree) : Type 0 where
  pub tree : Tree
  pub derives : Branch d (st f s) (done tree (st f v))
  pub becomes : Becomes tree x

pub record WholeAs (d : ℕ) (f : Flags) (s v : Text) (x : Tree) : Type 0 where
  pub tree : Tree
  pub derives : Alternation d (st f s) (done tree (st f v))
  pub becomes : Becomes tree x

pub record BranchesAs (d : ℕ) (f : Flags) (s v : Text) (ys : List Tree) : Type 0 where
  pub trees : List Tree
  pub derives : Branches d (st f s) (done trees (st f v))
  pub become : EachBecomes trees ys

-- the pieces from s to v, whatever pieces follow; without the Empties, these are the trees
pub record Run (d : ℕ) (f : Flags) (s v : Text) (ys : List Tree) : Type 0 where
  pub trees : List Tree
  pub pieces : (q : Outcome (List Tree)) → Pieces d (st f v) q → Pieces d (st f s) (trees_before trees q)
  pub resolved : List Tree
  pub become : EachBecomes trees resolved
  pub are : solid resolved ≡ ys

pub no_run : (d : ℕ) (f : Flags) (v : Text) → Run d f v v []
no_run d f v = record {
  trees = [];
  pieces = λ q p. subst (Pieces d (st f v)) (sym (before-nil q)) p;
  resolved = [];
  become = tt;
  are = refl;
}

before_append : (l m : List Tree) (q : Outcome (List Tree)) →
    trees_before l (trees_before m q) ≡ trees_before (l ++ m) q
before_append l m (done k s) = ap (λ n. done n s) (sym (append_assoc l m k))
before_append l m (failed e) = refl

pub run_chain : {d : ℕ} {f : Flags} {s t v : Text} {xs ys : List Tree} → Run d f s t xs → Run d f t v ys →
    Run d f s v (xs ++ ys)
run_chain {d} {f} {s} p q = record {
  trees = p.trees ++ q.trees;
  pieces =
      λ o r. subst (Pieces d (st f s)) (before_append p.trees q.trees o)
      (p.pieces (trees_before q.trees o) (q.pieces o r));
  resolved = p.resolved ++ q.resolved;
  become = append_becomes p.trees p.resolved q.trees q.resolved p.become q.become;
  are = solid-append p.resolved q.resolved ∙ ap₂ (λ a b. a ++ b) p.are q.are;
}

run_piece : {d : ℕ} {f : Flags} {s v : Text} (r x : Tree) → Piece d (st f s) (done r (st f v)) →
    states.ends s ≡ false → Becomes r x → Run d f s v (solid (x ∷ []))
run_piece r x p e b = record {
  trees = r ∷ [];
  pieces = λ q m. next e p m;
  resolved = x ∷ [];
  become = (b, tt);
  are = refl;
}

skip_here : (f : Flags) (s : Text) → Kept f → after_comment_start s ≡ None → skipped (st f s) ≡ rest s
skip_here f s k e = ap (λ x. layout x s) k.no_space ∙ no_layout s e

-- ---- pieces

quants_one : (d left : ℕ) (f : Flags) (a b : Tree) (s v : Text) → Kept f →
    quant left a (st f s) ≡ done b (st f v) → quants d left a (st f s) ≡ done b (st f v)
quants_one d left f a b s v k e =
    ap (λ q. and_then q (λ b t. if t.flags.oniguruma_mode then adjacent max_adjacent d b t else done b t)) e
    ∙ cond-false _ _ _ k.not_oniguruma

quant_none : (left : ℕ) (f : Flags) (a : Tree) (v : Text) → Kept f → Clear v →
    quant left a (st f v) ≡ done a (st f v)
unfolding quant
quant_none left f a v k c =
    after_rest _ _ (skip_here f v k c.no_comment)
    ∙ ap (quantified.with_counts left a (st f v)) (clear_counts f.ignore_space v c)

-- an atom that no quantifier follows
pub reads_piece : (d : ℕ) (f : Flags) (s v : Text) (x : Tree) → Kept f → states.ends s ≡ false →
    after_comment_start s ≡ None → Clear v → AtomAs d f s v x → Run d f s v (solid (x ∷ []))
reads_piece d f s v x k e o c a =
    run_piece a.tree x
    (piece_as (skip_here f s k o) a.derives
    (quants_one d (bytes s) f a.tree a.tree v v k (quant_none (bytes s) f a.tree v k c)))
    e a.becomes

greed : (f : Flags) (lazy greedy : Bool) → f.swap_greed ≡ false → not lazy ≡ greedy →
    quantified.is_greedy f lazy ≡ greedy
greed f lazy greedy e h = cond-false _ _ _ e ∙ h

-- the tree under a quantifier without the possessive operator
quantified_as : (f : Flags) (a : Tree) (c : Counts) (b greedy : Bool) → Kept f → not b ≡ greedy →
    quantified.quantified f c (record { lazy = b; possessive = false }) a ≡ repeat a c.low c.high greedy
quantified_as f a c b greedy k h =
    cond-false _ _ _ (ap (λ o. o && nat_lt c.high c.low) k.not_oniguruma)
    ∙ ap (λ g. repeat a c.low c.high g) (greed f b greedy k.not_swapped h)

same_if : {A : Type 0} (b : Bool) (x : A) → (if b then x else x) ≡ x
same_if true x = refl
same_if false x = refl

-- no possessive operator follows
no_possessive : (f : Flags) (c : Counts) (b : Bool) (s v : Text) → Clear v →
    after_lazy (st f s) c b v ≡ done (record { lazy = b; possessive = false }) (st f v)
no_possessive f c b s v k = rw (clear_plus v k) (same_if (may_be_possessive f c) _)

lazy_read : (f : Flags) (c : Counts) (v : Text) (greedy : Bool) → Kept f → Clear v →
    suffix (st f (lazy greedy ++ v)) c ≡ done (record { lazy = not greedy; possessive = false }) (st f v)
lazy_read f c v true k h =
    after_rest _ _ (skip_here f v k h.no_comment)
    ∙ ap (λ o. choose o (after_lazy (st f v) c true) (after_lazy (st f v) c false v)) (clear_lazy v h)
    ∙ no_possessive f c false v v h
lazy_read f c v false k h =
    after_rest _ _ (skip_here f (code "?" ∷ v) k refl)
    ∙ no_possessive f c true (code "?" ∷ v) v h

quant_some : (left : ℕ) (f : Flags) (a : Tree) (q v : Text) (lo hi : ℕ) (greedy : Bool) → Kept f → Clear v →
    IsQuantifier lo hi greedy v q → is_repeatable f a ≡ true →
    quant left a (st f q) ≡ done (repeat a lo hi greedy) (st f v)
unfolding quant
quant_some left f a q v lo hi greedy k c m r =
    let read_counts : Counts = record { low = lo; high = hi; braces = m.braces } in
    after_rest _ _ (skip_here f q k m.no_comment)
    ∙ ap (λ x. quantified.with_counts left a (st f q) (counts x q)) k.no_space
    ∙ ap (quantified.with_counts left a (st f q)) m.counts
    ∙ cond-true _ _ _ r
    ∙ ap (mapped (λ m. quantified.quantified f read_counts m a)) (lazy_read f read_counts v greedy k c)
    ∙ ap (λ x. done x (st f v)) (quantified_as f a read_counts (not greedy) greedy k (not-not greedy))

-- an atom under a quantifier
pub reads_repeat : (d : ℕ) (f : Flags) (s q v : Text) (x : Tree) (lo hi : ℕ) (greedy : Bool) → Kept f →
    states.ends s ≡ false → after_comment_start s ≡ None → Clear v → IsQuantifier lo hi greedy v q →
    is_repeatable f x ≡ true → AtomAs d f s q x → Run d f s v (repeat x lo hi greedy ∷ [])
reads_repeat d f s q v x lo hi greedy k e o c m r a =
    let b = a.becomes in
    let repeatable : is_repeatable f a.tree ≡ true = same_repeatable f b ∙ r in
    run_piece (repeat a.tree lo hi greedy) (repeat x lo hi greedy)
    (piece_as (skip_here f s k o) a.derives
    (quants_one d (bytes s) f a.tree (repeat a.tree lo hi greedy) q v k
    (quant_some (bytes s) f a.tree q v lo hi greedy k c m repeatable)))
    e (record { is = λ n u c. ap (λ y. repeat y lo hi greedy) (b.is n u c); groups = b.groups })

-- ---- branches

pub reads_branch : {d : ℕ} {f : Flags} {s v : Text} {ys : List Tree} (x : Tree) → Run d f s v ys → join ys ≡ x →
    Stops v → BranchAs d f s v x
reads_branch {d} {f} {s} {v} x r e h = record {
  tree = join (r.trees ++ []);
  derives = branch (r.pieces (done [] (st f v)) (stop h.ends));
  becomes =
      let same = ap (one_or concat) (sym (solid_solid r.resolved)) ∙ ap join r.are ∙ e in
      let joined =
      one_becomes label.concat (solid r.trees) (solid r.resolved) (solid_becomes r.trees r.resolved r.become) in
      subst (λ l. Becomes (join l) x) (sym (append-nil r.trees)) (subst (Becomes (join r.trees)) same joined);
}

pub reads_last : (d : ℕ) (f : Flags) (s v : Text) (x : Tree) → BranchAs d f s v x → Ends v →
    BranchesAs d f s v (x ∷ [])
reads_last d f s v x b e = record {
  trees = b.tree ∷ [];
  derives = last b.derives e.no_bar;
  become = (b.becomes, tt);
}

pub reads_more : (d : ℕ) (f : Flags) (s t v : Text) (x : Tree) (ys : List Tree) → BranchAs d f s (code "|" ∷ t) x →
    BranchesAs d f t v ys → BranchesAs d f s v (x ∷ ys)
reads_more d f s t v x ys b bs = record {
  trees = b.tree ∷ bs.trees;
  derives = more b.derives refl bs.derives;
  become = (b.becomes, bs.become);
}

pub reads_whole : (d : ℕ) (f : Flags) (s v : Text) (ys : List Tree) → BranchesAs d f s v ys →
    WholeAs d f s v (choice ys)
reads_whole d f s v ys b = record {
  tree = choice b.trees;
  derives = alternation b.derives;
  becomes = one_becomes label.alt b.trees ys b.become;
}

pub reads_only : (d : ℕ) (f : Flags) (s v : Text) (x : Tree) → BranchAs d f s v x → Ends v → WholeAs d f s v x
reads_only d f s v x b e = reads_whole d f s v (x ∷ []) (reads_last d f s v x b e)

-- ---- groups

not_deep : (d : ℕ) → d + 1 < max_depth → nat_le max_depth (d + 1) ≡ false
not_deep d h = grind (arith, nat_tests)

opening_at : (d : ℕ) (f : Flags) (t : Text) → Kept f → d + 1 < max_depth → after_comment_start t ≡ None →
    atom_start d (st f (code "(" ∷ t)) ≡ group_start (st f (code "(" ∷ t)) t
unfolding atom_start
opening_at d f t k l o = cond-false _ _ _ (not_deep d l)
    ∙ after_rest (group_start (st f (code "(" ∷ t))) error_start (skip_here f t k o)

-- a parenthesis without a group kind after it
capture_start : (f : Flags) (s t : Text) → Clear t → group_start (st f s) t ≡ of_kind (capture None) (st f t)
capture_start f s t c = rw (clear_lazy t c, clear_star t c) refl

group_at : (d : ℕ) (f : Flags) (s : Text) → Kept f → d + 1 < max_depth → Clear s →
    atom_start d (st f (code "(" ∷ s)) ≡ of_kind (capture None) (st f s)
group_at d f s k l c = opening_at d f s k l c.no_comment ∙ capture_start f (code "(" ∷ s) s c

-- a capturing group
pub reads_group : (d : ℕ) (f : Flags) (s v : Text) (x : Tree) → Kept f → d + 1 < max_depth → Clear s →
    WholeAs (d + 1) f s (code ")" ∷ v) x → AtomAs d f (code "(" ∷ s) v (tree.group x)
reads_group d f s v x k l c w = record {
  tree = ast_group None (reach_of (code "(" ∷ s)) w.tree;
  derives = atom (group_at d f s k l c) (a_group (inside w.derives));
  becomes = record { is = λ n u c. ap tree.group (w.becomes.is n u (c + 1)); groups = (refl, w.becomes.groups) };
}

-- a group of flags, whose letters do not begin as another group kind does
pub flag_group_at : (d : ℕ) (f g : Flags) (t u : Text) → Kept f → d + 1 < max_depth →
    after_comment_start (code "?" ∷ t) ≡ None →
    after_question (st f (code "(" ∷ code "?" ∷ t)) t ≡ flags_start (letters f t) →
    letters f t ≡ gives (scoped g) u →
    atom_start d (st f (code "(" ∷ code "?" ∷ t)) ≡ of_kind flag_group (st g u)
flag_group_at d f g t u k l o q e = opening_at d f (code "?" ∷ t) k l o ∙ q ∙ ap flags_start e

pub reads_flag_group : (d : ℕ) (f g : Flags) (s t v : Text) (x : Tree) →
    atom_start d (st f s) ≡ of_kind flag_group (st g t) →
    WholeAs (d + 1) g t (code ")" ∷ v) x → AtomAs d f s v x
reads_flag_group d f g s t v x e w =
    record { tree = w.tree; derives = atom e (a_group (inside w.derives)); becomes = w.becomes }

-- with more than k letters left to read
abbrev pub Spelled : Text → ℕ → Bool → Flags → Text → Letters → Text → Type 0
Spelled t k c f u l w = (j : ℕ) → k < j → letters_in t j c f u ≡ gives l w

module _ (t : Text) (c : Bool) (f : Flags) (u : Text) (h : Kept f) (o : after_comment_start u ≡ None) where
  pub last_letter : (l : Letters) (w : Text) → step t c f u ≡ gives (flags_end l) w → Spelled t 0 c f u l w
  last_letter l w e j m = in_end t c f u j 0 m u (ap layout_reading (skip_here f u h o)) l w e

  pub more_letters : (k : ℕ) (b : Bool) (g : Flags) (v : Text) (l : Letters) (w : Text) →
      step t c f u ≡ gives (flags_go_on b g) v → Spelled t k b g v l w → Spelled t (k + 1) c f u l w
  more_letters k b g v l w e r j m =
      let (i, q, same) =
      in_go t c f u j (k + 1) m u (ap layout_reading (skip_here f u h o)) k b g v (omega arith) e in
      same ∙ r i q

pub spelled : (k : ℕ) (f : Flags) (t : Text) (l : Letters) (w : Text) → Spelled t k false f t l w → k ≤ bytes t →
    letters f t ≡ gives l w
spelled k f t l w h m = letters_start f t ∙ h (suc (bytes t)) (omega arith)

colon : (f : Flags) (s : Text) → Kept f → letters f (code ":" ∷ s) ≡ gives (scoped f) s
colon f s k =
    spelled 0 f (code ":" ∷ s) (scoped f) s
    (last_letter (code ":" ∷ s) false f (code ":" ∷ s) k refl (scoped f) s refl)
    (omega arith)

grouped_at : (d : ℕ) (f : Flags) (s : Text) → Kept f → d + 1 < max_depth →
    atom_start d (st f (code "(" ∷ code "?" ∷ code ":" ∷ s)) ≡ of_kind flag_group (st f s)
grouped_at d f s k l = flag_group_at d f f (code ":" ∷ s) s k l refl refl (colon f s k)

-- `(?:`
pub reads_grouped : (d : ℕ) (f : Flags) (s v : Text) (x : Tree) → Kept f → d + 1 < max_depth →
    WholeAs (d + 1) f s (code ")" ∷ v) x → AtomAs d f (code "(" ∷ code "?" ∷ code ":" ∷ s) v x
reads_grouped d f s v x k l w = reads_flag_group d f f (code "(" ∷ code "?" ∷ code ":" ∷ s) s v x
    (grouped_at d f s k l) w

-- one letter and a colon
pub one_letter : (f g : Flags) (c : ℕ) (s : Text) → Kept f → Kept g →
    after_comment_start (c ∷ code ":" ∷ s) ≡ None →
    step (c ∷ code ":" ∷ s) false f (c ∷ code ":" ∷ s) ≡ gives (flags_go_on false g) (code ":" ∷ s) →
    letters f (c ∷ code ":" ∷ s) ≡ gives (scoped g) s
unfolding bytes
one_letter f g c s k m o e =
    let t = c ∷ code ":" ∷ s in
    spelled 1 f t (scoped g) s
    (more_letters t false f t k o 0 false g (code ":" ∷ s) (scoped g) s e
    (last_letter t false g (code ":" ∷ s) m refl (scoped g) s refl)) (omega arith)

pub two_letters : (f g h : Flags) (b c : ℕ) (s : Text) → Kept f → Kept g → Kept h → 1 ≤ bytes (b ∷ []) →
    after_comment_start (b ∷ c ∷ code ":" ∷ s) ≡ None → after_comment_start (c ∷ code ":" ∷ s) ≡ None →
    step (b ∷ c ∷ code ":" ∷ s) false f (b ∷ c ∷ code ":" ∷ s) ≡ gives (flags_go_on false g) (c ∷ code ":" ∷ s) →
    step (b ∷ c ∷ code ":" ∷ s) false g (c ∷ code ":" ∷ s) ≡ gives (flags_go_on false h) (code ":" ∷ s) →
    letters f (b ∷ c ∷ code ":" ∷ s) ≡ gives (scoped h) s
unfolding bytes
two_letters f g h b c s k m p z o q e r =
    let t = b ∷ c ∷ code ":" ∷ s in
    spelled 2 f t (scoped h) s
    (more_letters t false f t k o 1 false g (c ∷ code ":" ∷ s) (scoped h) s e
    (more_letters t false g (c ∷ code ":" ∷ s) m q 0 false h (code ":" ∷ s) (scoped h) s r
    (last_letter t false h (code ":" ∷ s) p refl (scoped h) s refl))) (omega arith)

-- `(?i:`
pub reads_caseless : (d : ℕ) (u : Bool) (s v : Text) (x : Tree) → d + 1 < max_depth →
    WholeAs (d + 1) (case_flags u true) s (code ")" ∷ v) x →
    AtomAs d (unicode_flags u) (code "(" ∷ code "?" ∷ code "i" ∷ code ":" ∷ s) v x
reads_caseless d u s v x l w =
    let f = unicode_flags u in
    let g = case_flags u true in
    reads_flag_group d f g (code "(" ∷ code "?" ∷ code "i" ∷ code ":" ∷ s) s v x
    (flag_group_at d f g (code "i" ∷ code ":" ∷ s) s (kept_unicode u) l refl refl
    (one_letter f g (code "i") s (kept_unicode u) (kept_case u true) refl refl)) w

-- ---- leaves

pub reads_leaf : (d : ℕ) (f : Flags) (s v : Text) (x : Tree) → atom_start d (st f s) ≡ read (done x (st f v)) →
    Becomes x x → AtomAs d f s v x
reads_leaf d f s v x e b = record { tree = x; derives = atom e a_read; becomes = b }

pub leaf_at : (d : ℕ) (f : Flags) (c : ℕ) (t : Text) → (c == code "(") ≡ false → begins_no_atom c ≡ false →
    atom_start d (st f (c ∷ t)) ≡ read (leaf_of (st f (c ∷ t)) c t)
unfolding atom_start
leaf_at d f c t a b = cond-false _ _ _ a ∙ cond-false _ _ _ b

plain_leaf : (d : ℕ) (f : Flags) (c : ℕ) (v : Text) → after_backslash c ≡ None →
    atom_start d (st f (c ∷ v)) ≡ read (done (literal (c ∷ []) f.casei) (st f v))
plain_leaf d f c v e =
    let is_not = apart needs_backslash c (after_none c e) in
    leaf_at d f c v (is_not (code "(") refl)
    (rw (
      is_not (code "+") refl,
      is_not (code "*") refl,
      is_not (code "?") refl,
      is_not (code "|") refl,
      is_not (code ")") refl,
    ) refl)
    ∙ rw (
      is_not (code ".") refl,
      is_not (code "^") refl,
      is_not (code "$") refl,
      is_not (code "\\") refl,
      is_not (code "[") refl,
    ) refl

-- a character, as it is printed
pub reads_char : (d : ℕ) (f : Flags) (c : ℕ) (v : Text) (o : Option ℕ) → after_backslash c ≡ o →
    AtomAs d f (put_as c o v) v (literal (c ∷ []) (f.casei && is_none o))
reads_char d f c v None e =
    reads_leaf d f (c ∷ v) v (literal (c ∷ []) (f.casei && true))
    (plain_leaf d f c v e ∙ ap (λ b. read (done (literal (c ∷ []) b) (st f v))) (sym (and-true f.casei)))
    (record { is = λ n u c. refl; groups = tt })
reads_char d f c v (Some x) e =
    reads_leaf d f (code "\\" ∷ x ∷ v) v (literal (c ∷ []) (f.casei && false))
    (leaf_at d f (code "\\") (x ∷ v) refl refl
    ∙ ap (λ r. read (leaf_outcome leaf_node (st f (code "\\" ∷ x ∷ v)) r))
    (after_some c x e f v)
    ∙ ap (λ b. read (done (literal (c ∷ []) b) (st f v))) (sym (and-false f.casei)))
    (record { is = λ n u c. refl; groups = tt })

-- ---- errors

-- a group that is too deep
pub fails_deep : (d : ℕ) (f : Flags) (t : Text) → max_depth ≤ d + 1 →
    Atom d (st f (code "(" ∷ t)) (failed (group_too_deep (code "(" ∷ t)))
unfolding atom_start
fails_deep d f t h =
    let deep : nat_le max_depth (d + 1) ≡ true = le-leb max_depth (d + 1) h in atom (cond-true _ _ _ deep) a_read

module _ (d : ℕ) (f : Flags) (error : Located) where
  fails_kind : (g : Flags) (h : GroupKind) (s t : Text) → atom_start d (st f s) ≡ of_kind h (st g t) →
      Alternation (d + 1) (st g t) (failed error) → Atom d (st f s) (failed error)
  fails_kind g h s t e w = atom e (a_group (inside w))

  pub fails_group : (s : Text) → Kept f → d + 1 < max_depth → Clear s → Alternation (d + 1) (st f s) (failed error) →
      Atom d (st f (code "(" ∷ s)) (failed error)
  fails_group s h l c w = fails_kind f (capture None) (code "(" ∷ s) s (group_at d f s h l c) w

  pub fails_grouped : (s : Text) → Kept f → d + 1 < max_depth → Alternation (d + 1) (st f s) (failed error) →
      Atom d (st f (code "(" ∷ code "?" ∷ code ":" ∷ s)) (failed error)
  fails_grouped s h l w = fails_kind f flag_group (code "(" ∷ code "?" ∷ code ":" ∷ s) s (grouped_at d f s h l) w

  pub fails_piece : (s : Text) → Kept f → states.ends s ≡ false → after_comment_start s ≡ None →
      Atom d (st f s) (failed error) → Pieces d (st f s) (failed error)
  fails_piece s h e o a = piece_error e (piece (skip_here f s h o) a)

  pub fails_first : (s : Text) → Pieces d (st f s) (failed error) → Branches d (st f s) (failed error)
  fails_first s q = branch_error (branch q)

  pub fails_more : (s t : Text) (x : Tree) → BranchAs d f s (code "|" ∷ t) x → Branches d (st f t) (failed error) →
      Branches d (st f s) (failed error)
  fails_more s t x b q = more b.derives refl q

  pub fails_whole : (s : Text) → Branches d (st f s) (failed error) → Alternation d (st f s) (failed error)
  fails_whole s q = alternation q

-- ---- a whole text

pub reads_text : (f : Flags) (s : Text) (x : Tree) → WholeAs 0 f s [] x →
    (r : Tree) × DerivesTree f s r × Becomes r x
reads_text f s x w = (w.tree, (_, whole w.derives), w.becomes)

pub fails_text : (f : Flags) (s : Text) (e : Located) (p : ℕ) → Alternation 0 (st f s) (failed e) →
    IsPositionOf (bytes s) e.reach p → FailsWith f s e.kind p
fails_text f s e p w at = (e.reach, whole w, at)
