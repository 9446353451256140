-- What is true of everything that is read: where it is, which nodes it has, and how large it is. By one induction on
-- the derivation; the start of an atom decides which rule applies.
use Rattle.std.proofs.Common.{◌≡◌, ℕ, zero, suc, ◌+◌, ◌<◌, ◌≤◌, ◌∷◌, [], ◌++◌, List, sym, ap, ◌∙◌, subst, arith}
use Rattle.std.proofs.Common.{Bool, true, false, Option, Some, None, append-nil, length, ◌*◌, ◌-◌}
use Rattle.std.specs.Prelude.{◌==◌, not, nat_lt, IfSome, ◌&&◌}
use Rattle.std.proofs.lemmas.Bool.{cond_both}
use Rattle.std.specs.List.{AllByRecursion}
use Rattle.std.proofs.lemmas.Bool.Decides.{nat_tests}
use Prim.Native.Char.{code}
use Rattle.fancy_lex.proofs.LeaveLaws.{lies_before, lies_at_end}
use Rattle.fancy_lex.proofs.ReadingLemmas.{choose_both}
use Rattle.fancy_lex.specs.Located.{Located}
use Rattle.fancy_lex.specs.Text.{Text, bytes, reach_of, strip}
use Rattle.fancy_lex.specs.declared.flags.Flags.{Flags}
use Rattle.fancy_lex.specs.Reading.{choose}
use Rattle.fancy_lex.proofs.CountLaws.{Closed, closes_counts}
use Rattle.fancy_lex.specs.Quantifier.{counts}
use Rattle.fancy_lex.specs.declared.counts.Counts.{Counts}
use Rattle.fancy_grammar.specs.AtomStart.{AtomStart}
use Rattle.fancy_grammar.specs.Depth.{max_depth, levels_at_depth, max_levels}
use Rattle.fancy_grammar.specs.Grammar.{Alternation, alternation, Branches, last, more, branch_error, Branch, branch}
use Rattle.fancy_grammar.specs.Grammar.{Pieces, stop, next, piece_error, Piece, piece, layout_error, Atom, atom, AtomOf}
use Rattle.fancy_grammar.specs.Grammar.{a_nothing, a_read, a_group, a_condition, condition_error, a_body, two_branches}
use Rattle.fancy_grammar.specs.Grammar.{one_branch, absent_error, Inside, inside, Body, the_body, Whole, whole, start}
use Rattle.fancy_grammar.specs.Grammar.{closed, not_closed, ended, branches_of, conditional_of}
use Rattle.fancy_grammar.specs.Grammar.{conditional_after, is_condition, clear_or_stopper}
use Rattle.fancy_grammar.specs.GroupKind.{GroupKind, capture, flag_group, look, atomic, define, repeater, group_node}
use Rattle.fancy_grammar.specs.Items.{items}
use Rattle.fancy_grammar.specs.Quantified.{quants, adjacent, max_adjacent, is_unmoved, quant, with_counts}
use Rattle.fancy_grammar.specs.Quantified.{suffix, after_lazy, may_be_possessive, is_repeatable, is_dropped}
use Rattle.fancy_grammar.specs.Quantified.{Suffix}
use Rattle.fancy_grammar.specs.Slices.{Slice}
use Rattle.fancy_grammar.specs.State.{skipped, State, at, Outcome, done, failed}
use Rattle.fancy_grammar.specs.Tree.{Tree, expression, levels, nodes}
use Rattle.fancy_grammar.proofs.Ordered.{DescendingReaches, reach_of_item}
use Rattle.fancy_grammar.proofs.OutcomeLemmas.{after_keeps, skipped_both}
use Rattle.fancy_grammar.proofs.Slices.{MayLie, ItemSpan, Reads, current, on, fits, one, one_bytes, strip_slice}
use Rattle.fancy_grammar.proofs.Slices.{strip_bytes, cut_slice, to_ends, lies_at, lies_in, raised, lowered, bare}
use Rattle.fancy_grammar.proofs.Slices.{then, before, after, listed, opened, SkippedSlice, layout_slice}
use Rattle.fancy_grammar.proofs.Slices.{skipped_slice, then_reads, open_comment_lies}
use Rattle.fancy_grammar.proofs.TreeLaws.{items_of, items_choice, items_join, items_quantified, items_conditional}
use Rattle.fancy_grammar.proofs.TreeLaws.{items_branches, items_clear_or_stopper, IsRead, AreRead, leaf_is_read}
use Rattle.fancy_grammar.proofs.TreeLaws.{all_read, join_read, choice_read, quantified_read, node_read}
use Rattle.fancy_grammar.proofs.TreeLaws.{conditional_of_read, branches_read, clear_or_stopper_read, sizes, weight}
use Rattle.fancy_grammar.proofs.TreeLaws.{weights, widest, weight_most, join_size, join_levels, some_choice_size}
use Rattle.fancy_grammar.proofs.TreeLaws.{choice_levels, branches_size, branches_levels, conditional_size}
use Rattle.fancy_grammar.proofs.TreeLaws.{conditional_levels, node_over, clear_or_stopper_over, repeatable_solid}
use Rattle.fancy_grammar.proofs.TreeLaws.{solid_weight, quantified_over, leaf_size}
use Rattle.fancy_grammar.proofs.AtomStartLaws.{Past, IsLeaf, StartReads, start_reads, OpensBelow, start_below}

-- a tree that is read from s up to t: its groups and references, its nodes, and a bound on its size
pub record Part (Size : Tree → State → Type 0) (s : State) (r : Tree) (t : State) : Type 0 where
  pub span : ItemSpan (items r) s.rest t.rest
  pub read : IsRead r
  pub size : Size r t

-- trees that are read one after another
pub record Parts (Size : List Tree → State → Type 0) (s : State) (l : List Tree) (t : State) : Type 0 where
  pub span : ItemSpan (items_of l) s.rest t.rest
  pub read : AreRead l
  pub size : Size l t

-- the same part under another bound
resized : (P Q : Tree → State → Type 0) (s : State) (o : Outcome Tree) → ((b : Tree) (v : State) → P b v → Q b v) →
    Reads (Part P s) s o → Reads (Part Q s) s o
resized P Q s (done b v) f h = record { span = h.span; read = h.read; size = f b v h.size }
resized P Q s (failed e) f h = h

-- ---- quantifiers

pub suffix_reads : (w : State) (c : Counts) → Reads (λ (m : Suffix) v. Slice w.rest v.rest) w (suffix w c)
suffix_reads w c =
    skipped_both W (skipped w) _ _ (λ t e. by_operators t (skipped_slice w t e)) (open_comment_lies w)
  where
    W : Outcome Suffix → Type 0
    W = Reads (λ (m : Suffix) v. Slice w.rest v.rest) w

    after_operator : (lazy : Bool) (t : Text) → Slice w.rest t → W (after_lazy w c lazy t)
    after_operator lazy t i =
        cond_both (may_be_possessive w.flags c) _ _ W
        (λ _. choose_both W (strip (code "+") t) _ _ (λ u e. on i (strip_slice (code "+") t u e)) i) (λ _. i)

    by_operators : (t : Text) → Slice w.rest t →
        W (choose (strip (code "?") t) (after_lazy w c true) (after_lazy w c false t))
    by_operators t i =
        choose_both W (strip (code "?") t) _ _ (λ u e. after_operator true u (on i (strip_slice (code "?") t u e)))
        (after_operator false t i)

-- a quantifier has at least one byte for each level that it adds, and for each two nodes; it adds at most two levels
abbrev Grows : Tree → State → Tree → State → Type 0
Grows a s b t =
    (weight b + 2 * bytes t.rest ≤ weight a + 2 * bytes s.rest)
    × (levels b + 2 * bytes t.rest ≤ levels a + 2 * bytes s.rest)
    × (levels b ≤ levels a + 2)

-- the same for this many quantifiers
abbrev GrowsBy : ℕ → Tree → State → Tree → State → Type 0
GrowsBy k a s b t = (weight b + 2 * bytes t.rest ≤ weight a + 2 * bytes s.rest) × (levels b ≤ levels a + 2 * k)

-- for a tree that is read from s up to t
quant_read : (left : ℕ) (a : Tree) (s t : State) → ItemSpan (items a) s.rest t.rest → IsRead a →
    Reads (Part (Grows a t) s) s (quant left a t)
unfolding quant
quant_read left a s t h n =
    skipped_both (Reads P s) (skipped t) _ _ (λ v e.
    by_counts v (counts t.flags.ignore_space v) (skipped_slice t v e) (closes_counts t.flags.ignore_space v))
    (λ p e. lies_in h.slice (open_comment_lies t p e))
  where
    P : Tree → State → Type 0
    P = Part (Grows a t) s

    by_counts : (v : Text) (o : Option (Counts × Text)) → Slice t.rest v → IfSome o (λ p. Closed v p.1) →
        Reads P s (with_counts left a (at t v) o)
    by_counts v None l i = record {
      span = after h l;
      read = n;
      size = (omega (arith, fits l), omega (arith, fits l), omega arith);
    }
    by_counts v (Some (c, u)) l i =
        let ends = on l (cut_slice i.ends) in let past = on ends (one i.last_char u) in
        let long : bytes u + 1 ≤ bytes t.rest = omega (arith, fits ends, one_bytes i.last_char u) in
        let operators = suffix_reads (at t u) c in
        cond_both (is_repeatable t.flags a) _ _ (Reads P s)
        (λ e. then_reads _ P s (at t u) (suffix (at t u) c) _ (on h.slice past) operators (λ m w k.
        let over = quantified_over t.flags c m a in let is = solid_weight a (repeatable_solid t.flags a e) in record {
          span = listed (items_quantified t.flags c m a) (after h (on past k));
          read = quantified_read t.flags c m a n;
          size = (omega (arith, over.0, is, long, fits k), omega (arith, over.1, long, fits k), over.1);
        })) (λ _.
        cond_both (is_dropped t.flags left a u) _ _ (Reads P s)
        (λ _. then_reads _ P s (at t u) (suffix (at t u) c) _ (on h.slice past) operators (λ m w k. record {
          span = after h (on past k);
          read = n;
          size = (omega (arith, long, fits k), omega (arith, long, fits k), omega arith);
        })) (λ _. lies_before i.ascii (to_ends (on h.slice ends))))

unmoved_bytes : (s t : State) → is_unmoved s t ≡ true → bytes t.rest ≡ bytes s.rest
unmoved_bytes s t e = grind (arith, nat_tests)

-- a reading that takes no byte adds no level
adjacent_read : (k d : ℕ) (a : Tree) (s t : State) → ItemSpan (items a) s.rest t.rest → IsRead a →
    Reads (Part (GrowsBy k a t) s) s (adjacent k d a t)
unfolding adjacent
adjacent_read zero d a s t h n =
    let P = Part (GrowsBy zero a t) s in let once = quant_read (bytes t.rest) a s t h n in
    then_reads (Part (Grows a t) s) P s s (quant (bytes t.rest) a t) _ (current s.rest) once (λ b v i.
    cond_both (is_unmoved t v) _ _ (Reads P s) (λ e. record {
      span = i.span;
      read = i.read;
      size = (i.size.0, omega (arith, i.size.1, unmoved_bytes t v e));
    }) (λ _. lies_at i.span.slice))
adjacent_read (suc k) d a s t h n =
    let P = Part (GrowsBy (suc k) a t) s in let once = quant_read (bytes t.rest) a s t h n in
    let more = adjacent_read k (d + 1) in
    then_reads (Part (Grows a t) s) P s s (quant (bytes t.rest) a t) _ (current s.rest) once (λ b v i.
    cond_both (is_unmoved t v) _ _ (Reads P s) (λ e. record {
      span = i.span;
      read = i.read;
      size = (i.size.0, omega (arith, i.size.1, unmoved_bytes t v e));
    }) (λ _.
    cond_both (nat_lt (d + 1) max_depth) _ _ (Reads P s)
    (λ _. resized (GrowsBy k b v) (GrowsBy (suc k) a t) s (adjacent k (d + 1) b v) (λ x w j.
    (omega (arith, i.size.0, j.0), omega (arith, i.size.2, j.1))) (more b s v i.span i.read))
    (λ _. lies_at i.span.slice)))

-- one quantifier, and four adjacent to it
quants_read : (d left : ℕ) (a : Tree) (s t : State) → ItemSpan (items a) s.rest t.rest → IsRead a →
    Reads (Part (GrowsBy 5 a t) s) s (quants d left a t)
quants_read d left a s t h n =
    let P = Part (GrowsBy 5 a t) s in
    then_reads (Part (Grows a t) s) P s s (quant left a t) _ (current s.rest) (quant_read left a s t h n) (λ b v i.
    cond_both v.flags.oniguruma_mode _ _ (Reads P s)
    (λ _. resized (GrowsBy max_adjacent b v) (GrowsBy 5 a t) s (adjacent max_adjacent d b v) (λ x w j.
    (omega (arith, i.size.0, j.0), omega (arith, i.size.2, j.1)))
    (adjacent_read max_adjacent d b s v i.span i.read))
    (λ _. record { span = i.span; read = i.read; size = (i.size.0, omega (arith, i.size.2)) }))

-- ---- the bounds of each part, which is read from s at depth d and ends at t; its levels are at most max_levels
-- without those of each depth: of these an Alt takes one and a Concat one, the quantifiers of a piece ten, and a group
-- one

abbrev branch_levels : ℕ
branch_levels = max_levels - 1

abbrev piece_levels : ℕ
piece_levels = branch_levels - 1

abbrev atom_levels : ℕ
atom_levels = piece_levels - 10

abbrev inside_levels : ℕ
inside_levels = atom_levels - 1

-- for an atom, with and without its quantifiers; an Empty may read no byte
abbrev Fits : ℕ → ℕ → State → Tree → State → Type 0
Fits high d s r t =
    d < max_depth → (weight r + 2 * bytes t.rest ≤ 2 * bytes s.rest) × (levels r + levels_at_depth * d ≤ high)

-- for pieces
abbrev PiecesFit : ℕ → State → List Tree → State → Type 0
PiecesFit d s l t =
    d < max_depth → (weights l + 2 * bytes t.rest ≤ 2 * bytes s.rest) × (widest l + levels_at_depth * d ≤ piece_levels)

-- for a branch, and for an alternation
abbrev Fills : ℕ → ℕ → State → Tree → State → Type 0
Fills high d s r t =
    d < max_depth → (nodes r + 2 * bytes t.rest ≤ 2 * bytes s.rest + 1) × (levels r + levels_at_depth * d ≤ high)

-- for branches: each may have one node more than twice its bytes, and the bars make up for all but one of these
abbrev BranchesFit : ℕ → State → List Tree → State → Type 0
BranchesFit d s l t =
    d < max_depth →
    (sizes l + length l + 2 * bytes t.rest ≤ 2 * bytes s.rest + 2) × (widest l + levels_at_depth * d ≤ branch_levels) ×
    (1 ≤ length l)

-- for the contents of a group
abbrev InsideFits : ℕ → State → Tree → State → Type 0
InsideFits d s r t =
    d + 1 < max_depth → (nodes r + 1 + 2 * bytes t.rest ≤ 2 * bytes s.rest) ×
    (levels r + levels_at_depth * d ≤ inside_levels)

-- for a condition, after which its body begins
abbrev ConditionFits : ℕ → State → Tree → State → Type 0
ConditionFits d s c t =
    d + 1 < max_depth → (nodes c + 2 + 2 * bytes t.rest ≤ 2 * bytes s.rest) ×
    (levels c + levels_at_depth * d ≤ inside_levels)

-- the parts with these bounds
abbrev IsAtom : ℕ → State → Tree → State → Type 0
IsAtom d s = Part (Fits atom_levels d s) s

abbrev IsPiece : ℕ → State → Tree → State → Type 0
IsPiece d s = Part (Fits piece_levels d s) s

abbrev ArePieces : ℕ → State → List Tree → State → Type 0
ArePieces d s = Parts (PiecesFit d s) s

abbrev IsBranch : ℕ → State → Tree → State → Type 0
IsBranch d s = Part (Fills branch_levels d s) s

abbrev AreBranches : ℕ → State → List Tree → State → Type 0
AreBranches d s = Parts (BranchesFit d s) s

abbrev IsAlternation : ℕ → State → Tree → State → Type 0
IsAlternation d s = Part (Fills max_levels d s) s

abbrev IsInside : ℕ → State → Tree → State → Type 0
IsInside d s = Part (InsideFits d s) s

-- ---- the end of a part, and its outcome

closed_reads : (P : Tree → State → Type 0) (s t : State) (r : Tree) → Slice s.rest t.rest →
    ((u : State) → Slice t.rest u.rest → bytes u.rest + 1 ≤ bytes t.rest → P r u) → Reads P s (closed r t)
closed_reads P s t r h k =
    choose_both (Reads P s) (strip (code ")") t.rest) _ _
    (λ u e. k (at t u) (strip_slice (code ")") t.rest u e) (strip_bytes (code ")") t.rest u e)) (by_text t.rest h)
  where
    by_text : (u : Text) → Slice s.rest u → MayLie s.rest (not_closed u).reach
    by_text [] i = lies_at_end s.rest
    by_text (c ∷ u) i = lies_at i

-- the opening of a capturing group comes before its contents
node_span : (h : GroupKind) (s t : State) (r : Tree) (v : Text) → Past s t.rest → ItemSpan (items r) t.rest v →
    ItemSpan (items (group_node h (reach_of s.rest) r)) s.rest v
node_span (capture name) s t r v a b = opened name a b
node_span flag_group s t r v a b = before a.0 b
node_span (look l) s t r v a b = before a.0 b
node_span atomic s t r v a b = before a.0 b
node_span define s t r v a b = before a.0 b
node_span repeater s t r v a b = before a.0 b

conditional_reads : (d : ℕ) (s t v : State) (c r : Tree) → d + 1 < max_depth → Part (ConditionFits d s) s c t →
    IsAlternation (d + 1) t r v → Reads (IsAtom d s) s (conditional_after c (bytes t.rest) r v)
conditional_reads d s t v c r l h i =
    let (a, b) = branches_of r in let both = then h.span i.span in
    cond_both (bytes v.rest == bytes t.rest && not (is_condition c)) _ _ (Reads (IsAtom d s) s)
    (λ _. lies_at both.slice) (λ _. closed_reads (IsAtom d s) s v (conditional_of c a b) both.slice (λ z k m.
    let each = branches_read r i.read in let deep = branches_levels r in record {
      span = listed (ap (λ l. items c ++ l) (items_branches r) ∙ items_conditional c a b) (after both k);
      read = conditional_of_read c a b h.read each.0 each.1;
      size = λ _. (
        omega (
          arith,
          weight_most (conditional_of c a b),
          conditional_size c a b,
          branches_size r,
          (h.size l).0,
          (i.size l).0,
          m,
        ),
        omega (arith, conditional_levels c a b, deep.0, deep.1, (h.size l).1, (i.size l).1, l),
      );
    }))

leaf_is_atom : (d : ℕ) (s : State) (o : Outcome Tree) → Reads (IsLeaf s) s o → Reads (IsAtom d s) s o
leaf_is_atom d s (done a t) h = record {
  span = h.span;
  read = leaf_is_read a h.alone;
  size = λ l. (omega (arith, h.past, weight_most a, leaf_size a h.alone.1), omega (arith, l, h.alone.2));
}
leaf_is_atom d s (failed e) h = h

-- ---- the grammar

mutual
  pub alternation_read : {d : ℕ} {s : State} {o : Outcome Tree} → Alternation d s o → Reads (IsAlternation d s) s o
  alternation_read (alternation {d} {s} {q} b) =
      then_reads (AreBranches d s) (IsAlternation d s) s s q _ (current s.rest) (branches_are_read b) (λ l v h. record {
        span = listed (sym (items_choice l)) h.span;
        read = choice_read l h.read;
        size = λ x. let i = h.size x in
            (omega (arith, some_choice_size l i.2, i.0), omega (arith, choice_levels l, i.1));
      })

  branches_are_read : {d : ℕ} {s : State} {o : Outcome (List Tree)} → Branches d s o → Reads (AreBranches d s) s o
  branches_are_read (last {r} b e) =
      let h = branch_read b in record {
        span = listed (sym (append-nil (items r))) h.span;
        read = (h.read, tt);
        size = λ x. let i = h.size x in (omega (arith, i.0), omega (arith, i.1), omega arith);
      }
  branches_are_read (more {d} {s} {t} {u} {q} b e m) =
      let h = branch_read b in let past = after h.span (strip_slice (code "|") t.rest u e) in
      then_reads (AreBranches d (at t u)) (AreBranches d s) s (at t u) q _ past.slice (branches_are_read m)
      (λ l v i. record {
        span = then past i.span;
        read = (h.read, i.read);
        size = λ x. let j = h.size x in let k = i.size x in
            (omega (arith, j.0, strip_bytes (code "|") t.rest u e, k.0), omega (arith, j.1, k.1), omega arith);
      })
  branches_are_read (branch_error b) = branch_read b

  pub branch_read : {d : ℕ} {s : State} {o : Outcome Tree} → Branch d s o → Reads (IsBranch d s) s o
  branch_read (branch {d} {s} {q} b) =
      then_reads (ArePieces d s) (IsBranch d s) s s q _ (current s.rest) (pieces_read b) (λ l v h. record {
        span = listed (sym (items_join l)) h.span;
        read = join_read l h.read;
        size = λ x. let i = h.size x in (omega (arith, join_size l, i.0), omega (arith, join_levels l, i.1));
      })

  pieces_read : {d : ℕ} {s : State} {o : Outcome (List Tree)} → Pieces d s o → Reads (ArePieces d s) s o
  pieces_read (stop {s} e) = record {
    span = bare (current s.rest);
    read = tt;
    size = λ x.
        (omega arith, omega (arith, x));
  }
  pieces_read (next {d} {t} {q} {s} e a m) =
      let h = piece_read a in
      then_reads (ArePieces d t) (ArePieces d s) s t q _ h.span.slice (pieces_read m) (λ l v i. record {
        span = then h.span i.span;
        read = (h.read, i.read);
        size = λ x. let j = h.size x in let k = i.size x in (omega (arith, j.0, k.0), omega (arith, j.1, k.1));
      })
  pieces_read (piece_error e a) = piece_read a

  pub piece_read : {d : ℕ} {s : State} {o : Outcome Tree} → Piece d s o → Reads (IsPiece d s) s o
  piece_read (piece {d} {s} {u} {q} l x) =
      let k = skipped_slice s u l in
      then_reads (IsAtom d (at s u)) (IsPiece d s) s (at s u) q _ k (atom_read x) (λ a t h.
      resized (GrowsBy 5 a t) (Fits piece_levels d s) s (quants d (bytes s.rest) a t) (λ b v i x. let j = h.size x in
      (omega (arith, fits k, j.0, i.0), omega (arith, j.1, i.1)))
      (quants_read d (bytes s.rest) a s t (before k h.span) h.read))
  piece_read (layout_error {s} l) =
      subst (SkippedSlice s.rest) l (layout_slice s.flags.ignore_space s.rest)

  pub atom_read : {d : ℕ} {s : State} {o : Outcome Tree} → Atom d s o → Reads (IsAtom d s) s o
  atom_read (atom {d} {s} {k = e} {q} is a) =
      after_keeps (Reads (IsAtom d s) s) (λ r t f i. record { span = i.span; read = i.read; size = i.size }) e s.flags q
      (of_read a (subst (StartReads s) is (start_reads d s)) (subst (OpensBelow d) is (start_below d s)))

  of_read : {k : AtomStart} {d : ℕ} {s : State} {o : Outcome Tree} → AtomOf k d s o → StartReads s k → OpensBelow d k →
      Reads (IsAtom d s) s o
  of_read (a_nothing {s}) h b =
      record { span = bare (current s.rest); read = (tt, tt); size = λ x. (omega arith, omega (arith, x)) }
  of_read (a_read {d} {s} {o}) h b = leaf_is_atom d s o h
  of_read (a_group {d} {s} {t} {h = kind} {q} i) h b =
      let p = reach_of s.rest in
      then_reads (IsInside d t) (IsAtom d s) s t q _ h.0 (inside_read i) (λ r v k.
      let over = node_over kind p r in let j = k.size b in record {
        span = node_span kind s t r v.rest h k.span;
        read = node_read kind p r k.read;
        size = λ _.
            (omega (arith, weight_most (group_node kind p r), over.0, j.0, h.1), omega (arith, over.1, j.1));
      })
  of_read (a_condition {s} i m) h b =
      let c = inside_read i in
      body_read s m b (record {
        span = before h.0 c.span;
        read = c.read;
        size = λ x. let j = c.size x in (omega (arith, j.0, h.1), j.1);
      })
  of_read (condition_error i) h b = lies_in h.0 (inside_read i)
  of_read (a_body {s} {c} m) h b =
      body_read s m b (record {
        span = h.0;
        read = leaf_is_read c h.2;
        size = λ x. (omega (arith, h.1, leaf_size c h.2.1), omega (arith, x, h.2.2));
      })
  of_read (two_branches {d} {s} {v} {u} {a} {q} m e n) h b =
      let c = branch_read m in let j = c.size b in
      let first = before h.0 (after c.span (strip_slice (code "|") v.rest u e)) in
      then_reads (IsBranch (d + 1) (at v u)) (IsAtom d s) s (at v u) q _ first.slice (branch_read n) (λ r w i.
      let both = listed (ap (λ l. items a ++ l) (sym (append-nil (items r)))) (then first i.span) in
      let k = i.size b in
      closed_reads (IsAtom d s) s w (expression a r) both.slice (λ z x y. record {
        span = after both x;
        read = (tt, all_read (a ∷ r ∷ []) (c.read, (i.read, tt)));
        size = λ _. (omega (arith, h.1, j.0, strip_bytes (code "|") v.rest u e, k.0, y), omega (arith, j.1, k.1));
      }))
  of_read (one_branch {d} {s} {v} {a} m e) h b =
      let c = branch_read m in let j = c.size b in let over = clear_or_stopper_over a in
      let one = listed (items_clear_or_stopper a) (before h.0 c.span) in
      closed_reads (IsAtom d s) s v (clear_or_stopper a) one.slice (λ z x y. record {
        span = after one x;
        read = clear_or_stopper_read a c.read;
        size = λ _.
            (omega (arith, weight_most (clear_or_stopper a), over.0, h.1, j.0, y), omega (arith, over.1, j.1));
      })
  of_read (absent_error m) h b = lies_in h.0 (branch_read m)

  pub inside_read : {d : ℕ} {s : State} {o : Outcome Tree} → Inside d s o → Reads (IsInside d s) s o
  inside_read (inside {d} {s} {q} a) =
      then_reads (IsAlternation (d + 1) s) (IsInside d s) s s q _ (current s.rest) (alternation_read a) (λ r v h.
      closed_reads (IsInside d s) s v r h.span.slice (λ z k m. record {
        span = after h.span k;
        read = h.read;
        size = λ x. let i = h.size x in (omega (arith, i.0, m), omega (arith, i.1));
      }))

  body_read : {d : ℕ} {c : Tree} (s : State) {t : State} {o : Outcome Tree} → Body d c t o → d + 1 < max_depth →
      Part (ConditionFits d s) s c t → Reads (IsAtom d s) s o
  body_read s (the_body {d} {c} {s = t} {q} a) l h =
      then_reads (IsAlternation (d + 1) t) (IsAtom d s) s t q _ h.span.slice (alternation_read a)
      (λ r v i. conditional_reads d s t v c r l h i)

-- ---- a whole text

ended_reads : (P : Tree → State → Type 0) (s t : State) (r : Tree) → Slice s.rest t.rest → P r t →
    Reads P s (ended r t)
ended_reads P s t r h i = cond_both (length t.rest == 0) _ _ (Reads P s) (λ _. i) (λ _. lies_at h)

pub whole_read : {f : Flags} {text : Text} {o : Outcome Tree} → Whole f text o →
    Reads (IsAlternation 0 (start f text)) (start f text) o
whole_read (whole {f} {text} {q} a) =
    let s = start f text in
    then_reads (IsAlternation 0 s) (IsAlternation 0 s) s s q _ (current text) (alternation_read a)
    (λ r t h. ended_reads (IsAlternation 0 s) s t r h.span.slice h)

-- each raw tree of a text has such nodes
pub derived_read : {f : Flags} {text : Text} {r : Tree} {t : State} → Whole f text (done r t) → IsRead r
derived_read a = (whole_read a).read

-- an error is where a suffix of the text begins, or one past the end
pub error_lies : {f : Flags} {text : Text} {e : Located} → Whole f text (failed e) → MayLie text e.reach
error_lies a = whole_read a

-- so are the groups and references
pub items_lie : {f : Flags} {text : Text} {r : Tree} {t : State} → Whole f text (done r t) →
    AllByRecursion (λ i. MayLie text (reach_of_item i)) (items r)
items_lie a = (whole_read a).span.may_lie

-- the groups and references of a text are in text order, before its end
pub ordered_within : {f : Flags} {text : Text} {r : Tree} {t : State} → Whole f text (done r t) →
    DescendingReaches (bytes text + 2) 2 (items r)
ordered_within {text} {r} {t} a =
    let d : DescendingReaches (bytes text + 2) (reach_of t.rest + 1) (items r) =
    raised _ _ _ (items r) (omega arith) (whole_read a).span.descends in
    lowered (bytes text + 2) (reach_of t.rest + 1) 2 (items r) (omega arith) d
