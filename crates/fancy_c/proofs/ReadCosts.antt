-- What is read has at most six bytes of text for each byte that is read: by one induction on the derivation.
use Rattle.std.proofs.Common.{◌≡◌, ℕ, zero, suc, ◌+◌, ◌-◌, ◌*◌, ◌≤◌, ◌==◌, ◌∷◌, [], List, ◌&&◌, Option}
use Rattle.std.proofs.Common.{Some, None, IfSome, subst, arith, length}
use Rattle.std.specs.Prelude.{not, nat_lt}
use Rattle.std.proofs.lemmas.Bool.{cond_both}
use Rattle.std.proofs.lemmas.Str.{len_utf8_bounds}
use Prim.Native.Char.{code}
use Rattle.fancy_lex.specs.Target.{Target, by_number, by_name, relative}
use Rattle.fancy_lex.specs.Text.{Text, bytes, reach_of, strip}
use Rattle.fancy_lex.specs.declared.flags.Flags.{Flags}
use Rattle.fancy_lex.proofs.CountLaws.{Closed, closes_counts}
use Rattle.fancy_lex.specs.Quantifier.{counts}
use Rattle.fancy_lex.specs.declared.counts.Counts.{Counts}
use Rattle.fancy_grammar.specs.AtomStart.{AtomStart, read, of_kind}
use Rattle.fancy_grammar.specs.Depth.{max_depth}
use Rattle.fancy_grammar.specs.Grammar.{Alternation, alternation, Branches, last, more, branch_error, Branch, branch}
use Rattle.fancy_grammar.specs.Grammar.{Pieces, stop, next, piece_error, Piece, piece, layout_error, Atom, atom, AtomOf}
use Rattle.fancy_grammar.specs.Grammar.{a_nothing, a_read, a_group, a_condition, condition_error, a_body, two_branches}
use Rattle.fancy_grammar.specs.Grammar.{one_branch, absent_error, Inside, inside, Body, the_body, Whole, whole}
use Rattle.fancy_grammar.specs.Grammar.{closed, branches_of, conditional_of}
use Rattle.fancy_grammar.specs.Grammar.{conditional_after, is_condition, clear_or_stopper}
use Rattle.fancy_grammar.specs.GroupKind.{GroupKind, capture, flag_group, look, atomic, define, repeater}
use Rattle.fancy_grammar.specs.Label as label
use Rattle.fancy_grammar.specs.Label.{ast_call}
use Rattle.fancy_grammar.specs.Quantified.{quants, adjacent, max_adjacent, is_unmoved, quant, with_counts}
use Rattle.fancy_grammar.specs.Quantified.{quantified, suffix, is_repeatable, is_dropped, Suffix}
use Rattle.fancy_grammar.specs.State.{skipped, State, at, Outcome, done, failed, mapped}
use Rattle.fancy_grammar.specs.Tree.{Tree, leaf, over, row, Trees, no_trees, more_trees, expression, levels, levels_all}
use Rattle.fancy_grammar.proofs.AtomStartLaws.{IsLeaf, StartReads, start_reads}
use Rattle.fancy_grammar.proofs.OutcomeLemmas.{Holds, then_holds, after_keeps, skipped_both}
use Rattle.fancy_grammar.proofs.ReadLaws.{suffix_reads}
use Rattle.fancy_grammar.proofs.Slices.{Reads, fits, on, cut_slice, one, strip_bytes}
use Rattle.fancy_grammar.proofs.Slices.{skipped_slice}
use Rattle.fancy_grammar.specs.Slices.{Slice}
use Rattle.fancy_grammar.proofs.TreeLaws.{IsReadLeaf}
use Rattle.fancy_c.proofs.EscapeCosts.{NamesWithin}
use Rattle.fancy_c.proofs.StartCosts.{StartWithin, start_within}
use Rattle.fancy_c.proofs.TreeCosts.{cost, cost_all, costs, kind_cost, target_cost, join_cost, choice_cost, quantified_cost}
use Rattle.fancy_c.proofs.TreeCosts.{branches_cost, conditional_cost, clear_or_stopper_cost, node_cost}
use Rattle.fancy_lex.proofs.ReadingLemmas.{choose_both}

-- what is read from n bytes up to t has six bytes of text for each byte that is read
abbrev Paid : ℕ → Tree → State → Type 0
Paid n r t = cost r + 6 * bytes t.rest ≤ 6 * n

abbrev ArePaid : ℕ → List Tree → State → Type 0
ArePaid n l t = costs l + 6 * bytes t.rest ≤ 6 * n

-- ---- quantifiers add no text

abbrev Keeps : Tree → State → Tree → State → Type 0
Keeps a s b t = (cost b ≤ cost a) × (bytes t.rest ≤ bytes s.rest)

suffix_keeps : (a : Tree) (s w : State) (c : Counts) (g : Suffix → Tree) → bytes w.rest ≤ bytes s.rest →
    ((m : Suffix) → cost (g m) ≤ cost a) → Holds (Keeps a s) (mapped g (suffix w c))
suffix_keeps a s w c g l h = by_outcome (suffix w c) (suffix_reads w c)
  where
    by_outcome : (o : Outcome Suffix) → Reads (λ (m : Suffix) v. Slice w.rest v.rest) w o → Holds (Keeps a s) (mapped g o)
    by_outcome (done m v) k = (h m, omega (arith, l, fits k))
    by_outcome (failed e) i = tt

quant_keeps : (left : ℕ) (a : Tree) (s : State) → Holds (Keeps a s) (quant left a s)
unfolding quant
quant_keeps left a s =
    skipped_both P (skipped s) _ _
    (λ v i. by_counts v (counts s.flags.ignore_space v) (skipped_slice s v i) (closes_counts s.flags.ignore_space v))
    (λ p i. tt)
  where
    P : Outcome Tree → Type 0
    P = Holds (Keeps a s)

    by_counts : (v : Text) (o : Option (Counts × Text)) → Slice s.rest v → IfSome o (λ p. Closed v p.1) →
        P (with_counts left a (at s v) o)
    by_counts v None l i = (omega arith, fits l)
    by_counts v (Some (c, u)) l i =
        let past = fits (on (on l (cut_slice i.ends)) (one i.last_char u)) in
        cond_both (is_repeatable s.flags a) _ _ P
        (λ _. suffix_keeps a s (at s u) c (λ m. quantified s.flags c m a) past
        (λ m. quantified_cost s.flags c m a)) (λ _.
        cond_both (is_dropped s.flags left a u) _ _ P
        (λ _. suffix_keeps a s (at s u) c (λ m. a) past (λ m. omega arith)) (λ _. tt))

-- the same after a quantifier
kept_on : (a b : Tree) (s t : State) (o : Outcome Tree) → Keeps a s b t → Holds (Keeps b t) o → Holds (Keeps a s) o
kept_on a b s t (done c v) h k = (omega (arith, h.0, k.0), omega (arith, h.1, k.1))
kept_on a b s t (failed e) h i = tt

adjacent_keeps : (k d : ℕ) (a : Tree) (s : State) → Holds (Keeps a s) (adjacent k d a s)
unfolding adjacent
adjacent_keeps zero d a s =
    then_holds (Keeps a s) (Keeps a s) (quant (bytes s.rest) a s) _ (quant_keeps (bytes s.rest) a s) (λ b t h.
    cond_both (is_unmoved s t) _ _ (Holds (Keeps a s)) (λ _. h) (λ _. tt))
adjacent_keeps (suc k) d a s =
    let more = adjacent_keeps k (d + 1) in
    then_holds (Keeps a s) (Keeps a s) (quant (bytes s.rest) a s) _ (quant_keeps (bytes s.rest) a s) (λ b t h.
    cond_both (is_unmoved s t) _ _ (Holds (Keeps a s)) (λ _. h) (λ _.
    cond_both (nat_lt (d + 1) max_depth) _ _ (Holds (Keeps a s))
    (λ _. kept_on a b s t (adjacent k (d + 1) b t) h (more b t)) (λ _. tt)))

quants_keep : (d left : ℕ) (a : Tree) (s : State) → Holds (Keeps a s) (quants d left a s)
quants_keep d left a s =
    then_holds (Keeps a s) (Keeps a s) (quant left a s) _ (quant_keeps left a s) (λ b t h.
    cond_both t.flags.oniguruma_mode _ _ (Holds (Keeps a s))
    (λ _. kept_on a b s t (adjacent max_adjacent d b t) h (adjacent_keeps max_adjacent d b t)) (λ _. h))

-- ---- the end of a part

closed_paid : (n : ℕ) (r : Tree) (s : State) → Paid n r s → Holds (Paid n) (closed r s)
closed_paid n r s h =
    choose_both (Holds (Paid n)) (strip (code ")") s.rest) _ _
    (λ t e. omega (arith, h, strip_bytes (code ")") s.rest t e)) tt

conditional_paid : (n left : ℕ) (c r : Tree) (s : State) → cost c + cost r + 6 * bytes s.rest ≤ 6 * n →
    Holds (Paid n) (conditional_after c left r s)
conditional_paid n left c r s h =
    let (a, b) = branches_of r in
    cond_both (bytes s.rest == left && not (is_condition c)) _ _ (Holds (Paid n)) (λ _. tt)
    (λ _. closed_paid n (conditional_of c a b) s (omega (arith, h, conditional_cost c a b, branches_cost r)))

-- a tree after its quantifiers
kept_paid : (n : ℕ) (a : Tree) (s : State) (o : Outcome Tree) → Paid n a s → Holds (Keeps a s) o → Holds (Paid n) o
kept_paid n a s (done b t) h k = omega (arith, h, k.0, k.1)
kept_paid n a s (failed e) h i = tt

-- ---- leaves

one_size : (c : ℕ) → bytes (c ∷ []) ≤ 4
unfolding bytes
one_size c = omega (arith, (len_utf8_bounds c).1)

one_or_more : (t : Tree) → 1 ≤ levels t
one_or_more (leaf l) = omega arith
one_or_more (over w t) = omega arith
one_or_more (row r ts) = omega arith

two_levels : (t : Tree) → suc (levels t) ≡ 1 → ⊥
two_levels t e = omega (arith, e, one_or_more t)

no_cost : (ts : Trees) → suc (levels_all ts) ≡ 1 → cost_all ts ≡ 0
no_cost no_trees e = omega arith
no_cost (more_trees t ts) e = absurd (two_levels t (omega (arith, e, one_or_more t)))

read_leaf_paid : (s : State) (o : Outcome Tree) → Reads (IsLeaf s) s o → StartWithin (bytes s.rest) (read o) →
    Holds (Paid (bytes s.rest)) o
read_leaf_paid s (failed e) h w = tt
read_leaf_paid s (done r t) h w = by_leaf r h.alone w
  where
    past : bytes t.rest + 1 ≤ bytes s.rest
    past = h.past

    by_target : (g : Target) → NamesWithin (bytes s.rest - bytes t.rest) g → target_cost g + 6 * bytes t.rest ≤ 6 * bytes s.rest
    by_target (by_number k) w = omega (arith, past)
    by_target (by_name v) w = omega (arith, past, w)
    by_target (relative z) w = omega (arith, past)

    by_length : (v : Text) → length v ≡ 1 → bytes v + 6 * bytes t.rest ≤ 6 * bytes s.rest
    by_length [] e = absurd cc
    by_length (c ∷ []) e = omega (arith, past, one_size c)
    by_length (c ∷ d ∷ v) e = absurd (omega (arith, e))

    by_leaf : (r : Tree) → IsReadLeaf r → StartWithin (bytes s.rest) (read (done r t)) → Paid (bytes s.rest) r t
    by_leaf (leaf (label.literal v casei)) i w = by_length v i.0
    by_leaf (leaf (label.literal_bytes v)) i w = omega (arith, past, i.0.0)
    by_leaf (leaf (label.delegate v casei)) i w = w
    by_leaf (leaf (label.ast_node (ast_call g) reach)) i w = by_target g w
    by_leaf (leaf l) i w = omega (arith, past)
    by_leaf (over k u) i w = absurd (two_levels u i.2)
    by_leaf (row k ts) i w = omega (arith, past, no_cost ts i.2)

kind_paid : (h : GroupKind) (n : ℕ) (t : State) → bytes t.rest + 1 ≤ n → StartWithin n (of_kind h t) →
    kind_cost h + 6 * bytes t.rest ≤ 6 * n
kind_paid (capture None) n t l w = omega (arith, l)
kind_paid (capture (Some v)) n t l w = omega (arith, l, w)
kind_paid flag_group n t l w = omega (arith, l)
kind_paid (look k) n t l w = omega (arith, l)
kind_paid atomic n t l w = omega (arith, l)
kind_paid define n t l w = omega (arith, l)
kind_paid repeater n t l w = omega (arith, l)

-- ---- the grammar

-- what is read from s
abbrev PaidFrom : State → Outcome Tree → Type 0
PaidFrom s o = Holds (Paid (bytes s.rest)) o

abbrev ArePaidFrom : State → Outcome (List Tree) → Type 0
ArePaidFrom s o = Holds (ArePaid (bytes s.rest)) o

mutual
  pub alternation_paid : {d : ℕ} {s : State} {o : Outcome Tree} → Alternation d s o → PaidFrom s o
  alternation_paid (alternation {s} {q} b) =
      then_holds (ArePaid (bytes s.rest)) (Paid (bytes s.rest)) q _ (branches_paid b)
      (λ l v h. omega (arith, h, choice_cost l))

  branches_paid : {d : ℕ} {s : State} {o : Outcome (List Tree)} → Branches d s o → ArePaidFrom s o
  branches_paid (last b e) = omega (arith, branch_paid b)
  branches_paid (more {s} {t} {u} {q} b e m) =
      let h = branch_paid b in
      then_holds (ArePaid (bytes u)) (ArePaid (bytes s.rest)) q _ (branches_paid m)
      (λ l v i. omega (arith, h, strip_bytes (code "|") t.rest u e, i))
  branches_paid (branch_error b) = tt

  branch_paid : {d : ℕ} {s : State} {o : Outcome Tree} → Branch d s o → PaidFrom s o
  branch_paid (branch {s} {q} b) =
      then_holds (ArePaid (bytes s.rest)) (Paid (bytes s.rest)) q _ (pieces_paid b)
      (λ l v h. omega (arith, h, join_cost l))

  pieces_paid : {d : ℕ} {s : State} {o : Outcome (List Tree)} → Pieces d s o → ArePaidFrom s o
  pieces_paid (stop e) = omega arith
  pieces_paid (next {t} {q} {s} e a m) =
      let h = piece_paid a in
      then_holds (ArePaid (bytes t.rest)) (ArePaid (bytes s.rest)) q _ (pieces_paid m) (λ l v i. omega (arith, h, i))
  pieces_paid (piece_error e a) = tt

  piece_paid : {d : ℕ} {s : State} {o : Outcome Tree} → Piece d s o → PaidFrom s o
  piece_paid (piece {d} {s} {u} {q} l x) =
      let less = fits (skipped_slice s u l) in
      then_holds (Paid (bytes u)) (Paid (bytes s.rest)) q _ (atom_paid x) (λ a t h.
      kept_paid (bytes s.rest) a t (quants d (bytes s.rest) a t) (omega (arith, h, less))
      (quants_keep d (bytes s.rest) a t))
  piece_paid (layout_error l) = tt

  atom_paid : {d : ℕ} {s : State} {o : Outcome Tree} → Atom d s o → PaidFrom s o
  atom_paid (atom {d} {s} {k = e} {q} is a) =
      after_keeps (PaidFrom s) (λ r t f h. h) e s.flags q
      (of_paid a (subst (StartReads s) is (start_reads d s)) (subst (StartWithin (bytes s.rest)) is (start_within d s)))

  of_paid : {k : AtomStart} {d : ℕ} {s : State} {o : Outcome Tree} → AtomOf k d s o → StartReads s k →
      StartWithin (bytes s.rest) k → PaidFrom s o
  of_paid a_nothing h w = omega arith
  of_paid (a_read {s} {o}) h w = read_leaf_paid s o h w
  of_paid (a_group {s} {t} {h = kind} {q} i) h w =
      let paid = kind_paid kind (bytes s.rest) t h.1 w in
      then_holds (Paid (bytes t.rest)) (Paid (bytes s.rest)) q _ (inside_paid i)
      (λ r v k. omega (arith, k, paid, node_cost kind (reach_of s.rest) r))
  of_paid (a_condition {s} i m) h w = body_paid (bytes s.rest) m (omega (arith, inside_paid i, h.1))
  of_paid (condition_error i) h w = tt
  of_paid (a_body {s} m) h w = body_paid (bytes s.rest) m (omega (arith, h.1, w))
  of_paid (two_branches {s} {v} {u} {a} {q} m e n) h w =
      let first = branch_paid m in
      then_holds (Paid (bytes u)) (Paid (bytes s.rest)) q _ (branch_paid n) (λ r z i.
      closed_paid (bytes s.rest) (expression a r) z (omega (arith, first, h.1, strip_bytes (code "|") v.rest u e, i)))
  of_paid (one_branch {s} {v} {a} m e) h w =
      closed_paid (bytes s.rest) (clear_or_stopper a) v (omega (arith, branch_paid m, h.1, clear_or_stopper_cost a))
  of_paid (absent_error m) h w = tt

  inside_paid : {d : ℕ} {s : State} {o : Outcome Tree} → Inside d s o → PaidFrom s o
  inside_paid (inside {s} {q} a) =
      then_holds (Paid (bytes s.rest)) (Paid (bytes s.rest)) q _ (alternation_paid a)
      (λ r v h. closed_paid (bytes s.rest) r v h)

  body_paid : {d : ℕ} {c : Tree} (n : ℕ) {t : State} {o : Outcome Tree} → Body d c t o →
      cost c + 6 * bytes t.rest ≤ 6 * n → Holds (Paid n) o
  body_paid n (the_body {c} {s = t} {q} a) l =
      then_holds (Paid (bytes t.rest)) (Paid n) q _ (alternation_paid a)
      (λ r v h. conditional_paid n (bytes t.rest) c r v (omega (arith, h, l)))

-- ---- a whole text

pub whole_paid : {f : Flags} {text : Text} {r : Tree} {t : State} → Whole f text (done r t) → cost r ≤ 6 * bytes text
whole_paid {f} {text} {r} {t} a = by_whole a
  where
    of_whole : {o : Outcome Tree} → Whole f text o → Holds (Paid (bytes text)) o
    of_whole (whole {q} a) =
        then_holds (Paid (bytes text)) (Paid (bytes text)) q _ (alternation_paid a)
        (λ r s h. cond_both (length s.rest == 0) _ _ (Holds (Paid (bytes text))) (λ _. h) (λ _. tt))

    by_whole : Whole f text (done r t) → cost r ≤ 6 * bytes text
    by_whole b = omega (arith, of_whole b)
