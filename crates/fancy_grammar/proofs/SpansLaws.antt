-- The spans of a derivation are those of the nodes of its tree, and lie in its text: each node in the slice that its
-- rule reads, and its children in its own span, one after another.
use Rattle.std.proofs.Common.{ℕ, Bool, List, refl, subst, ◌==◌, ◌&&◌, not, length}
use Rattle.std.proofs.lemmas.Bool.{cond_both}
use Prim.Native.Char.{code}
use Rattle.fancy_lex.specs.Text.{Text, bytes, reach_of, strip}
use Rattle.fancy_lex.specs.declared.flags.Flags.{Flags}
use Rattle.fancy_grammar.specs.AtomStart.{AtomStart}
use Rattle.fancy_grammar.specs.Grammar.{Alternation, alternation, Branches, last, more, branch_error, Branch, branch}
use Rattle.fancy_grammar.specs.Grammar.{Pieces, stop, next, piece_error, Piece, piece, layout_error, Atom, atom, AtomOf}
use Rattle.fancy_grammar.specs.Grammar.{a_nothing, a_read, a_group, a_condition, condition_error, a_body, two_branches}
use Rattle.fancy_grammar.specs.Grammar.{one_branch, absent_error, Inside, inside, Body, the_body, Whole, whole}
use Rattle.fancy_grammar.specs.Grammar.{closed, branches_of, conditional_of, conditional_after}
use Rattle.fancy_grammar.specs.Grammar.{is_condition, clear_or_stopper}
use Rattle.fancy_grammar.specs.Join.{solid}
use Rattle.fancy_grammar.specs.Label as label
use Rattle.fancy_grammar.specs.Quantified.{quants}
use Rattle.fancy_grammar.specs.Slices.{Slice}
use Rattle.fancy_grammar.specs.Spans.{Spans, node, no_spans, more_spans, alone, between, one_or_node}
use Rattle.fancy_grammar.specs.Spans.{solid_spans, group_spans, conditional_spans, quants_spans}
use Rattle.fancy_grammar.specs.Spans.{alternation_spans, branches_spans, branch_spans, pieces_spans, piece_spans}
use Rattle.fancy_grammar.specs.Spans.{atom_spans, atom_of_spans, inside_spans, body_spans, whole_spans}
use Rattle.fancy_grammar.specs.State.{State, at, Outcome, done, failed, and_then}
use Rattle.fancy_grammar.specs.Tree.{Tree, expression, trees_of}
use Rattle.fancy_grammar.proofs.AtomStartLaws.{IsLeaf, StartReads, start_reads}
use Rattle.fancy_grammar.proofs.OutcomeLemmas.{Holds, then_holds, after_keeps}
use Rattle.fancy_grammar.proofs.Slices.{Reads, current, strip_slice, skipped_slice}
use Rattle.fancy_grammar.proofs.SpansCondition.{ConditionLies, condition_lies}
use Rattle.fancy_grammar.proofs.SpansLemmas.{Lies, LiesFrom, InRow, InBranches, leaf_at, none, beside, one}
use Rattle.fancy_grammar.proofs.SpansLemmas.{barred, row_at, wider, leaf_lies, joined, chosen_among, in_front}
use Rattle.fancy_grammar.proofs.SpansLemmas.{group_lies, parts_lie, conditional_lies, stopper_lies}
use Rattle.fancy_grammar.proofs.SpansQuant.{quants_lie}
use Rattle.fancy_lex.proofs.ReadingLemmas.{choose_both}

module _ (named : Bool) where
  -- one part after another; x gives the spans by the outcome
  then_lies : {A : Type 0} (P : A → State → Type 0) (t : Text) (x : Outcome Tree → Spans) (q : Outcome A)
      (f : A → State → Outcome Tree) → Holds P q →
      ((a : A) (v : State) → P a v → LiesFrom named t (x (f a v)) (f a v)) →
      LiesFrom named t (x (and_then q f)) (and_then q f)
  then_lies P t x (done a v) f h g = g a v h
  then_lies P t x (failed e) f h g = tt

  -- after a closing parenthesis
  closed_lies : {t : Text} (x : Outcome Tree → Spans) (r : Tree) (s : State) →
      ((u : State) → Slice s.rest u.rest → Lies named t u.rest r (x (done r u))) →
      LiesFrom named t (x (closed r s)) (closed r s)
  closed_lies {t} x r s k =
      choose_both (λ o. LiesFrom named t (x o) o) (strip (code ")") s.rest) _ _
      (λ u e. k (at s u) (strip_slice (code ")") s.rest u e)) tt

  leaf_lies_from : (s : State) (o : Outcome Tree) → Reads (IsLeaf s) s o → LiesFrom named s.rest (alone (between s o)) o
  leaf_lies_from s (done a t) h = leaf_lies named a h.alone h.span.slice
  leaf_lies_from s (failed e) h = tt

  piece_lies_from : {t u : Text} (d left : ℕ) (q : Outcome Tree) (x : Spans) → Slice t u → LiesFrom named u x q →
      LiesFrom named t (quants_spans left (reach_of u) q x) (and_then q (quants d left))
  piece_lies_from {t} {u} d left (done a s) x k h =
      from_earlier _ (quants d left a s) (quants_lie named u d left a s x h)
    where
      from_earlier : (y : Spans) (o : Outcome Tree) → LiesFrom named u y o → LiesFrom named t y o
      from_earlier y (done b v) i = wider named k (current v.rest) i
      from_earlier y (failed e) i = tt
  piece_lies_from d left (failed e) x k h = tt

  body_lies_from : {c : Tree} {y : Spans} (left : ℕ) (w t : State) (q : Outcome Tree) (x : Spans) →
      Lies named w.rest t.rest c y → LiesFrom named t.rest x q →
      (let o = and_then q (conditional_after c left) in
      LiesFrom named w.rest (conditional_spans (between w o) y q x) o)
  body_lies_from {c} {y} left w t (done r v) x h i =
      let b = branches_of r in
      let (m, j, l) = parts_lie named v i in
      let spans : Outcome Tree → Spans = λ o. conditional_spans (between w o) y (done r v) x in
      cond_both (bytes v.rest == left && not (is_condition c)) _ _ (λ o. LiesFrom named w.rest (spans o) o) (λ _. tt)
      (λ _. closed_lies spans (conditional_of c b.0 b.1) v (λ z k. conditional_lies named h j l k))
  body_lies_from left w t (failed e) x h i = tt

  mutual
    alternation_lies : {d : ℕ} {s : State} {o : Outcome Tree} (a : Alternation d s o) →
        LiesFrom named s.rest (alternation_spans named a) o
    alternation_lies {s} (alternation {q} b) =
        then_lies (λ l v. InBranches named s.rest v.rest (trees_of l) (branches_spans named b)) s.rest
        (λ o. one_or_node (between s o) (branches_spans named b)) q _ (branches_lie b)
        (λ l v h. chosen_among named l h)

    branches_lie : {d : ℕ} {s : State} {o : Outcome (List Tree)} (a : Branches d s o) →
        Holds (λ l (v : State). InBranches named s.rest v.rest (trees_of l) (branches_spans named a)) o
    branches_lie (last b e) = one (branch_lies b)
    branches_lie {s} (more {t} {u} {q} b e m) =
        then_holds (λ l (v : State). InBranches named u v.rest (trees_of l) (branches_spans named m)) _ q _
        (branches_lie m) (λ l v i. barred (branch_lies b) (strip_slice (code "|") t.rest u e) i)
    branches_lie (branch_error b) = tt

    branch_lies : {d : ℕ} {s : State} {o : Outcome Tree} (a : Branch d s o) →
        LiesFrom named s.rest (branch_spans named a) o
    branch_lies {s} (branch {q} p) =
        then_lies (λ l v. InRow named s.rest v.rest (trees_of (solid l)) (pieces_spans named p)) s.rest
        (λ o. one_or_node (between s o) (pieces_spans named p)) q _ (pieces_lie p)
        (λ l v h. joined named (solid l) h)

    pieces_lie : {d : ℕ} {s : State} {o : Outcome (List Tree)} (a : Pieces d s o) →
        Holds (λ l (v : State). InRow named s.rest v.rest (trees_of (solid l)) (pieces_spans named a)) o
    pieces_lie {s} (stop e) = none (current s.rest)
    pieces_lie (next {t} {q} e a m) =
        then_holds (λ l (v : State). InRow named t.rest v.rest (trees_of (solid l)) (pieces_spans named m)) _ q _
        (pieces_lie m) (λ l v i. in_front named l (piece_lies a) i)
    pieces_lie (piece_error e a) = tt

    piece_lies : {d : ℕ} {s : State} {o : Outcome Tree} (a : Piece d s o) →
        LiesFrom named s.rest (piece_spans named a) o
    piece_lies {d} {s} (piece {u} {q} l x) =
        piece_lies_from d (bytes s.rest) q (atom_spans named x) (skipped_slice s u l) (atom_lies x)
    piece_lies (layout_error l) = tt

    atom_lies : {d : ℕ} {s : State} {o : Outcome Tree} (a : Atom d s o) →
        LiesFrom named s.rest (atom_spans named a) o
    atom_lies {d} {s} (atom {k} {q} e a) =
        let P = LiesFrom named s.rest (atom_of_spans named a) in
        let read_start = subst (StartReads s) e (start_reads d s) in
        let h = of_lies a read_start (subst (ConditionLies named s) e (condition_lies named d s)) in
        after_keeps P (λ r t f i. i) k s.flags q h

    of_lies : {k : AtomStart} {d : ℕ} {s : State} {o : Outcome Tree} (a : AtomOf k d s o) → StartReads s k →
        ConditionLies named s k → LiesFrom named s.rest (atom_of_spans named a) o
    of_lies {s} a_nothing h c = leaf_at (current s.rest) (current s.rest) (current s.rest)
    of_lies {s} {o} a_read h c = leaf_lies_from s o h
    of_lies {s} (a_group {t} {h = kind} {q} i) h c =
        then_lies (λ a v. Lies named t.rest v.rest a (inside_spans named i)) s.rest
        (λ o. group_spans named kind (between s o) (inside_spans named i)) q _ (inside_lies i)
        (λ a v j. group_lies named kind (reach_of s.rest) h.0 j)
    of_lies {s} (a_condition {v} i b) h c = body_lies s b (wider named h.0 (current v.rest) (inside_lies i))
    of_lies (condition_error i) h c = tt
    of_lies {s} (a_body b) h c = body_lies s b c
    of_lies {s} (two_branches {v} {u} {a} {q} b e m) h c =
        let xs = more_spans (branch_spans named b) (more_spans (branch_spans named m) no_spans) in
        let first = wider named h.0 (strip_slice (code "|") v.rest u e) (branch_lies b) in
        then_lies (λ x w. Lies named u w.rest x (branch_spans named m)) s.rest (λ o. node (between s o) xs) q _
        (branch_lies m)
        (λ x w i. closed_lies (λ o. node (between s o) xs) (expression a x) w
        (λ z k. row_at label.expression refl (current s.rest) (beside first (beside i (none k))) (current z.rest)))
    of_lies {s} (one_branch {v} {a} b e) h c =
        let spans : Outcome Tree → Spans = λ o. node (between s o) (solid_spans a (branch_spans named b) no_spans) in
        closed_lies spans (clear_or_stopper a) v
        (λ z k. stopper_lies named (wider named h.0 (current v.rest) (branch_lies b)) k)
    of_lies (absent_error b) h c = tt

    inside_lies : {d : ℕ} {s : State} {o : Outcome Tree} (a : Inside d s o) →
        LiesFrom named s.rest (inside_spans named a) o
    inside_lies {s} (inside {q} a) =
        let x = alternation_spans named a in
        then_lies (λ r v. Lies named s.rest v.rest r x) s.rest (λ _. x) q _ (alternation_lies a)
        (λ r v h. closed_lies (λ _. x) r v (λ z k. wider named (current s.rest) k h))

    body_lies : {d : ℕ} {c : Tree} {t : State} {o : Outcome Tree} {y : Spans} (w : State) (a : Body d c t o) →
        Lies named w.rest t.rest c y → LiesFrom named w.rest (body_spans named w y a) o
    body_lies {t} w (the_body {q} a) h =
        body_lies_from (bytes t.rest) w t q (alternation_spans named a) h (alternation_lies a)

  -- the spans of a whole text lie in it
  pub whole_lies : {f : Flags} {text : Text} {r : Tree} {t : State} (a : Whole f text (done r t)) →
      Lies named text t.rest r (whole_spans named a)
  whole_lies a = by_whole a
    where
      by_whole : {f : Flags} {text : Text} {o : Outcome Tree} (a : Whole f text o) →
          LiesFrom named text (whole_spans named a) o
      by_whole {text} (whole {q} a) =
          let x = alternation_spans named a in
          then_lies (λ r v. Lies named text v.rest r x) text (λ _. x) q _ (alternation_lies a)
          (λ r t h. cond_both (length t.rest == 0) _ _ (LiesFrom named text x) (λ _. h) (λ _. tt))
