-- The spans of a text do not depend on its derivation.
use Rattle.std.proofs.Common.{◌≡◌, ℕ, Bool, List, refl, sym, subst, ap, ◌∙◌}
use mathlib.Core.Path.{path_j, subst_refl}
use Rattle.fancy_lex.specs.Text.{Text, bytes, reach_of}
use Rattle.fancy_lex.specs.declared.flags.Flags.{Flags}
use Rattle.fancy_grammar.specs.AtomStart.{AtomStart}
use Rattle.fancy_grammar.specs.Grammar.{Alternation, alternation, Branches, last, more, branch_error, Branch, branch}
use Rattle.fancy_grammar.specs.Grammar.{Pieces, stop, next, piece_error, Piece, piece, layout_error, Atom, atom, AtomOf}
use Rattle.fancy_grammar.specs.Grammar.{a_nothing, a_read, a_group, a_condition, condition_error, a_body, two_branches}
use Rattle.fancy_grammar.specs.Grammar.{one_branch, absent_error, Inside, inside, Body, the_body, Whole, whole}
use Rattle.fancy_grammar.specs.Spans.{Spans, node, no_spans, more_spans, after_bar, alone, between, one_or_node}
use Rattle.fancy_grammar.specs.Spans.{solid_spans, group_spans, conditional_spans, condition_span, quants_spans}
use Rattle.fancy_grammar.specs.Spans.{alternation_spans, branches_spans, branch_spans, pieces_spans, piece_spans}
use Rattle.fancy_grammar.specs.Spans.{atom_spans, atom_of_spans, inside_spans, body_spans, whole_spans}
use Rattle.fancy_grammar.specs.State.{State, Outcome}
use Rattle.fancy_grammar.specs.Tree.{Tree}
use Rattle.fancy_grammar.proofs.Unique.{value_of, state_of, done_or_failed, same_layout, layout_or_failed, ap_at}
use Rattle.fancy_grammar.proofs.Unique.{alternation_unique, branch_unique, piece_unique, atom_unique, of_unique}
use Rattle.fancy_grammar.proofs.Unique.{inside_unique, body_unique}

module _ (named : Bool) where
  -- the start of an atom, under two equal descriptions
  equal_start : {k l : AtomStart} {d : ℕ} {s : State} {o : Outcome Tree} (i : l ≡ k) (b : AtomOf l d s o) →
      atom_of_spans named (subst (λ (x : AtomStart). AtomOf x d s o) i b) ≡ atom_of_spans named b
  equal_start {l} {d} {s} {o} i b =
      path_j (λ (x : AtomStart) (p : l ≡ x).
      atom_of_spans named (subst (λ (y : AtomStart). AtomOf y d s o) p b) ≡ atom_of_spans named b)
      (ap (λ (c : AtomOf l d s o). atom_of_spans named c) (subst_refl (λ (y : AtomStart). AtomOf y d s o) b)) i

  -- as in `Unique`: an earlier part has one outcome, which decides the rule that reads on
  mutual
    alternation_same : {d : ℕ} {s z : State} {o q : Outcome Tree} (a : Alternation d s o) (b : Alternation d z q) →
        s ≡ z → alternation_spans named a ≡ alternation_spans named b
    alternation_same (alternation a) (alternation b) e =
        let h = alternation_unique (alternation a) (alternation b) e in
        let x = branches_same a b e in λ i. one_or_node (between (e i) (h i)) (x i)

    branches_same : {d : ℕ} {s z : State} {o q : Outcome (List Tree)} (a : Branches d s o) (b : Branches d z q) →
        s ≡ z → branches_spans named a ≡ branches_spans named b
    branches_same (last a f) (last b g) e = ap (λ x. more_spans x no_spans) (branch_same a b e)
    branches_same (last a f) (more b g m) e = let h = branch_unique a b e in absurd cc
    branches_same (last a f) (branch_error b) e = absurd (done_or_failed (branch_unique a b e))
    branches_same (more a f m) (last b g) e = let h = branch_unique a b e in absurd cc
    branches_same (more {u} a f m) (more {u = v} b g l) e =
        let h = branch_unique a b e in
        let same : u ≡ v = cc in
        let x = branch_same a b e in
        let y = branches_same m l cc in λ i. more_spans (x i) (after_bar (reach_of (same i)) (y i))
    branches_same (more a f m) (branch_error b) e = absurd (done_or_failed (branch_unique a b e))
    branches_same (branch_error a) (last b g) e = absurd (done_or_failed (sym (branch_unique a b e)))
    branches_same (branch_error a) (more b g m) e = absurd (done_or_failed (sym (branch_unique a b e)))
    branches_same (branch_error a) (branch_error b) e = refl

    branch_same : {d : ℕ} {s z : State} {o q : Outcome Tree} (a : Branch d s o) (b : Branch d z q) → s ≡ z →
        branch_spans named a ≡ branch_spans named b
    branch_same (branch a) (branch b) e =
        let h = branch_unique (branch a) (branch b) e in
        let x = pieces_same a b e in λ i. one_or_node (between (e i) (h i)) (x i)

    pieces_same : {d : ℕ} {s z : State} {o q : Outcome (List Tree)} (a : Pieces d s o) (b : Pieces d z q) → s ≡ z →
        pieces_spans named a ≡ pieces_spans named b
    pieces_same (stop f) (stop g) e = refl
    pieces_same (stop f) (next g b m) e = absurd cc
    pieces_same (stop f) (piece_error g b) e = absurd cc
    pieces_same (next f a m) (stop g) e = absurd cc
    pieces_same (next f a m) (next g b l) e =
        let h = piece_unique a b e in
        let r = value_of h in
        let x = piece_same a b e in
        let y = pieces_same m l (state_of h) in λ i. solid_spans (r i) (x i) (y i)
    pieces_same (next f a m) (piece_error g b) e = absurd (done_or_failed (piece_unique a b e))
    pieces_same (piece_error f a) (stop g) e = absurd cc
    pieces_same (piece_error f a) (next g b m) e = absurd (done_or_failed (sym (piece_unique a b e)))
    pieces_same (piece_error f a) (piece_error g b) e = refl

    piece_same : {d : ℕ} {s z : State} {o q : Outcome Tree} (a : Piece d s o) (b : Piece d z q) → s ≡ z →
        piece_spans named a ≡ piece_spans named b
    piece_same (piece l a) (piece m b) e =
        let u = same_layout l m e in
        let h = atom_unique a b (ap_at e u) in
        let x = atom_same a b (ap_at e u) in
        λ i. quants_spans (bytes (e i).rest) (reach_of (u i)) (h i) (x i)
    piece_same (piece l a) (layout_error m) e = absurd (layout_or_failed l m e)
    piece_same (layout_error l) (piece m b) e = absurd (layout_or_failed m l (sym e))
    piece_same {d} (layout_error l) (layout_error m) e =
        let h = piece_unique {d = d} (layout_error l) (layout_error m) e in λ i. alone (between (e i) (h i))

    atom_same : {d : ℕ} {s z : State} {o q : Outcome Tree} (a : Atom d s o) (b : Atom d z q) → s ≡ z →
        atom_spans named a ≡ atom_spans named b
    atom_same (atom {d} {k} f a) (atom {s = z} {k = l} {q} g b) e =
        let i : l ≡ k = cc in of_same a (subst (λ (x : AtomStart). AtomOf x d z q) i b) e ∙ equal_start i b

    of_same : {k : AtomStart} {d : ℕ} {s z : State} {o q : Outcome Tree} (a : AtomOf k d s o) (b : AtomOf k d z q) →
        s ≡ z → atom_of_spans named a ≡ atom_of_spans named b
    of_same {d} a_nothing a_nothing e =
        let h = of_unique {d = d} a_nothing a_nothing e in λ i. alone (between (e i) (h i))
    of_same {o} a_read a_read e = λ i. alone (between (e i) o)
    of_same (a_group {h} a) (a_group b) e =
        let q = of_unique (a_group a) (a_group b) e in
        let x = inside_same a b refl in λ i. group_spans named h (between (e i) (q i)) (x i)
    of_same (a_condition i a) (a_condition j b) e =
        let h = inside_unique i j refl in body_same a b (value_of h) (state_of h) e (inside_same i j refl)
    of_same (a_condition i a) (condition_error j) e = absurd (done_or_failed (inside_unique i j refl))
    of_same (condition_error i) (a_condition j b) e = absurd (done_or_failed (sym (inside_unique i j refl)))
    of_same (condition_error i) (condition_error j) e =
        let h = inside_unique i j refl in λ i. alone (between (e i) (h i))
    of_same (a_body {t} a) (a_body b) e = body_same a b refl refl e (λ i. alone (condition_span (e i) t))
    of_same (two_branches a f m) (two_branches b g l) e =
        let h = branch_unique a b refl in
        let q = of_unique (two_branches a f m) (two_branches b g l) e in
        let x = branch_same a b refl in
        let y = branch_same m l cc in
        λ i. node (between (e i) (q i)) (more_spans (x i) (more_spans (y i) no_spans))
    of_same (two_branches a f m) (one_branch b g) e = let h = branch_unique a b refl in absurd cc
    of_same (two_branches a f m) (absent_error b) e = absurd (done_or_failed (branch_unique a b refl))
    of_same (one_branch a f) (two_branches b g l) e = let h = branch_unique a b refl in absurd cc
    of_same (one_branch a f) (one_branch b g) e =
        let r = value_of (branch_unique a b refl) in
        let q = of_unique (one_branch a f) (one_branch b g) e in
        let x = branch_same a b refl in λ i. node (between (e i) (q i)) (solid_spans (r i) (x i) no_spans)
    of_same (one_branch a f) (absent_error b) e = absurd (done_or_failed (branch_unique a b refl))
    of_same (absent_error a) (two_branches b g l) e = absurd (done_or_failed (sym (branch_unique a b refl)))
    of_same (absent_error a) (one_branch b g) e = absurd (done_or_failed (sym (branch_unique a b refl)))
    of_same (absent_error a) (absent_error b) e = let h = branch_unique a b refl in λ i. alone (between (e i) (h i))

    inside_same : {d : ℕ} {s z : State} {o q : Outcome Tree} (a : Inside d s o) (b : Inside d z q) → s ≡ z →
        inside_spans named a ≡ inside_spans named b
    inside_same (inside a) (inside b) e = alternation_same a b e

    body_same : {d : ℕ} {c x : Tree} {s z v w : State} {y t : Spans} {o q : Outcome Tree} (a : Body d c s o)
        (b : Body d x z q) → c ≡ x → s ≡ z → v ≡ w → y ≡ t → body_spans named v y a ≡ body_spans named w t b
    body_same (the_body a) (the_body b) i e k m =
        let same = body_unique (the_body a) (the_body b) i e in
        let h = alternation_unique a b e in
        let x = alternation_same a b e in λ i. conditional_spans (between (k i) (same i)) (m i) (h i) (x i)

  pub whole_same : {f : Flags} {text : Text} {o q : Outcome Tree} (a : Whole f text o) (b : Whole f text q) →
      whole_spans named a ≡ whole_spans named b
  whole_same (whole a) (whole b) = alternation_same a b refl
