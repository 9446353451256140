-- What the tree of a text does not hold does not depend on its derivation.
use Rattle.std.proofs.Common.{◌≡◌, ℕ, ◌+◌, false, ◌&&◌, if◌then◌else◌, List, [], ◌++◌, refl, sym, subst, ap, ◌∙◌, map}
use mathlib.Core.Path.{path_j, subst_refl}
use Rattle.fancy_lex.specs.Text.{Text, bytes, reach_of}
use Rattle.fancy_lex.specs.declared.flags.Flags.{Flags}
use Rattle.fancy_grammar.specs.Ranks.{only_named}
use Rattle.fancy_grammar.specs.AtomStart.{AtomStart}
use Rattle.fancy_grammar.specs.Grammar.{Alternation, alternation, Branches, last, more, branch_error, Branch, branch}
use Rattle.fancy_grammar.specs.Grammar.{Pieces, stop, next, piece_error, Piece, piece, layout_error, Atom, atom, AtomOf}
use Rattle.fancy_grammar.specs.Grammar.{a_nothing, a_read, a_group, a_condition, condition_error, a_body, two_branches}
use Rattle.fancy_grammar.specs.Grammar.{one_branch, absent_error, Inside, inside, Body, the_body, Whole, whole}
use Rattle.fancy_grammar.specs.Grammar.{branches_of}
use Rattle.fancy_grammar.specs.Items.{openings}
use Rattle.fancy_grammar.specs.Join.{is_empty}
use Rattle.fancy_grammar.specs.Spans.{condition_span, end_of, if_done}
use Rattle.fancy_grammar.specs.State.{State, Outcome}
use Rattle.fancy_grammar.specs.Tree.{Tree}
use Rattle.fancy_grammar.specs.Trivia.{Trivium, Passed, IsTriviaOf, located, kept, comments_at, flags_of_atom, inner_at}
use Rattle.fancy_grammar.specs.Trivia.{opening_of, closing_of, with_dropped, filled, leaves_condition}
use Rattle.fancy_grammar.specs.Trivia.{quants_trivia, alternation_trivia, branches_trivia, branch_trivia, pieces_trivia}
use Rattle.fancy_grammar.specs.Trivia.{piece_trivia, atom_trivia, atom_of_trivia, inside_trivia, body_trivia, whole_trivia}
use Rattle.fancy_grammar.proofs.Unique.{value_of, state_of, done_or_failed, same_layout, layout_or_failed, ap_at}
use Rattle.fancy_grammar.proofs.Unique.{alternation_unique, branch_unique, piece_unique, atom_unique, of_unique}
use Rattle.fancy_grammar.proofs.Unique.{inside_unique, whole_unique}

-- the start of an atom, under two equal descriptions
equal_start : {k l : AtomStart} {d : ℕ} {s : State} {o : Outcome Tree} (p : List Passed) (i : l ≡ k)
    (b : AtomOf l d s o) → atom_of_trivia (subst (λ (x : AtomStart). AtomOf x d s o) i b) p ≡ atom_of_trivia b p
equal_start {l} {d} {s} {o} p i b =
    path_j (λ (x : AtomStart) (j : l ≡ x).
    atom_of_trivia (subst (λ (y : AtomStart). AtomOf y d s o) j b) p ≡ atom_of_trivia b p)
    (ap (λ (c : AtomOf l d s o). atom_of_trivia c p) (subst_refl (λ (y : AtomStart). AtomOf y d s o) b)) i

-- whether a conditional leaves only its condition depends on where its body begins
leaves_same : {d : ℕ} {c x : Tree} {s z : State} {o q : Outcome Tree} (a : Body d c s o) (b : Body d x z q) → s ≡ z →
    leaves_condition a ≡ leaves_condition b
leaves_same (the_body a) (the_body b) e =
    ap (λ o. if_done o (λ r v. is_empty (branches_of r).0 && is_empty (branches_of r).1) false) (alternation_unique a b e)

-- as in `Unique`: an earlier part has one outcome, which decides the rule that reads on
mutual
  alternation_same : {d : ℕ} {s z : State} {o q : Outcome Tree} (a : Alternation d s o) (b : Alternation d z q)
      (p : List Passed) → s ≡ z → alternation_trivia a p ≡ alternation_trivia b p
  alternation_same (alternation a) (alternation b) p e = branches_same a b p e

  branches_same : {d : ℕ} {s z : State} {o q : Outcome (List Tree)} (a : Branches d s o) (b : Branches d z q)
      (p : List Passed) → s ≡ z → branches_trivia a p ≡ branches_trivia b p
  branches_same (last a f) (last b g) p e = branch_same a b p e
  branches_same (last a f) (more b g m) p e = let h = branch_unique a b e in absurd cc
  branches_same (last a f) (branch_error b) p e = absurd (done_or_failed (branch_unique a b e))
  branches_same (more a f m) (last b g) p e = let h = branch_unique a b e in absurd cc
  branches_same (more {u} a f m) (more {u = v} b g l) p e =
      let h = branch_unique a b e in
      let same : u ≡ v = cc in
      let x = branches_same m l (branch_trivia a p) cc in x ∙ ap (branches_trivia l) (branch_same a b p e)
  branches_same (more a f m) (branch_error b) p e = absurd (done_or_failed (branch_unique a b e))
  branches_same (branch_error a) (last b g) p e = absurd (done_or_failed (sym (branch_unique a b e)))
  branches_same (branch_error a) (more b g m) p e = absurd (done_or_failed (sym (branch_unique a b e)))
  branches_same (branch_error a) (branch_error b) p e = branch_same a b p e

  branch_same : {d : ℕ} {s z : State} {o q : Outcome Tree} (a : Branch d s o) (b : Branch d z q) (p : List Passed) →
      s ≡ z → branch_trivia a p ≡ branch_trivia b p
  branch_same (branch a) (branch b) p e = pieces_same a b p e

  pieces_same : {d : ℕ} {s z : State} {o q : Outcome (List Tree)} (a : Pieces d s o) (b : Pieces d z q)
      (p : List Passed) → s ≡ z → pieces_trivia a p ≡ pieces_trivia b p
  pieces_same (stop f) (stop g) p e = refl
  pieces_same (stop f) (next g b m) p e = absurd cc
  pieces_same (stop f) (piece_error g b) p e = absurd cc
  pieces_same (next f a m) (stop g) p e = absurd cc
  pieces_same (next f a m) (next g b l) p e =
      pieces_same m l (piece_trivia a p) (state_of (piece_unique a b e)) ∙ ap (pieces_trivia l) (piece_same a b p e)
  pieces_same (next f a m) (piece_error g b) p e = absurd (done_or_failed (piece_unique a b e))
  pieces_same (piece_error f a) (stop g) p e = absurd cc
  pieces_same (piece_error f a) (next g b m) p e = absurd (done_or_failed (sym (piece_unique a b e)))
  pieces_same (piece_error f a) (piece_error g b) p e = piece_same a b p e

  piece_same : {d : ℕ} {s z : State} {o q : Outcome Tree} (a : Piece d s o) (b : Piece d z q) (p : List Passed) →
      s ≡ z → piece_trivia a p ≡ piece_trivia b p
  piece_same {s} (piece l a) (piece m b) p e =
      let u = same_layout l m e in
      let h = atom_unique a b (ap_at e u) in
      let x = atom_same a b (p ++ comments_at s) (ap_at e u) ∙ ap (λ w. atom_trivia b (p ++ comments_at w)) e in
      λ i. quants_trivia (bytes (e i).rest) (h i) (x i)
  piece_same (piece l a) (layout_error m) p e = absurd (layout_or_failed l m e)
  piece_same (layout_error l) (piece m b) p e = absurd (layout_or_failed m l (sym e))
  piece_same (layout_error l) (layout_error m) p e = refl

  atom_same : {d : ℕ} {s z : State} {o q : Outcome Tree} (a : Atom d s o) (b : Atom d z q) (p : List Passed) →
      s ≡ z → atom_trivia a p ≡ atom_trivia b p
  atom_same (atom {d} {k} f a) (atom {s = z} {k = l} {q} g b) p e =
      let i : l ≡ k = cc in of_same a (subst (λ (x : AtomStart). AtomOf x d z q) i b) p e ∙ equal_start p i b

  of_same : {k : AtomStart} {d : ℕ} {s z : State} {o q : Outcome Tree} (a : AtomOf k d s o) (b : AtomOf k d z q)
      (p : List Passed) → s ≡ z → atom_of_trivia a p ≡ atom_of_trivia b p
  of_same a_nothing a_nothing p e = refl
  of_same {o} a_read a_read p e = λ i. (p ++ flags_of_atom (e i) o) ++ inner_at (e i) (end_of o)
  of_same {s} (a_group {t} {h} a) (a_group b) p e =
      let q = of_unique (a_group a) (a_group b) e in
      let around : State → List Passed = λ w. (p ++ opening_of h w t) ++ inner_at w (reach_of t.rest) in
      let x = inside_same a b (around s) refl ∙ ap (λ w. inside_trivia b (around w)) e in
      λ i. x i ++ closing_of h (end_of (q i))
  of_same {s} (a_condition {t} i a) (a_condition j b) p e =
      let h = state_of (inside_unique i j refl) in
      let q = of_unique (a_condition i a) (a_condition j b) e in
      let only = leaves_same a b h in
      let around : State → List Passed =
      λ w. with_dropped (reach_of w.rest) (reach_of t.rest) p ++ inner_at w (reach_of t.rest) in
      let before = inside_same i j (around s) refl ∙ ap (λ w. inside_trivia j (around w)) e in
      let alone = body_same a b [] h in
      let both =
      body_same a b (inside_trivia i (p ++ inner_at s (reach_of t.rest))) h
      ∙ ap (body_trivia b) (inside_same i j (p ++ inner_at s (reach_of t.rest)) refl
      ∙ ap (λ w. inside_trivia j (p ++ inner_at w (reach_of t.rest))) e) in
      λ k. if only k then filled (reach_of (h k).rest + 1) (end_of (q k)) (alone k) (before k) else both k
  of_same (a_condition i a) (condition_error j) p e = absurd (done_or_failed (inside_unique i j refl))
  of_same (condition_error i) (a_condition j b) p e = absurd (done_or_failed (sym (inside_unique i j refl)))
  of_same {s} (condition_error {t} i) (condition_error j) p e =
      inside_same i j (p ++ inner_at s (reach_of t.rest)) refl ∙ ap (λ w. inside_trivia j (p ++ inner_at w (reach_of t.rest))) e
  of_same {s} (a_body {t} a) (a_body b) p e =
      let q = of_unique (a_body a) (a_body b) e in
      let only = leaves_same a b refl in
      let alone = body_same a b [] refl in
      let start : State → ℕ = λ w. (condition_span w t).start in
      let both =
      body_same a b (p ++ inner_at s (start s)) refl ∙ ap (λ w. body_trivia b (p ++ inner_at w (start w))) e in
      λ k.
      let w = e k in
      let before = with_dropped (reach_of w.rest) (start w) p ++ inner_at w (start w) in
      if only k then filled (reach_of t.rest + 1) (end_of (q k)) (alone k) before else both k
  of_same {s} (two_branches {t} a f m) (two_branches b g l) p e =
      let h = branch_unique a b refl in
      let q = p ++ inner_at s (reach_of t.rest) in
      let x = branch_same m l (branch_trivia a q) cc in
      x ∙ ap (branch_trivia l) (branch_same a b q refl ∙ ap (λ w. branch_trivia b (p ++ inner_at w (reach_of t.rest))) e)
  of_same (two_branches a f m) (one_branch b g) p e = let h = branch_unique a b refl in absurd cc
  of_same (two_branches a f m) (absent_error b) p e = absurd (done_or_failed (branch_unique a b refl))
  of_same (one_branch a f) (two_branches b g l) p e = let h = branch_unique a b refl in absurd cc
  of_same {s} (one_branch {t} a f) (one_branch b g) p e =
      branch_same a b (p ++ inner_at s (reach_of t.rest)) refl ∙ ap (λ w. branch_trivia b (p ++ inner_at w (reach_of t.rest))) e
  of_same (one_branch a f) (absent_error b) p e = absurd (done_or_failed (branch_unique a b refl))
  of_same (absent_error a) (two_branches b g l) p e = absurd (done_or_failed (sym (branch_unique a b refl)))
  of_same (absent_error a) (one_branch b g) p e = absurd (done_or_failed (sym (branch_unique a b refl)))
  of_same {s} (absent_error {t} a) (absent_error b) p e =
      branch_same a b (p ++ inner_at s (reach_of t.rest)) refl ∙ ap (λ w. branch_trivia b (p ++ inner_at w (reach_of t.rest))) e

  inside_same : {d : ℕ} {s z : State} {o q : Outcome Tree} (a : Inside d s o) (b : Inside d z q) (p : List Passed) →
      s ≡ z → inside_trivia a p ≡ inside_trivia b p
  inside_same (inside a) (inside b) p e = alternation_same a b p e

  body_same : {d : ℕ} {c x : Tree} {s z : State} {o q : Outcome Tree} (a : Body d c s o) (b : Body d x z q)
      (p : List Passed) → s ≡ z → body_trivia a p ≡ body_trivia b p
  body_same (the_body a) (the_body b) p e = alternation_same a b p e

whole_same : {f : Flags} {text : Text} {o q : Outcome Tree} (a : Whole f text o) (b : Whole f text q) →
    whole_trivia a ≡ whole_trivia b
whole_same (whole a) (whole b) = alternation_same a b [] refl

-- a text has one list of trivia
pub only_trivia : {f : Flags} {text : Text} (l m : List Trivium) → IsTriviaOf f text l → IsTriviaOf f text m → m ≡ l
only_trivia {f} {text} l m (r, t, a, e) (q, v, b, h) =
    let same : r ≡ q = value_of (whole_unique a b) in
    let returned : List Trivium → List Trivium = map (located (bytes text)) in
    h ∙ ap returned (ap (λ x. kept (only_named f (openings x)) (whole_trivia b)) (sym same)
    ∙ ap (kept (only_named f (openings r))) (sym (whole_same a b)))
    ∙ sym e
