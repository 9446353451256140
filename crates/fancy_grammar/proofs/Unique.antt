-- From a start there is at most one outcome.
use Rattle.std.proofs.Common.{◌≡◌, ℕ, refl, sym, subst, ap, ap₂, ◌∙◌, List, ◌∷◌}
use Rattle.fancy_lex.specs.Located.{Located}
use Rattle.fancy_lex.specs.Text.{Text, bytes, reach_of}
use Rattle.fancy_lex.specs.declared.flags.Flags.{Flags}
use Rattle.fancy_lex.specs.LayoutSteps.{rest, failed as open_comment}
use Rattle.fancy_grammar.specs.AtomStart.{AtomStart}
use Rattle.fancy_grammar.specs.Grammar.{Alternation, alternation, Branches, last, more, branch_error, Branch, branch}
use Rattle.fancy_grammar.specs.Grammar.{Pieces, stop, next, piece_error, Piece, piece, layout_error, Atom, atom, AtomOf}
use Rattle.fancy_grammar.specs.Grammar.{a_nothing, a_read, a_group, a_condition, condition_error, a_body, two_branches}
use Rattle.fancy_grammar.specs.Grammar.{one_branch, absent_error, Inside, inside, Body, the_body, Whole, whole, closed}
use Rattle.fancy_grammar.specs.Grammar.{conditional_after, clear_or_stopper}
use Rattle.fancy_grammar.specs.GroupKind.{group_node}
use Rattle.fancy_grammar.specs.Quantified.{quants}
use Rattle.fancy_grammar.specs.State.{skipped, State, at, Outcome, done, failed, and_then, mapped}
use Rattle.fancy_grammar.specs.Tree.{Tree, expression}

-- ---- what one outcome implies for another

pub value_of : {A : Type 0} {a b : A} {s t : State} → ◌≡◌ {A = Outcome A} (done a s) (done b t) → a ≡ b
value_of e = cc

pub state_of : {A : Type 0} {a b : A} {s t : State} → ◌≡◌ {A = Outcome A} (done a s) (done b t) → s ≡ t
state_of e = cc

pub done_or_failed : {A : Type 0} {a : A} {s : State} {f : Located} → ◌≡◌ {A = Outcome A} (done a s) (failed f) → ⊥
done_or_failed e = cc

same_error : {A B : Type 0} {f g : Located} → ◌≡◌ {A = Outcome A} (failed f) (failed g) →
    ◌≡◌ {A = Outcome B} (failed f) (failed g)
same_error e = cc

-- the same part after the same outcome
then_same : {A B : Type 0} (f : A → State → Outcome B) {q r : Outcome A} → q ≡ r → and_then q f ≡ and_then r f
then_same f h = ap (λ x. and_then x f) h

in_front_same : {A : Type 0} {a b : A} {q r : Outcome (List A)} → a ≡ b → q ≡ r →
    mapped (λ l. a ∷ l) q ≡ mapped (λ l. b ∷ l) r
in_front_same i h = ap₂ (λ a q. mapped (λ l. a ∷ l) q) i h

-- ---- layout is a function

same_skipped : {s z : State} → s ≡ z → skipped s ≡ skipped z
same_skipped e = ap (skipped) e

rest_same : (u v : Text) → rest u ≡ rest v → u ≡ v
rest_same u v e = cc

rest_or_failed : (u : Text) (p : ℕ) → rest u ≡ open_comment p → ⊥
rest_or_failed u p e = cc

pub same_layout : {s z : State} {u v : Text} → skipped s ≡ rest u → skipped z ≡ rest v → s ≡ z → u ≡ v
same_layout {u} {v} l m e = rest_same u v (sym l ∙ same_skipped e ∙ m)

pub layout_or_failed : {s z : State} {u : Text} {p : ℕ} → skipped s ≡ rest u → skipped z ≡ open_comment p →
    s ≡ z → ⊥
layout_or_failed {u} {p} l m e = rest_or_failed u p (sym l ∙ same_skipped e ∙ m)

pub ap_at : {s z : State} {u v : Text} → s ≡ z → u ≡ v → at s u ≡ at z v
ap_at e i = cc

-- by induction on both derivations: an earlier part has one outcome, which decides the rule that reads on
mutual
  pub alternation_unique : {d : ℕ} {s z : State} {o q : Outcome Tree} → Alternation d s o → Alternation d z q →
      s ≡ z → o ≡ q
  alternation_unique (alternation a) (alternation b) e = then_same _ (branches_unique a b e)

  branches_unique : {d : ℕ} {s z : State} {o q : Outcome (List Tree)} → Branches d s o → Branches d z q → s ≡ z →
      o ≡ q
  branches_unique (last a f) (last b g) e = let h = branch_unique a b e in cc
  branches_unique (last a f) (more b g m) e = let h = branch_unique a b e in absurd cc
  branches_unique (last a f) (branch_error b) e = absurd (done_or_failed (branch_unique a b e))
  branches_unique (more a f m) (last b g) e = let h = branch_unique a b e in absurd cc
  branches_unique (more a f m) (more b g l) e =
      let h = branch_unique a b e in in_front_same (value_of h) (branches_unique m l cc)
  branches_unique (more a f m) (branch_error b) e = absurd (done_or_failed (branch_unique a b e))
  branches_unique (branch_error a) (last b g) e = absurd (done_or_failed (sym (branch_unique a b e)))
  branches_unique (branch_error a) (more b g m) e = absurd (done_or_failed (sym (branch_unique a b e)))
  branches_unique (branch_error a) (branch_error b) e = same_error (branch_unique a b e)

  pub branch_unique : {d : ℕ} {s z : State} {o q : Outcome Tree} → Branch d s o → Branch d z q → s ≡ z → o ≡ q
  branch_unique (branch a) (branch b) e = then_same _ (pieces_unique a b e)

  pieces_unique : {d : ℕ} {s z : State} {o q : Outcome (List Tree)} → Pieces d s o → Pieces d z q → s ≡ z → o ≡ q
  pieces_unique (stop f) (stop g) e = cc
  pieces_unique (stop f) (next g b m) e = absurd cc
  pieces_unique (stop f) (piece_error g b) e = absurd cc
  pieces_unique (next f a m) (stop g) e = absurd cc
  pieces_unique (next f a m) (next g b l) e =
      let h = piece_unique a b e in in_front_same (value_of h) (pieces_unique m l (state_of h))
  pieces_unique (next f a m) (piece_error g b) e = absurd (done_or_failed (piece_unique a b e))
  pieces_unique (piece_error f a) (stop g) e = absurd cc
  pieces_unique (piece_error f a) (next g b m) e = absurd (done_or_failed (sym (piece_unique a b e)))
  pieces_unique (piece_error f a) (piece_error g b) e = same_error (piece_unique a b e)

  pub piece_unique : {d : ℕ} {s z : State} {o q : Outcome Tree} → Piece d s o → Piece d z q → s ≡ z → o ≡ q
  piece_unique (piece {d} l a) (piece m b) e =
      let h = atom_unique a b (ap_at e (same_layout l m e)) in
      ap₂ (λ (x : State) q. and_then q (quants d (bytes x.rest))) e h
  piece_unique (piece l a) (layout_error m) e = absurd (layout_or_failed l m e)
  piece_unique (layout_error l) (piece m b) e = absurd (layout_or_failed m l (sym e))
  piece_unique (layout_error l) (layout_error m) e = let h = same_skipped e in cc

  pub atom_unique : {d : ℕ} {s z : State} {o q : Outcome Tree} → Atom d s o → Atom d z q → s ≡ z → o ≡ q
  atom_unique (atom {d} {k} f a) (atom {s = z} {k = l} {q} g b) e =
      let i : l ≡ k = cc in let same = of_unique a (subst (λ (x : AtomStart). AtomOf x d z q) i b) e in cc

  pub of_unique : {k : AtomStart} {d : ℕ} {s z : State} {o q : Outcome Tree} → AtomOf k d s o → AtomOf k d z q → s ≡ z →
      o ≡ q
  of_unique a_nothing a_nothing e = cc
  of_unique a_read a_read e = cc
  of_unique (a_group {h} a) (a_group b) e =
      ap₂ (λ (x : State) q. mapped (group_node h (reach_of x.rest)) q) e (inside_unique a b refl)
  of_unique (a_condition i a) (a_condition j b) e =
      let h = inside_unique i j refl in body_unique a b (value_of h) (state_of h)
  of_unique (a_condition i a) (condition_error j) e = absurd (done_or_failed (inside_unique i j refl))
  of_unique (condition_error i) (a_condition j b) e = absurd (done_or_failed (sym (inside_unique i j refl)))
  of_unique (condition_error i) (condition_error j) e = inside_unique i j refl
  of_unique (a_body a) (a_body b) e = body_unique a b refl refl
  of_unique (two_branches a f m) (two_branches b g l) e =
      let h = branch_unique a b refl in
      ap₂ (λ (x : Tree) q. and_then q (λ r. closed (expression x r))) (value_of h) (branch_unique m l cc)
  of_unique (two_branches a f m) (one_branch b g) e = let h = branch_unique a b refl in absurd cc
  of_unique (two_branches a f m) (absent_error b) e = absurd (done_or_failed (branch_unique a b refl))
  of_unique (one_branch a f) (two_branches b g l) e = let h = branch_unique a b refl in absurd cc
  of_unique (one_branch a f) (one_branch b g) e =
      let h = branch_unique a b refl in ap₂ (λ x v. closed (clear_or_stopper x) v) (value_of h) (state_of h)
  of_unique (one_branch a f) (absent_error b) e = absurd (done_or_failed (branch_unique a b refl))
  of_unique (absent_error a) (two_branches b g l) e = absurd (done_or_failed (sym (branch_unique a b refl)))
  of_unique (absent_error a) (one_branch b g) e = absurd (done_or_failed (sym (branch_unique a b refl)))
  of_unique (absent_error a) (absent_error b) e = branch_unique a b refl

  pub inside_unique : {d : ℕ} {s z : State} {o q : Outcome Tree} → Inside d s o → Inside d z q → s ≡ z → o ≡ q
  inside_unique (inside a) (inside b) e = then_same _ (alternation_unique a b e)

  pub body_unique : {d : ℕ} {c x : Tree} {s z : State} {o q : Outcome Tree} → Body d c s o → Body d x z q → c ≡ x →
      s ≡ z → o ≡ q
  body_unique (the_body {s} {q} a) (the_body {c = x} b) i e =
      ap (λ (y : Tree). and_then q (conditional_after y (bytes s.rest))) i
      ∙ ap₂ (λ (y : State) o. and_then o (conditional_after x (bytes y.rest))) e (alternation_unique a b e)

pub whole_unique : {f : Flags} {text : Text} {o q : Outcome Tree} → Whole f text o → Whole f text q → o ≡ q
whole_unique (whole a) (whole b) = then_same _ (alternation_unique a b refl)
