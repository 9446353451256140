-- What a derivation adds to a list of trivia does not depend on the list.
use Rattle.std.proofs.Common.{◌≡◌, ℕ, zero, suc, ◌+◌, ◌==◌, nat_lt, Bool, true, false, if◌then◌else◌, List, [], ◌∷◌, ◌++◌}
use Rattle.std.proofs.Common.{Option, Some, None, refl, sym, ap, ◌∙◌, append_assoc, append-nil}
use Rattle.fancy_lex.specs.Reading.{choose}
use Rattle.fancy_lex.specs.Text.{Text, bytes, reach_of}
use Rattle.fancy_lex.specs.declared.counts.Counts.{Counts}
use Rattle.fancy_grammar.specs.AtomStart.{AtomStart}
use Rattle.fancy_grammar.specs.Grammar.{Alternation, alternation, Branches, last, more, branch_error, Branch, branch}
use Rattle.fancy_grammar.specs.Grammar.{Pieces, stop, next, piece_error, Piece, piece, layout_error, Atom, atom, AtomOf}
use Rattle.fancy_grammar.specs.Grammar.{a_nothing, a_read, a_group, a_condition, condition_error, a_body, two_branches}
use Rattle.fancy_grammar.specs.Grammar.{one_branch, absent_error, Inside, inside, Body, the_body}
use Rattle.fancy_grammar.specs.Quantified.{quant, suffix, Suffix, is_repeatable, is_unmoved, max_adjacent}
use Rattle.fancy_grammar.specs.Spans.{condition_span, counts_ahead, end_of, if_done}
use Rattle.fancy_grammar.specs.State.{State, at, Outcome, done, failed}
use Rattle.fancy_grammar.specs.Tree.{Tree}
use Rattle.fancy_grammar.specs.Trivia.{Passed, part, dropped, comments_at, flags_of_atom, opening_of, closing_of}
use Rattle.fancy_grammar.specs.Trivia.{inner_at, inner_of_counts, after_layout}
use Rattle.fancy_grammar.specs.Trivia.{with_dropped, filled, layout_end, counted_trivia, quant_trivia, adjacent_trivia}
use Rattle.fancy_grammar.specs.Trivia.{quants_trivia, leaves_condition, alternation_trivia, branches_trivia, branch_trivia}
use Rattle.fancy_grammar.specs.Trivia.{pieces_trivia, piece_trivia, atom_trivia, atom_of_trivia, inside_trivia, body_trivia}

-- ---- what leaves nothing in the tree

dropped_after : (start end : ℕ) (p q : List Passed) → with_dropped start end (p ++ q) ≡ p ++ with_dropped start end q
dropped_after start end p q = by_test (start == end)
  where
    by_test : (b : Bool) → (if b then p ++ q else (p ++ q) ++ part start end dropped false ∷ [])
        ≡ p ++ (if b then q else q ++ part start end dropped false ∷ [])
    by_test true = refl
    by_test false = append_assoc p q (part start end dropped false ∷ [])

filled_after : (l : List Passed) (start end : ℕ) (p q : List Passed) →
    filled start end l (p ++ q) ≡ p ++ filled start end l q
filled_after [] start end p q = dropped_after start end p q
filled_after (x ∷ l) start end p q =
    by_test (nat_lt start x.trivium.span.start) (filled_after l start end p (q ++ x ∷ []))
    (filled_after l x.trivium.span.end end p (r ++ x ∷ []))
  where
    r : List Passed
    r = with_dropped start x.trivium.span.start q

    by_test : (b : Bool) → filled start end l (p ++ (q ++ x ∷ [])) ≡ p ++ filled start end l (q ++ x ∷ []) →
        filled x.trivium.span.end end l (p ++ (r ++ x ∷ [])) ≡ p ++ filled x.trivium.span.end end l (r ++ x ∷ []) →
        (if b then filled start end l ((p ++ q) ++ x ∷ [])
        else filled x.trivium.span.end end l (with_dropped start x.trivium.span.start (p ++ q) ++ x ∷ []))
        ≡ p ++ (if b then filled start end l (q ++ x ∷ []) else filled x.trivium.span.end end l (r ++ x ∷ []))
    by_test true inner after = ap (filled start end l) (append_assoc p q (x ∷ [])) ∙ inner
    by_test false inner after =
        ap (filled x.trivium.span.end end l)
        (ap (λ z. z ++ x ∷ []) (dropped_after start x.trivium.span.start p q) ∙ append_assoc p r (x ∷ []))
        ∙ after

-- two more lists
two_after : (p q k l : List Passed) → ((p ++ q) ++ k) ++ l ≡ p ++ ((q ++ k) ++ l)
two_after p q k l = ap (λ z. z ++ l) (append_assoc p q k) ∙ append_assoc p (q ++ k) l

-- ---- quantifiers

counted_after : (w : Text) (a : Tree) (s : State) (p q : List Passed) (x : Counts × Text) →
    counted_trivia w a s (p ++ q) x ≡ p ++ counted_trivia w a s q x
counted_after w a s p q (c, t) = by_test (is_repeatable s.flags a)
  where
    -- the comments in the counts, and those after them
    i : List Passed
    i = inner_of_counts c w t

    l : List Passed
    l = comments_at (at s t)

    both_after : (z : List Passed) → ((p ++ z) ++ i) ++ l ≡ p ++ ((z ++ i) ++ l)
    both_after z = two_after p z i l

    counts_after : (with_dropped (reach_of w) (reach_of t) (p ++ q) ++ i) ++ l
        ≡ p ++ ((with_dropped (reach_of w) (reach_of t) q ++ i) ++ l)
    counts_after =
        ap (λ z. (z ++ i) ++ l) (dropped_after (reach_of w) (reach_of t) p q)
        ∙ both_after (with_dropped (reach_of w) (reach_of t) q)

    by_outcome : (o : Outcome Suffix) →
        (let r = (with_dropped (reach_of w) (reach_of t) (p ++ q) ++ i) ++ l in
        if_done o (λ m v. with_dropped (layout_end (at s t)) (reach_of v.rest) r) r)
        ≡ p ++ (let r = (with_dropped (reach_of w) (reach_of t) q ++ i) ++ l in
        if_done o (λ m v. with_dropped (layout_end (at s t)) (reach_of v.rest) r) r)
    by_outcome (done m v) =
        ap (with_dropped (layout_end (at s t)) (reach_of v.rest)) counts_after
        ∙ dropped_after (layout_end (at s t)) (reach_of v.rest) p ((with_dropped (reach_of w) (reach_of t) q ++ i) ++ l)
    by_outcome (failed e) = counts_after

    by_test : (b : Bool) →
        (if b then ((p ++ q) ++ i) ++ l else let r = (with_dropped (reach_of w) (reach_of t) (p ++ q) ++ i) ++ l in
        if_done (suffix (at s t) c) (λ m v. with_dropped (layout_end (at s t)) (reach_of v.rest) r) r)
        ≡ p ++ (if b then (q ++ i) ++ l else let r = (with_dropped (reach_of w) (reach_of t) q ++ i) ++ l in
        if_done (suffix (at s t) c) (λ m v. with_dropped (layout_end (at s t)) (reach_of v.rest) r) r)
    by_test true = both_after q
    by_test false = by_outcome (suffix (at s t) c)

quant_after : (a : Tree) (s : State) (p q : List Passed) → quant_trivia a s (p ++ q) ≡ p ++ quant_trivia a s q
quant_after a s p q =
    by_counts (counts_ahead s)
  where
    comments_after : (p ++ q) ++ comments_at s ≡ p ++ (q ++ comments_at s)
    comments_after = append_assoc p q (comments_at s)

    by_counts : (o : Option (Counts × Text)) →
        choose o (counted_trivia (after_layout s) a s ((p ++ q) ++ comments_at s)) ((p ++ q) ++ comments_at s)
        ≡ p ++ choose o (counted_trivia (after_layout s) a s (q ++ comments_at s)) (q ++ comments_at s)
    by_counts None = comments_after
    by_counts (Some x) =
        ap (λ z. counted_trivia (after_layout s) a s z x) comments_after
        ∙ counted_after (after_layout s) a s p (q ++ comments_at s) x

adjacent_after : (k : ℕ) (a : Tree) (s : State) (p q : List Passed) →
    adjacent_trivia k a s (p ++ q) ≡ p ++ adjacent_trivia k a s q
adjacent_after zero a s p q = quant_after a s p q
adjacent_after (suc k) a s p q = by_outcome (adjacent_after k) (quant (bytes s.rest) a s)
  where
    by_outcome : ((b : Tree) (t : State) (p q : List Passed) → adjacent_trivia k b t (p ++ q) ≡ p ++ adjacent_trivia k b t q) →
        (o : Outcome Tree) →
        if_done o (λ b t. if is_unmoved s t then quant_trivia a s (p ++ q)
        else adjacent_trivia k b t (quant_trivia a s (p ++ q))) (quant_trivia a s (p ++ q))
        ≡ p ++ if_done o (λ b t. if is_unmoved s t then quant_trivia a s q
        else adjacent_trivia k b t (quant_trivia a s q)) (quant_trivia a s q)
    by_outcome h (done b t) = by_test (is_unmoved s t)
      where
        by_test : (c : Bool) →
            (if c then quant_trivia a s (p ++ q) else adjacent_trivia k b t (quant_trivia a s (p ++ q)))
            ≡ p ++ (if c then quant_trivia a s q else adjacent_trivia k b t (quant_trivia a s q))
        by_test true = quant_after a s p q
        by_test false = ap (adjacent_trivia k b t) (quant_after a s p q) ∙ h b t p (quant_trivia a s q)
    by_outcome h (failed e) = quant_after a s p q

quants_after : (left : ℕ) (o : Outcome Tree) (p q : List Passed) →
    quants_trivia left o (p ++ q) ≡ p ++ quants_trivia left o q
quants_after left (failed e) p q = refl
quants_after left (done a s) p q = by_outcome (quant left a s)
  where
    by_outcome : (o : Outcome Tree) →
        if_done o (λ b t. if t.flags.oniguruma_mode then adjacent_trivia max_adjacent b t (quant_trivia a s (p ++ q))
        else quant_trivia a s (p ++ q)) (quant_trivia a s (p ++ q))
        ≡ p ++ if_done o (λ b t. if t.flags.oniguruma_mode then adjacent_trivia max_adjacent b t (quant_trivia a s q)
        else quant_trivia a s q) (quant_trivia a s q)
    by_outcome (done b t) = by_mode t.flags.oniguruma_mode
      where
        by_mode : (c : Bool) →
            (if c then adjacent_trivia max_adjacent b t (quant_trivia a s (p ++ q)) else quant_trivia a s (p ++ q))
            ≡ p ++ (if c then adjacent_trivia max_adjacent b t (quant_trivia a s q) else quant_trivia a s q)
        by_mode true =
            ap (adjacent_trivia max_adjacent b t) (quant_after a s p q)
            ∙ adjacent_after max_adjacent b t p (quant_trivia a s q)
        by_mode false = quant_after a s p q
    by_outcome (failed e) = quant_after a s p q

-- ---- the productions

-- a conditional of which only the condition is left, or another one
conditional_after : (b : Bool) (closing end : ℕ) (l p q r y z : List Passed) → y ≡ p ++ z →
    filled closing end l q ≡ p ++ filled closing end l r →
    (if b then filled closing end l q else y) ≡ p ++ (if b then filled closing end l r else z)
conditional_after true closing end l p q r y z e h = h
conditional_after false closing end l p q r y z e h = e

mutual
  alternation_after : {d : ℕ} {s : State} {o : Outcome Tree} (a : Alternation d s o) (p q : List Passed) →
      alternation_trivia a (p ++ q) ≡ p ++ alternation_trivia a q
  alternation_after (alternation b) p q = branches_after b p q

  branches_after : {d : ℕ} {s : State} {o : Outcome (List Tree)} (a : Branches d s o) (p q : List Passed) →
      branches_trivia a (p ++ q) ≡ p ++ branches_trivia a q
  branches_after (last b e) p q = branch_after b p q
  branches_after (more b e m) p q = ap (branches_trivia m) (branch_after b p q) ∙ branches_after m p (branch_trivia b q)
  branches_after (branch_error b) p q = branch_after b p q

  branch_after : {d : ℕ} {s : State} {o : Outcome Tree} (a : Branch d s o) (p q : List Passed) →
      branch_trivia a (p ++ q) ≡ p ++ branch_trivia a q
  branch_after (branch b) p q = pieces_after b p q

  pieces_after : {d : ℕ} {s : State} {o : Outcome (List Tree)} (a : Pieces d s o) (p q : List Passed) →
      pieces_trivia a (p ++ q) ≡ p ++ pieces_trivia a q
  pieces_after (stop e) p q = refl
  pieces_after (next e a m) p q = ap (pieces_trivia m) (piece_after a p q) ∙ pieces_after m p (piece_trivia a q)
  pieces_after (piece_error e a) p q = piece_after a p q

  piece_after : {d : ℕ} {s : State} {o : Outcome Tree} (a : Piece d s o) (p q : List Passed) →
      piece_trivia a (p ++ q) ≡ p ++ piece_trivia a q
  piece_after {s} (piece {q = o} i a) p q =
      ap (λ z. quants_trivia (bytes s.rest) o (atom_trivia a z)) (append_assoc p q (comments_at s))
      ∙ ap (quants_trivia (bytes s.rest) o) (atom_after a p (q ++ comments_at s))
      ∙ quants_after (bytes s.rest) o p (atom_trivia a (q ++ comments_at s))
  piece_after (layout_error i) p q = refl

  atom_after : {d : ℕ} {s : State} {o : Outcome Tree} (a : Atom d s o) (p q : List Passed) →
      atom_trivia a (p ++ q) ≡ p ++ atom_trivia a q
  atom_after (atom e a) p q = atom_of_after a p q

  atom_of_after : {k : AtomStart} {d : ℕ} {s : State} {o : Outcome Tree} (a : AtomOf k d s o) (p q : List Passed) →
      atom_of_trivia a (p ++ q) ≡ p ++ atom_of_trivia a q
  atom_of_after a_nothing p q = refl
  atom_of_after {s} {o} a_read p q = two_after p q (flags_of_atom s o) (inner_at s (end_of o))
  atom_of_after {s} {o} (a_group {t} {h} i) p q =
      let k = inner_at s (reach_of t.rest) in
      let r = (q ++ opening_of h s t) ++ k in
      ap (λ z. inside_trivia i z ++ closing_of h (end_of o)) (two_after p q (opening_of h s t) k)
      ∙ ap (λ z. z ++ closing_of h (end_of o)) (inside_after i p r)
      ∙ append_assoc p (inside_trivia i r) (closing_of h (end_of o))
  atom_of_after {s} {o} (a_condition {t} {v} i b) p q =
      let k = inner_at s (reach_of t.rest) in
      let d = with_dropped (reach_of s.rest) (reach_of t.rest) q in
      let r = d ++ k in
      conditional_after (leaves_condition b) (reach_of v.rest + 1) (end_of o) (body_trivia b []) p _ (inside_trivia i r) _ _
      (ap (λ z. body_trivia b (inside_trivia i z)) (append_assoc p q k)
      ∙ ap (body_trivia b) (inside_after i p (q ++ k)) ∙ body_after b p (inside_trivia i (q ++ k)))
      (ap (λ z. filled (reach_of v.rest + 1) (end_of o) (body_trivia b []) (inside_trivia i (z ++ k)))
      (dropped_after (reach_of s.rest) (reach_of t.rest) p q)
      ∙ ap (λ z. filled (reach_of v.rest + 1) (end_of o) (body_trivia b []) (inside_trivia i z)) (append_assoc p d k)
      ∙ ap (filled (reach_of v.rest + 1) (end_of o) (body_trivia b [])) (inside_after i p r)
      ∙ filled_after (body_trivia b []) (reach_of v.rest + 1) (end_of o) p (inside_trivia i r))
  atom_of_after {s} (condition_error {t} i) p q =
      let k = inner_at s (reach_of t.rest) in ap (inside_trivia i) (append_assoc p q k) ∙ inside_after i p (q ++ k)
  atom_of_after {s} {o} (a_body {t} b) p q =
      let start = (condition_span s t).start in
      let k = inner_at s start in
      let d = with_dropped (reach_of s.rest) start q in
      let r = d ++ k in
      conditional_after (leaves_condition b) (reach_of t.rest + 1) (end_of o) (body_trivia b []) p _ r _ _
      (ap (body_trivia b) (append_assoc p q k) ∙ body_after b p (q ++ k))
      (ap (λ z. filled (reach_of t.rest + 1) (end_of o) (body_trivia b []) (z ++ k))
      (dropped_after (reach_of s.rest) start p q)
      ∙ ap (filled (reach_of t.rest + 1) (end_of o) (body_trivia b [])) (append_assoc p d k)
      ∙ filled_after (body_trivia b []) (reach_of t.rest + 1) (end_of o) p r)
  atom_of_after {s} (two_branches {t} b e m) p q =
      let k = inner_at s (reach_of t.rest) in
      ap (λ z. branch_trivia m (branch_trivia b z)) (append_assoc p q k)
      ∙ ap (branch_trivia m) (branch_after b p (q ++ k)) ∙ branch_after m p (branch_trivia b (q ++ k))
  atom_of_after {s} (one_branch {t} b e) p q =
      let k = inner_at s (reach_of t.rest) in ap (branch_trivia b) (append_assoc p q k) ∙ branch_after b p (q ++ k)
  atom_of_after {s} (absent_error {t} b) p q =
      let k = inner_at s (reach_of t.rest) in ap (branch_trivia b) (append_assoc p q k) ∙ branch_after b p (q ++ k)

  inside_after : {d : ℕ} {s : State} {o : Outcome Tree} (a : Inside d s o) (p q : List Passed) →
      inside_trivia a (p ++ q) ≡ p ++ inside_trivia a q
  inside_after (inside a) p q = alternation_after a p q

  body_after : {d : ℕ} {c : Tree} {s : State} {o : Outcome Tree} (a : Body d c s o) (p q : List Passed) →
      body_trivia a (p ++ q) ≡ p ++ body_trivia a q
  body_after (the_body a) p q = alternation_after a p q

-- what is added to a list is what is added to the empty list
pub inside_alone : {d : ℕ} {s : State} {o : Outcome Tree} (a : Inside d s o) (p : List Passed) →
    inside_trivia a p ≡ p ++ inside_trivia a []
inside_alone a p = ap (inside_trivia a) (sym (append-nil p)) ∙ inside_after a p []

pub alternation_alone : {d : ℕ} {s : State} {o : Outcome Tree} (a : Alternation d s o) (p : List Passed) →
    alternation_trivia a p ≡ p ++ alternation_trivia a []
alternation_alone a p = ap (alternation_trivia a) (sym (append-nil p)) ∙ alternation_after a p []
