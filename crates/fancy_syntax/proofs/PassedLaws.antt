-- What is passed while a text is read is what the derivation says that no node has.
use Rattle.std.proofs.Common.{◌≡◌, ℕ, zero, suc, Bool, true, false, ◌||◌, ◌&&◌, ◌==◌, if◌then◌else◌, List, [], ◌∷◌}
use Rattle.std.proofs.Common.{◌++◌, length, Option, Some, None, refl, sym, ap, ◌∙◌, append-nil, append_assoc}
use Rattle.std.proofs.Common.{◌+◌, min, take, drop, arith, length-append}
use Rattle.std.specs.Prelude.{insert}
use Rattle.std.proofs.Math.Seq.{take-append_seam, drop-append_seam}
use Rattle.fancy_lex.specs.Reading.{choose}
use Rattle.fancy_lex.specs.Text.{Text, bytes, reach_of}
use Rattle.fancy_lex.specs.declared.counts.Counts.{Counts}
use Rattle.fancy_grammar.specs.AtomStart.{AtomStart}
use Rattle.fancy_grammar.specs.Grammar.{Alternation, alternation, Branches, last, more, branch_error, Branch, branch}
use Rattle.fancy_grammar.specs.Grammar.{Pieces, stop, next, piece_error, Piece, piece, layout_error, Atom, atom, AtomOf}
use Rattle.fancy_grammar.specs.Grammar.{a_nothing, a_read, a_group, a_condition, condition_error, a_body, two_branches}
use Rattle.fancy_grammar.specs.Grammar.{one_branch, absent_error, Inside, inside, Body, the_body, branches_of}
use Rattle.fancy_grammar.specs.GroupKind.{GroupKind, capture, flag_group, look, atomic, define, repeater}
use Rattle.fancy_grammar.specs.Join.{is_empty, solid}
use Rattle.fancy_grammar.specs.Label as label
use Rattle.fancy_grammar.specs.Quantified.{quant, suffix, Suffix, is_repeatable, is_swapped, is_unmoved, max_adjacent}
use Rattle.fancy_grammar.specs.Spans.{condition_span, counts_ahead, end_of, if_done, quantifier_end, alternation_spans}
use Rattle.fancy_grammar.specs.State.{State, at, Outcome, done, failed}
use Rattle.fancy_grammar.specs.Tree.{Tree, leaf, over, row}
use Rattle.fancy_grammar.specs.Trivia.{Passed, part, dropped, with_dropped, filled, layout_end, comments_at}
use Rattle.fancy_grammar.specs.Trivia.{after_layout, inner_at, inner_of_counts}
use Rattle.fancy_grammar.specs.Trivia.{closing_of, counted_trivia, quant_trivia, adjacent_trivia, leaves_condition}
use Rattle.fancy_grammar.specs.Trivia.{quants_trivia, alternation_trivia, branches_trivia, branch_trivia, pieces_trivia}
use Rattle.fancy_grammar.specs.Trivia.{piece_trivia, atom_trivia, atom_of_trivia, inside_trivia, body_trivia}
use Rattle.fancy_grammar.proofs.OutcomeLemmas.{Holds}
use Rattle.fancy_grammar.proofs.TriviaAppend.{inside_alone, alternation_alone}
use Rattle.fancy_syntax.specs.Log.{Log, wrapped, layout_passed, atom_opened, group_opened, body_opened, body_begun}
use Rattle.fancy_syntax.specs.Log.{branch_begun, branch_ended}
use Rattle.fancy_syntax.specs.Log.{part_dropped, left_out, atom_ended, atom_closed, leaf_recorded}
use Rattle.fancy_syntax.specs.Log.{branches_opened, pass, text_dropped, inserted, body_dropped, conditional_dropped}
use Rattle.fancy_syntax.specs.Recording.{counted_recorded, quantifier_dropped, quant_recorded, adjacent_recorded}
use Rattle.fancy_syntax.specs.Recording.{quants_recorded}
use Rattle.fancy_syntax.specs.Recording.{group_recorded, body_separated, conditional_recorded, stopper_recorded}
use Rattle.fancy_syntax.specs.Recording.{choice_recorded, added, alternation_recorded, branches_recorded}
use Rattle.fancy_syntax.specs.Recording.{branch_recorded, pieces_recorded, piece_recorded, atom_recorded}
use Rattle.fancy_syntax.specs.Recording.{atom_of_recorded, inside_recorded, body_recorded}
use Rattle.fancy_syntax.specs.declared.grammar.recorded.ConditionPart.{ConditionPart}
use Rattle.fancy_syntax.specs.declared.grammar.recorded.Open.{Open}
use Rattle.fancy_syntax.proofs.RecordingLemmas.{put_seam}
use Rattle.fancy_syntax.proofs.RecordingLaws.{PartBegun, branches_begin, body_begins, Kept, PartRecorded, alternation_as}
use Rattle.fancy_syntax.proofs.RecordingLaws.{inside_as}

-- ---- what adds nothing

either : (b : Bool) (l m n : Log) → m.passed ≡ l.passed → n.passed ≡ l.passed → (if b then m else n).passed ≡ l.passed
either true l m n h k = h
either false l m n h k = k

wrapped_passed : (end : ℕ) (atomic : Bool) (l : Log) → (wrapped end atomic l).passed ≡ l.passed
wrapped_passed end true l = refl
wrapped_passed end false l = refl

added_passed : (r : Tree) (l : Log) → (added r l).passed ≡ l.passed
added_passed r l = either (is_empty r) l (left_out l) l refl refl

branch_ended_passed : (pieces end : ℕ) (l : Log) → (branch_ended pieces end l).passed ≡ l.passed
branch_ended_passed pieces end l = either (pieces == 1) l l _ refl refl

choice_passed : (rs : List Tree) (end : ℕ) (l : Log) → (choice_recorded rs end l).passed ≡ l.passed
choice_passed [] end l = refl
choice_passed (r ∷ []) end l = refl
choice_passed (r ∷ q ∷ rs) end l = refl

separated_passed : (r : Tree) (end : ℕ) (l : Log) → (body_separated r end l).passed ≡ l.passed
separated_passed (row label.alt ts) end l = refl
separated_passed (leaf a) end l = refl
separated_passed (over w r) end l = refl
separated_passed (row label.concat ts) end l = refl
separated_passed (row label.conditional ts) end l = refl
separated_passed (row label.expression ts) end l = refl

stopper_passed : (a : Tree) (end : ℕ) (l : Log) → (stopper_recorded a end l).passed ≡ l.passed
stopper_passed a end l = either (is_empty a) l (part_dropped l) l refl refl

group_passed : (h : GroupKind) (end : ℕ) (l : Log) → (group_recorded h end l).passed ≡ l.passed ++ closing_of h end
group_passed flag_group end l = refl
group_passed (capture None) end l = refl
group_passed (capture (Some name)) end l = sym (append-nil l.passed)
group_passed (look k) end l = sym (append-nil l.passed)
group_passed atomic end l = sym (append-nil l.passed)
group_passed define end l = sym (append-nil l.passed)
group_passed repeater end l = sym (append-nil l.passed)

-- ---- quantifiers

quant_passed : (a : Tree) (s : State) (l : Log) → (quant_recorded a s l).passed ≡ quant_trivia a s l.passed
quant_passed a s l =
    by_counts (counts_ahead s)
  where
    n : Log
    n = layout_passed s l

    w : Text
    w = after_layout s

    -- with the comments in the counts
    in_counts : Counts → Text → Log → Log
    in_counts c t l = pass (inner_of_counts c w t) l

    by_operators : (c : Counts) (t : Text) (o : Outcome Suffix) →
        (if_done o (λ m v. wrapped (quantifier_end t m v) (is_swapped s.flags c || m.possessive)
        (layout_passed (at s t) (in_counts c t n))) (layout_passed (at s t) (in_counts c t n))).passed
        ≡ (n.passed ++ inner_of_counts c w t) ++ comments_at (at s t)
    by_operators c t (done m v) =
        wrapped_passed (quantifier_end t m v) (is_swapped s.flags c || m.possessive)
        (layout_passed (at s t) (in_counts c t n))
    by_operators c t (failed e) = refl

    by_ignored : (c : Counts) (t : Text) (o : Outcome Suffix) →
        (let k = layout_passed (at s t) (in_counts c t (text_dropped (reach_of w) (reach_of t) n)) in
        if_done o (λ m v. text_dropped (layout_end (at s t)) (reach_of v.rest) k) k).passed
        ≡ (let q = (with_dropped (reach_of w) (reach_of t) n.passed ++ inner_of_counts c w t) ++ comments_at (at s t) in
        if_done o (λ m v. with_dropped (layout_end (at s t)) (reach_of v.rest) q) q)
    by_ignored c t (done m v) = refl
    by_ignored c t (failed e) = refl

    by_test : (b : Bool) (c : Counts) (t : Text) →
        (if b then if_done (suffix (at s t) c) (λ m v. wrapped (quantifier_end t m v)
        (is_swapped s.flags c || m.possessive) (layout_passed (at s t) (in_counts c t n)))
        (layout_passed (at s t) (in_counts c t n))
        else quantifier_dropped w (at s t) c n).passed
        ≡ (if b then (n.passed ++ inner_of_counts c w t) ++ comments_at (at s t)
        else let q = (with_dropped (reach_of w) (reach_of t) n.passed ++ inner_of_counts c w t) ++ comments_at (at s t) in
        if_done (suffix (at s t) c) (λ m v. with_dropped (layout_end (at s t)) (reach_of v.rest) q) q)
    by_test true c t = by_operators c t (suffix (at s t) c)
    by_test false c t = by_ignored c t (suffix (at s t) c)

    by_counts : (o : Option (Counts × Text)) → (choose o (counted_recorded w a s n) n).passed
        ≡ choose o (counted_trivia w a s n.passed) n.passed
    by_counts None = refl
    by_counts (Some (c, t)) = by_test (is_repeatable s.flags a) c t

adjacent_passed : (k : ℕ) (a : Tree) (s : State) (l : Log) →
    (adjacent_recorded k a s l).passed ≡ adjacent_trivia k a s l.passed
adjacent_passed zero a s l = quant_passed a s l
adjacent_passed (suc k) a s l =
    by_outcome (λ r t. adjacent_passed k r t (quant_recorded a s l)) (quant (bytes s.rest) a s)
  where
    m : Log
    m = quant_recorded a s l

    IsSame : Tree → State → Type 0
    IsSame r t = (adjacent_recorded k r t m).passed ≡ adjacent_trivia k r t m.passed

    by_test : (b : Bool) (r : Tree) (t : State) → IsSame r t → (if b then m else adjacent_recorded k r t m).passed
        ≡ (if b then quant_trivia a s l.passed else adjacent_trivia k r t (quant_trivia a s l.passed))
    by_test true r t h = quant_passed a s l
    by_test false r t h = h ∙ ap (adjacent_trivia k r t) (quant_passed a s l)

    by_outcome : ((r : Tree) (t : State) → IsSame r t) → (o : Outcome Tree) →
        (if_done o (λ b t. if is_unmoved s t then m else adjacent_recorded k b t m) m).passed
        ≡ if_done o (λ b t. if is_unmoved s t then quant_trivia a s l.passed
        else adjacent_trivia k b t (quant_trivia a s l.passed)) (quant_trivia a s l.passed)
    by_outcome h (done r t) = by_test (is_unmoved s t) r t (h r t)
    by_outcome h (failed e) = quant_passed a s l

quants_passed : (left : ℕ) (q : Outcome Tree) (l : Log) → (quants_recorded left q l).passed ≡ quants_trivia left q l.passed
quants_passed left (failed e) l = refl
quants_passed left (done a s) l = by_outcome (quant left a s)
  where
    m : Log
    m = quant_recorded a s l

    by_mode : (b : Bool) (r : Tree) (t : State) → (if b then adjacent_recorded max_adjacent r t m else m).passed
        ≡ (if b then adjacent_trivia max_adjacent r t (quant_trivia a s l.passed) else quant_trivia a s l.passed)
    by_mode true r t = adjacent_passed max_adjacent r t m ∙ ap (adjacent_trivia max_adjacent r t) (quant_passed a s l)
    by_mode false r t = quant_passed a s l

    by_outcome : (o : Outcome Tree) →
        (if_done o (λ b t. if t.flags.oniguruma_mode then adjacent_recorded max_adjacent b t m else m) m).passed
        ≡ if_done o (λ b t. if t.flags.oniguruma_mode then adjacent_trivia max_adjacent b t (quant_trivia a s l.passed)
        else quant_trivia a s l.passed) (quant_trivia a s l.passed)
    by_outcome (done r t) = by_mode t.flags.oniguruma_mode r t
    by_outcome (failed e) = quant_passed a s l

-- ---- conditionals

separated_open : (r : Tree) (end : ℕ) (l : Log) → (body_separated r end l).open_atom ≡ l.open_atom
separated_open (row label.alt ts) end l = refl
separated_open (leaf a) end l = refl
separated_open (over w r) end l = refl
separated_open (row label.concat ts) end l = refl
separated_open (row label.conditional ts) end l = refl
separated_open (row label.expression ts) end l = refl

-- the opening comes after what was passed before the conditional
inserted_passed : (height start end : ℕ) (p r : List Passed) → height ≡ length p →
    inserted height start end (p ++ r) ≡ with_dropped start end p ++ r
inserted_passed height start end p r e = by_test (start == end)
  where
    x : Passed
    x = part start end dropped false

    by_test : (b : Bool) → (if b then p ++ r else insert (p ++ r) (min height (length (p ++ r))) x)
        ≡ (if b then p else p ++ x ∷ []) ++ r
    by_test true = refl
    by_test false = rw e (put_seam p r x) ∙ sym (append_assoc p (x ∷ []) r)

-- after a conditional whose condition passed r, and whose body passed q
dropped_passed : (o : Open) (end : ℕ) (c : Option ConditionPart) (first closing : ℕ) (p r q : List Passed) →
    o.passed ≡ length p → c ≡ Some (record { start = first; closing = closing; passed = length (p ++ r) }) →
    body_dropped o end c ((p ++ r) ++ q) ≡ filled closing end q (with_dropped o.start first p ++ r)
dropped_passed o end c first closing p r q e f =
    let n : min (length (p ++ r)) (length ((p ++ r) ++ q)) ≡ length (p ++ r) =
    omega (arith, length-append (p ++ r) q) in
    ap (λ c. body_dropped o end c ((p ++ r) ++ q)) f
    ∙ (λ i. filled closing end (drop (n i) ((p ++ r) ++ q)) (inserted o.passed o.start first (take (n i) ((p ++ r) ++ q))))
    ∙ (λ i. filled closing end (drop-append_seam (p ++ r) q i) (inserted o.passed o.start first (take-append_seam (p ++ r) q i)))
    ∙ ap (filled closing end q) (inserted_passed o.passed o.start first p r e)

-- ---- the productions

mutual
  pub alternation_passed : {d : ℕ} {s : State} {o : Outcome Tree} (a : Alternation d s o) (l : Log) →
      (alternation_recorded a l).passed ≡ alternation_trivia a l.passed
  alternation_passed (alternation {q} b) l = by_outcome q ∙ branches_passed b l
    where
      by_outcome : (q : Outcome (List Tree)) →
          (if_done q (λ rs t. choice_recorded rs (reach_of t.rest) (branches_recorded b l)) (branches_recorded b l)).passed
          ≡ (branches_recorded b l).passed
      by_outcome (done rs t) = choice_passed rs (reach_of t.rest) (branches_recorded b l)
      by_outcome (failed e) = refl

  branches_passed : {d : ℕ} {s : State} {o : Outcome (List Tree)} (a : Branches d s o) (l : Log) →
      (branches_recorded a l).passed ≡ branches_trivia a l.passed
  branches_passed (last b e) l = branch_passed b l
  branches_passed (more {u} b e m) l =
      branches_passed m (branch_begun (reach_of u) (branch_recorded b l)) ∙ ap (branches_trivia m) (branch_passed b l)
  branches_passed (branch_error b) l = branch_passed b l

  branch_passed : {d : ℕ} {s : State} {o : Outcome Tree} (a : Branch d s o) (l : Log) →
      (branch_recorded a l).passed ≡ branch_trivia a l.passed
  branch_passed (branch {q} p) l = by_outcome q ∙ pieces_passed p l
    where
      by_outcome : (q : Outcome (List Tree)) →
          (if_done q (λ ps t. branch_ended (length (solid ps)) (reach_of t.rest) (pieces_recorded p l))
          (pieces_recorded p l)).passed ≡ (pieces_recorded p l).passed
      by_outcome (done ps t) = branch_ended_passed (length (solid ps)) (reach_of t.rest) (pieces_recorded p l)
      by_outcome (failed e) = refl

  pieces_passed : {d : ℕ} {s : State} {o : Outcome (List Tree)} (a : Pieces d s o) (l : Log) →
      (pieces_recorded a l).passed ≡ pieces_trivia a l.passed
  pieces_passed (stop e) l = refl
  pieces_passed (next {r} e a m) l =
      pieces_passed m (added r (piece_recorded a l))
      ∙ ap (pieces_trivia m) (added_passed r (piece_recorded a l) ∙ piece_passed a l)
  pieces_passed (piece_error e a) l = piece_passed a l

  piece_passed : {d : ℕ} {s : State} {o : Outcome Tree} (a : Piece d s o) (l : Log) →
      (piece_recorded a l).passed ≡ piece_trivia a l.passed
  piece_passed {s} (piece {q} i a) l =
      quants_passed (bytes s.rest) q (atom_recorded a (layout_passed s l))
      ∙ ap (quants_trivia (bytes s.rest) q) (atom_passed a (layout_passed s l))
  piece_passed (layout_error i) l = refl

  atom_passed : {d : ℕ} {s : State} {o : Outcome Tree} (a : Atom d s o) (l : Log) →
      (atom_recorded a l).passed ≡ atom_trivia a l.passed
  atom_passed (atom e a) l = atom_of_passed a l

  atom_of_passed : {k : AtomStart} {d : ℕ} {s : State} {o : Outcome Tree} (a : AtomOf k d s o) (l : Log) →
      (atom_of_recorded a l).passed ≡ atom_of_trivia a l.passed
  atom_of_passed a_nothing l = refl
  atom_of_passed a_read l = refl
  atom_of_passed {s} {o} (a_group {t} {h} i) l =
      group_passed h (end_of o) (inside_recorded i (group_opened h s t l))
      ∙ ap (λ p. p ++ closing_of h (end_of o)) (inside_passed i (group_opened h s t l))
  atom_of_passed {s} {o} (a_condition {t} {v} i b) l =
      let n = branches_opened s t l in
      let m = inside_recorded i n in
      let k = (inside_as true i n (branches_begin s t l)).is_kept in
      let j = inner_at s (reach_of t.rest) in
      let r = j ++ inside_trivia i [] in
      let apart : (z : List Passed) → inside_trivia i (z ++ j) ≡ z ++ r =
      λ z. inside_alone i (z ++ j) ∙ append_assoc z j (inside_trivia i []) in
      let e : m.passed ≡ l.passed ++ r = inside_passed i n ∙ apart l.passed in
      body_passed b (body_begun (reach_of v.rest) m) (reach_of s.rest) (reach_of t.rest) l.passed r
      (body_begins v m) e k.passed k.start
      (λ i. Some (record { start = k.part i; closing = reach_of v.rest + 1; passed = length (e i) }))
      ∙ (λ x. if leaves_condition b
      then filled (reach_of v.rest + 1) (end_of o) (body_trivia b [])
      (sym (apart (with_dropped (reach_of s.rest) (reach_of t.rest) l.passed)) x)
      else body_trivia b (sym (apart l.passed) x))
  atom_of_passed {s} (condition_error {t} i) l = inside_passed i (branches_opened s t l)
  atom_of_passed {s} {o} (a_body {t} b) l =
      let p = condition_span s t in
      let k = inner_at s p.start in
      body_passed b (body_opened s t l) (reach_of s.rest) p.start l.passed k
      (body_begins t (leaf_recorded p.start p.end (pass k (atom_opened (reach_of s.rest) p.start l))))
      refl refl refl refl
  atom_of_passed {s} (two_branches {t} {u} b e m) l =
      let n = branches_opened s t l in
      branch_passed m (branch_begun (reach_of u) (branch_recorded b n)) ∙ ap (branch_trivia m) (branch_passed b n)
  atom_of_passed {s} {o} (one_branch {t} {a} b e) l =
      let n = branches_opened s t l in
      stopper_passed a (end_of o) (branch_recorded b n) ∙ branch_passed b n
  atom_of_passed {s} (absent_error {t} b) l = branch_passed b (branches_opened s t l)

  inside_passed : {d : ℕ} {s : State} {o : Outcome Tree} (a : Inside d s o) (l : Log) →
      (inside_recorded a l).passed ≡ inside_trivia a l.passed
  inside_passed (inside a) l = alternation_passed a l

  -- after the body of a conditional, before which p was passed, and whose condition passed r
  body_passed : {d : ℕ} {c : Tree} {t : State} {o : Outcome Tree} (b : Body d c t o) (n : Log) (start first : ℕ)
      (p r : List Passed) → PartBegun t n → n.passed ≡ p ++ r → n.open_atom.passed ≡ length p →
      n.open_atom.start ≡ start →
      n.open_atom.condition ≡ Some (record { start = first; closing = reach_of t.rest + 1; passed = length (p ++ r) }) →
      (body_recorded b n).passed ≡ (if leaves_condition b
      then filled (reach_of t.rest + 1) (end_of o) (body_trivia b []) (with_dropped start first p ++ r)
      else body_trivia b (p ++ r))
  body_passed {t} {o} (the_body {q} a) n start first p r g e h i j =
      by_outcome (alternation_passed a n ∙ ap (alternation_trivia a) e) q (alternation_as true a n g)
    where
      m : Log
      m = alternation_recorded a n

      body : List Passed
      body = alternation_trivia a []

      conditional : m.passed ≡ alternation_trivia a (p ++ r) → (u : Tree) (v : State) → Kept n m → (x : Bool) →
          (if x then atom_ended (conditional_dropped (end_of o) (body_separated u (reach_of v.rest) m))
          else atom_closed (end_of o) false (body_separated u (reach_of v.rest) m)).passed
          ≡ (if x then filled (reach_of t.rest + 1) (end_of o) body (with_dropped start first p ++ r)
          else alternation_trivia a (p ++ r))
      conditional whole u v k false = separated_passed u (reach_of v.rest) m ∙ whole
      conditional whole u v k true =
          let w = body_separated u (reach_of v.rest) m in
          let same : w.open_atom ≡ m.open_atom = separated_open u (reach_of v.rest) m in
          let all : w.passed ≡ (p ++ r) ++ body =
          separated_passed u (reach_of v.rest) m ∙ whole ∙ alternation_alone a (p ++ r) in
          (λ z. body_dropped (same z) (end_of o) ((same z).condition) (all z))
          ∙ dropped_passed m.open_atom (end_of o) m.open_atom.condition first (reach_of t.rest + 1) p r body
          (k.passed ∙ h) (k.condition ∙ j)
          ∙ ap (λ s. filled (reach_of t.rest + 1) (end_of o) body (with_dropped s first p ++ r)) (k.start ∙ i)

      by_outcome : m.passed ≡ alternation_trivia a (p ++ r) → (q : Outcome Tree) →
          Holds (λ u v. PartRecorded true n m u (alternation_spans true a)) q →
          (if_done q (λ u v. conditional_recorded u (reach_of v.rest) (end_of o) m) m).passed
          ≡ (if if_done q (λ u v. is_empty (branches_of u).0 && is_empty (branches_of u).1) false
          then filled (reach_of t.rest + 1) (end_of o) body (with_dropped start first p ++ r)
          else alternation_trivia a (p ++ r))
      by_outcome whole (done u v) k =
          conditional whole u v k.is_kept (is_empty (branches_of u).0 && is_empty (branches_of u).1)
      by_outcome whole (failed e) f = whole
