-- What a derivation records shows its spans, part by part.
use Rattle.std.proofs.Common.{◌≡◌, ℕ, suc, ◌+◌, ◌-◌, ◌==◌, Bool, true, false, ◌&&◌, not, if◌then◌else◌, List, []}
use Rattle.std.proofs.Common.{◌∷◌, ◌++◌, length, Some, None, refl, sym, ap, ◌∙◌, subst, arith, append-nil}
use Rattle.std.proofs.Common.{length-append, append_assoc, nat_lt}
use Rattle.std.specs.Prelude.{remove}
use Rattle.std.specs.List.{slice_get}
use Rattle.std.proofs.lemmas.Bool.{cond_both}
use Rattle.std.proofs.lemmas.Bool.Decides.{nat_tests}
use Rattle.std.proofs.lemmas.List.{length_push}
use Rattle.std.proofs.lemmas.List.Edits.{remove-append_right}
use Rattle.std.proofs.Math.Seq.{take-append_seam, get_or-append_seam}
use Prim.Native.Char.{code}
use Rattle.fancy_lex.specs.Located.{Located}
use Rattle.fancy_lex.specs.Text.{Text, bytes, reach_of, strip}
use Rattle.fancy_grammar.specs.Ranks.{is_counted}
use Rattle.fancy_grammar.specs.AtomStart.{AtomStart}
use Rattle.fancy_grammar.specs.Grammar.{Alternation, alternation, Branches, last, more, branch_error, Branch, branch}
use Rattle.fancy_grammar.specs.Grammar.{Pieces, stop, next, piece_error, Piece, piece, layout_error, Atom, atom, AtomOf}
use Rattle.fancy_grammar.specs.Grammar.{a_nothing, a_read, a_group, a_condition, condition_error, a_body, two_branches}
use Rattle.fancy_grammar.specs.Grammar.{one_branch, absent_error, Inside, inside, Body, the_body}
use Rattle.fancy_grammar.specs.Grammar.{closed, branches_of, conditional_of, conditional_after}
use Rattle.fancy_grammar.specs.Grammar.{is_condition, clear_or_stopper, start}
use Rattle.fancy_grammar.specs.GroupKind.{GroupKind, capture, flag_group, look, atomic, define, repeater, group_node}
use Rattle.fancy_grammar.specs.Join.{solid, is_empty, one_or, choice}
use Rattle.fancy_grammar.specs.Label as label
use Rattle.fancy_grammar.specs.Quantified.{quants}
use Rattle.fancy_grammar.specs.Spans.{Span, Spans, node, Forest, no_spans, more_spans, after_bar, alone, around}
use Rattle.fancy_grammar.specs.Spans.{in_preorder, all_in_preorder, between, one_or_node, solid_spans, group_spans}
use Rattle.fancy_grammar.specs.Spans.{body_parts, conditional_spans, condition_span, quants_spans, end_of, if_done}
use Rattle.fancy_grammar.specs.Spans.{alternation_spans, branches_spans, branch_spans, pieces_spans, piece_spans}
use Rattle.fancy_grammar.specs.Spans.{atom_spans, atom_of_spans, inside_spans, body_spans}
use Rattle.fancy_grammar.specs.State.{State, at, Outcome, done, failed, and_then, mapped}
use Rattle.fancy_grammar.specs.Tree.{Tree, leaf, over, row, Trees, trees_of, list_of, alt, concat, empty}
use Rattle.fancy_grammar.specs.Tree.{expression, conditional}
use Rattle.fancy_grammar.specs.Trivia.{closing_of}
use Rattle.fancy_grammar.proofs.AtomStartLaws.{IsLeaf, StartReads, start_reads}
use Rattle.fancy_grammar.proofs.OutcomeLemmas.{Holds, then_holds, after_keeps}
use Rattle.fancy_grammar.proofs.Slices.{Reads}
use Rattle.fancy_grammar.proofs.SpansCondition.{ConditionLies, condition_lies}
use Rattle.fancy_grammar.proofs.SpansLemmas.{Lies, row_at, leaf_lies}
use Rattle.fancy_grammar.proofs.TreeLaws.{list_back}
use Rattle.fancy_syntax.specs.Log.{Log, own_node, put, shown, started, leaf_recorded, left_out, atom_opened, part_begun}
use Rattle.fancy_syntax.specs.Log.{branches_opened}
use Rattle.fancy_grammar.specs.Trivia.{inner_at}
use Rattle.fancy_syntax.specs.Log.{body_opened, branch_begun, branch_ended, choice_ended, body_split, branch_lacked}
use Rattle.fancy_syntax.specs.Log.{part_dropped, atom_closed, atom_ended, first_bar, with_bar, others_put}
use Rattle.fancy_syntax.specs.Log.{pass, layout_passed, group_opened, body_begun, conditional_dropped}
use Rattle.fancy_syntax.specs.Recording.{alternation_recorded, branches_recorded, branch_recorded, pieces_recorded}
use Rattle.fancy_syntax.specs.Recording.{piece_recorded}
use Rattle.fancy_syntax.specs.Recording.{atom_recorded, atom_of_recorded, inside_recorded, body_recorded}
use Rattle.fancy_syntax.specs.Recording.{quants_recorded, group_recorded, atom_read}
use Rattle.fancy_syntax.specs.Recording.{body_separated, conditional_recorded, stopper_recorded, choice_recorded, added}
use Rattle.fancy_syntax.specs.declared.grammar.recorded.FirstBar.{FirstBar}
use Rattle.fancy_syntax.specs.declared.grammar.recorded.Recorded.{Recorded}
use Rattle.fancy_syntax.specs.declared.grammar.recorded.Recorded.TheVariants.{Node, Unnamed, Bar}
use Rattle.fancy_syntax.specs.declared.grammar.recorded.Open.{Open}
use Rattle.fancy_syntax.proofs.RecordingLemmas.{put_recorded, slice_get_seam, split_off, Beside, one_more, several_more, Barred, Fits}
use Rattle.fancy_syntax.proofs.RecordingLemmas.{shown_append, fits_shown, PieceRecorded, quants_recorded_as}
use Rattle.fancy_syntax.proofs.RecordingLemmas.{passed_before, passed_after}
use Rattle.fancy_lex.proofs.ReadingLemmas.{choose_both}

-- the open branch begins at the state, above all recorded nodes
pub record BranchBegun (s : State) (l : Log) : Type 0 where
  branch : l.open_atom.branch ≡ reach_of s.rest
  pieces : l.open_atom.pieces ≡ length l.recorded

-- so does the open part
pub record PartBegun (s : State) (l : Log) : Type 0 where
  part : l.open_atom.part ≡ reach_of s.rest
  branches : l.open_atom.branches ≡ length l.recorded
  bar : l.open_atom.bar ≡ None
  branch : BranchBegun s l

pub part_begins : (s : State) (l : Log) → PartBegun s (part_begun (reach_of s.rest) l)
part_begins s l = record {
  part = refl;
  branches = refl;
  bar = refl;
  branch = record { branch = refl; pieces = refl };
}

-- the body of a conditional too
pub body_begins : (s : State) (l : Log) → PartBegun s (body_begun (reach_of s.rest) l)
body_begins s l = record {
  part = refl;
  branches = refl;
  bar = refl;
  branch = record { branch = refl; pieces = refl };
}

-- the open atom and the open part stay the same
pub record Kept (l m : Log) : Type 0 where
  around : m.around ≡ l.around
  pub start : m.open_atom.start ≡ l.open_atom.start
  height : m.open_atom.height ≡ l.open_atom.height
  pub passed : m.open_atom.passed ≡ l.open_atom.passed
  pub condition : m.open_atom.condition ≡ l.open_atom.condition
  pub part : m.open_atom.part ≡ l.open_atom.part
  branches : m.open_atom.branches ≡ l.open_atom.branches

kept : {l m : Log} → m.around ≡ l.around → m.open_atom ≡ l.open_atom → Kept l m
kept a o = record {
  around = a;
  start = ap (λ (x : Open). x.start) o;
  height = ap (λ (x : Open). x.height) o;
  passed = ap (λ (x : Open). x.passed) o;
  condition = ap (λ (x : Open). x.condition) o;
  part = ap (λ (x : Open). x.part) o;
  branches = ap (λ (x : Open). x.branches) o;
}

kept_on : {l m n : Log} → Kept l m → Kept m n → Kept l n
kept_on h k = record {
  around = k.around ∙ h.around;
  start = k.start ∙ h.start;
  height = k.height ∙ h.height;
  passed = k.passed ∙ h.passed;
  condition = k.condition ∙ h.condition;
  part = k.part ∙ h.part;
  branches = k.branches ∙ h.branches;
}

-- after the log l, an atom that began at the reach is open
record Within (start : ℕ) (l m : Log) : Type 0 where
  around : m.around ≡ l.around ++ l.open_atom ∷ []
  start_is : m.open_atom.start ≡ start
  height : m.open_atom.height ≡ length l.recorded

within_on : {start : ℕ} {l m n : Log} → Within start l m → Kept m n → Within start l n
within_on h k = record {
  around = k.around ∙ h.around;
  start_is = k.start ∙ h.start_is;
  height = k.height ∙ h.height;
}

opened_within : (start first : ℕ) (l : Log) → Within start l (atom_opened start first l)
opened_within start first l = record { around = refl; start_is = refl; height = refl }

-- with the comments in its opening
branches_within : (s t : State) (l : Log) → Within (reach_of s.rest) l (branches_opened s t l)
branches_within s t l = record { around = refl; start_is = refl; height = refl }

pub branches_begin : (s t : State) (l : Log) → PartBegun t (branches_opened s t l)
branches_begin s t l = record {
  part = refl;
  branches = refl;
  bar = refl;
  branch = record { branch = refl; pieces = refl };
}

-- a group without a name, with a number and without
unnamed_group : (named : Bool) (p : Span) (xs : List Recorded) (x : Spans) → shown named xs ≡ in_preorder x →
    shown named (Unnamed p.start p.end ∷ xs) ≡ in_preorder (if is_counted named None then around p x else x)
unnamed_group true p xs x h = h
unnamed_group false p xs x h = ap (λ l. p ∷ l) (h ∙ sym (append-nil (in_preorder x)))

-- a group with a name
named_group : (named : Bool) (name : Text) (p : Span) (x : Spans) →
    (if is_counted named (Some name) then around p x else x) ≡ around p x
named_group true name p x = refl
named_group false name p x = refl

module _ (named : Bool) where
  -- ---- the end of an atom

  module _ (start : ℕ) (l : Log) where
    ended_as : (m : Log) (r : Tree) (x : Spans) (xs : List Recorded) → Within start l m →
        m.recorded ≡ l.recorded ++ xs →
        Fits named r x xs → PieceRecorded named start l (atom_ended m) r x
    ended_as m r x xs h e f =
        let n : length m.around - 1 ≡ length l.around =
        omega (arith, ap length h.around, length_push l.around l.open_atom) in
        record {
          xs = xs;
          is_recorded = e;
          is_around = rw (n, h.around) (take-append_seam l.around (l.open_atom ∷ []));
          is_open = rw (n, h.around) (get_or-append_seam l.around l.open_atom [] m.open_atom);
          is_last = λ i. record { start = h.start_is i; height = h.height i };
          fits = f;
        }

    -- with a node
    closed_as : (m : Log) (r : Tree) (x : Spans) (end : ℕ) (unnamed : Bool) (xs : List Recorded) → Within start l m →
        m.recorded ≡ l.recorded ++ xs → Fits named r x (own_node unnamed start end ∷ xs) →
        PieceRecorded named start l (atom_closed end unnamed m) r x
    closed_as m r x end unnamed xs h e f =
        let n = own_node unnamed m.open_atom.start end in
        ended_as (put m.open_atom.height n m) r x (n ∷ xs)
        (record { around = h.around; start_is = h.start_is; height = h.height })
        (put_recorded m m.open_atom.height l.recorded xs n e h.height)
        (subst (λ s. Fits named r x (own_node unnamed s end ∷ xs)) (sym h.start_is) f)

    -- a group around its contents
    group_as : (m : Log) (r : Tree) (x : Spans) (h : GroupKind) (position end : ℕ) (xs : List Recorded) →
        Within start l m →
        m.recorded ≡ l.recorded ++ xs → Fits named r x xs → PieceRecorded named start l (group_recorded h end m)
        (group_node h position r) (group_spans named h (record { start = start; end = end }) x)
    group_as m r x h position end xs w e f = by_kind h
      where
        p : Span
        p = record { start = start; end = end }

        shows : shown named xs ≡ in_preorder x
        shows = fits_shown named r x xs f

        around_it : shown named (Node start end ∷ xs) ≡ in_preorder (around p x)
        around_it = ap (λ k. p ∷ k) (shows ∙ sym (append-nil (in_preorder x)))

        passed_as : (k : GroupKind) → Within start l (pass (closing_of k end) m)
        passed_as k = record { around = w.around; start_is = w.start_is; height = w.height }

        by_kind : (h : GroupKind) → PieceRecorded named start l (group_recorded h end m)
            (group_node h position r) (group_spans named h p x)
        by_kind (capture None) =
            closed_as (pass (closing_of (capture None) end) m) _ _ end true xs (passed_as (capture None)) e
            (unnamed_group named p xs x shows)
        by_kind (capture (Some name)) =
            closed_as m _ _ end false xs w e (around_it ∙ ap in_preorder (sym (named_group named name p x)))
        by_kind flag_group =
            ended_as (pass (closing_of flag_group end) m) r x xs (passed_as flag_group) e f
        by_kind (look k) = closed_as m _ _ end false xs w e around_it
        by_kind atomic = closed_as m _ _ end false xs w e around_it
        by_kind define = closed_as m _ _ end false xs w e around_it
        by_kind repeater = closed_as m _ _ end false xs w e around_it

-- after a closing parenthesis, or an error
closed_holds : (P : Outcome Tree → Type 0) (r : Tree) (s : State) → ((u : State) → P (done r u)) →
    ((e : Located) → P (failed e)) → P (closed r s)
closed_holds P r s g f = choose_both P (strip (code ")") s.rest) _ _ (λ u e. g (at s u)) (f _)

remove_seam : (A B : List Recorded) (n : Recorded) → remove (A ++ n ∷ B) (length A) ≡ A ++ B
remove_seam A B n =
    let z : length A - length A ≡ 0 = omega arith in
    remove-append_right A (n ∷ B) (length A) (length A) refl (omega arith) ∙ ap (λ k. A ++ remove (n ∷ B) k) z

module _ (named : Bool) where
  -- after the log l, the tree r of a part is recorded
  pub record PartRecorded (l m : Log) (r : Tree) (x : Spans) : Type 0 where
    pub xs : List Recorded
    pub is_recorded : m.recorded ≡ l.recorded ++ xs
    pub is_kept : Kept l m
    pub fits : Fits named r x xs

  -- after the log l, after which the body was recorded up to m, follow the nodes of its branches
  record Separated (l m n : Log) (y z : Spans) : Type 0 where
    bs : List Recorded
    is_recorded : n.recorded ≡ l.recorded ++ bs
    is_kept : Kept m n
    shows : shown named bs ≡ in_preorder y ++ in_preorder z

  same : (m : Log) → Kept m m
  same m = kept refl refl

  -- the branches after the first bar
  others_as : (l m : Log) (k end : ℕ) (b : FirstBar) (others : List Tree) (first : Spans) (f : Forest)
      (ys zs : List Recorded) → Beside others f → k ≡ suc (length others) → b.before ≡ length ys →
      shown named ys ≡ in_preorder first → shown named zs ≡ all_in_preorder f →
      Separated l m (record m { recorded = others_put (length l.recorded) k b end (l.recorded ++ (ys ++ zs)) }) first
      (one_or_node (record { start = b.past; end = end }) f)
  others_as l m k end b others first f ys zs (one_more {z}) i c p q = record {
    bs = ys ++ zs;
    is_recorded = ap (λ k. others_put (length l.recorded) k b end (l.recorded ++ (ys ++ zs))) i;
    is_kept = kept refl refl;
    shows = shown_append named ys zs ∙ (λ i. p i ++ (q ∙ append-nil (in_preorder z)) i);
  }
  others_as l m k end b others first f ys zs (several_more {p = t} {l = us}) i h p q =
      let k_is : k ≡ suc (suc (suc (length us))) = i in
      let not_few : nat_lt k 3 ≡ false = grind (arith, nat_tests) in
      let rest = Node b.past end in
      let height = length l.recorded + b.before in
      let n : Log = record m { recorded = l.recorded ++ (ys ++ zs) } in
      let seam : height ≡ length (l.recorded ++ ys) = omega (arith, length-append l.recorded ys, h) in
      record {
        bs = ys ++ rest ∷ zs;
        is_recorded = ap (λ t. if t then n.recorded else (put height rest n).recorded) not_few
            ∙ put_recorded n height (l.recorded ++ ys) zs rest (sym (append_assoc l.recorded ys zs)) seam
            ∙ append_assoc l.recorded ys (rest ∷ zs);
        is_kept = kept refl refl;
        shows = shown_append named ys (rest ∷ zs)
            ∙ (λ i. p i ++ record { start = b.past; end = end } ∷ q i);
      }

  alt_as : (l m : Log) (ts : Trees) (v : State) (x : Spans) (xs : List Recorded) → m.recorded ≡ l.recorded ++ xs →
      m.open_atom.branches ≡ length l.recorded → (b : Barred named ts x xs) →
      Separated l m (body_split (length (list_of ts)) m) (body_parts (alt ts) v x).0 (body_parts (alt ts) v x).1
  alt_as l m ts v x xs e j b =
      let all = b.ys ++ b.zs in
      let alt_node = Node b.span.start b.span.end in
      let bar : FirstBar = record { past = b.bar; before = length b.ys } in
      let front = l.recorded ++ alt_node ∷ all in
      let many = length (list_of ts) in
      let there : m.recorded ≡ front ++ Bar bar ∷ [] =
      e ∙ ap (λ x. l.recorded ++ x) b.is_recorded ∙ sym (append_assoc l.recorded (alt_node ∷ all) (Bar bar ∷ [])) in
      let found : slice_get front m.open_atom.branches ≡ Some alt_node =
      ap (slice_get front) j ∙ slice_get_seam l.recorded all alt_node in
      let split : body_split many m
      ≡ record m { recorded = others_put (length l.recorded) many bar b.span.end (l.recorded ++ all) } =
      split_off many front bar b.span.start b.span.end m there found
      ∙ (λ i. record m { recorded = others_put (j i) many bar b.span.end (remove front (j i)) })
      ∙ ap (λ xs. record m { recorded = others_put (length l.recorded) many bar b.span.end xs })
      (remove_seam l.recorded all alt_node) in
      let k : many ≡ suc (length b.others) =
      ap (λ ts. length (list_of ts)) b.is_tree ∙ ap (λ l. suc (length l)) (list_back b.others) in
      let parts : body_parts (alt ts) v x ≡ (b.first, one_or_node (record { start = b.bar; end = b.span.end }) b.rest) =
      ap (body_parts (alt ts) v) b.is_spans in
      subst (λ p. Separated l m (body_split many m) p.0 p.1) (sym parts)
      (subst (λ w. Separated l m w b.first (one_or_node (record { start = b.bar; end = b.span.end }) b.rest)) (sym split)
      (others_as l m many b.span.end bar b.others b.first b.rest b.ys b.zs b.beside k refl b.shows_first b.shows_rest))

  lacked_as : (l m : Log) (r : Tree) (v : State) (x : Spans) (xs : List Recorded) → m.recorded ≡ l.recorded ++ xs →
      Fits named r x xs → Separated l m (branch_lacked (reach_of v.rest) m) x (alone (between v (done r v)))
  lacked_as l m r v x xs e f =
      let n = Node (reach_of v.rest) (reach_of v.rest) in
      record {
        bs = xs ++ n ∷ [];
        is_recorded = ap (λ y. y ++ n ∷ []) e ∙ append_assoc l.recorded xs (n ∷ []);
        is_kept = kept refl refl;
        shows = shown_append named xs (n ∷ [])
            ∙ ap (λ y. y ++ shown named (n ∷ [])) (fits_shown named r x xs f);
      }

  body_separated_as : (l m : Log) (r : Tree) (v : State) (x : Spans) (xs : List Recorded) →
      m.recorded ≡ l.recorded ++ xs →
      m.open_atom.branches ≡ length l.recorded → Fits named r x xs →
      Separated l m (body_separated r (reach_of v.rest) m) (body_parts r v x).0 (body_parts r v x).1
  body_separated_as l m (row label.alt ts) v x xs e j f = alt_as l m ts v x xs e j f
  body_separated_as l m (leaf a) v x xs e j f = lacked_as l m (leaf a) v x xs e f
  body_separated_as l m (over w r) v x xs e j f = lacked_as l m (over w r) v x xs e f
  body_separated_as l m (row label.concat ts) v x xs e j f = lacked_as l m (row label.concat ts) v x xs e f
  body_separated_as l m (row label.conditional ts) v x xs e j f = lacked_as l m (row label.conditional ts) v x xs e f
  body_separated_as l m (row label.expression ts) v x xs e j f = lacked_as l m (row label.expression ts) v x xs e f

  -- a conditional, whose condition is recorded after l, and whose body after n
  conditional_as : (start : ℕ) (l n m : Log) (c r : Tree) (v : State) (x y : Spans) (ys : List Recorded) (end : ℕ) →
      Within start l n → n.recorded ≡ l.recorded ++ ys → Fits named c y ys → n.open_atom.branches ≡ length n.recorded →
      PartRecorded n m r x → PieceRecorded named start l (conditional_recorded r (reach_of v.rest) end m)
      (conditional_of c (branches_of r).0 (branches_of r).1)
      (conditional_spans (record { start = start; end = end }) y (done r v) x)
  conditional_as start l n m c r v x y ys end w e f j h =
      by_test (is_empty (branches_of r).0 && is_empty (branches_of r).1)
    where
      branches : m.open_atom.branches ≡ length n.recorded
      branches = h.is_kept.branches ∙ j

      b : Separated n m (body_separated r (reach_of v.rest) m) (body_parts r v x).0 (body_parts r v x).1
      b = body_separated_as n m r v x h.xs h.is_recorded branches h.fits

      q : Log
      q = body_separated r (reach_of v.rest) m

      within : Within start l q
      within = within_on w (kept_on h.is_kept b.is_kept)

      p : Span
      p = record { start = start; end = end }

      parts : Spans × Spans
      parts = body_parts r v x

      by_test : (t : Bool) → PieceRecorded named start l
          (if t then atom_ended (conditional_dropped end q) else atom_closed end false q)
          (if t then c else conditional c (branches_of r).0 (branches_of r).1)
          (if t then y else node p (more_spans y (more_spans parts.0 (more_spans parts.1 no_spans))))
      by_test true =
          ended_as named start l (conditional_dropped end q) c y ys
          (record { around = within.around; start_is = within.start_is; height = within.height })
          (rw (b.is_recorded, b.is_kept.branches ∙ branches) (take-append_seam n.recorded b.bs) ∙ e) f
      by_test false =
          closed_as named start l q (conditional c (branches_of r).0 (branches_of r).1)
          (node p (more_spans y (more_spans parts.0 (more_spans parts.1 no_spans)))) end false (ys ++ b.bs) within
          (b.is_recorded ∙ ap (λ z. z ++ b.bs) e ∙ append_assoc l.recorded ys b.bs)
          (ap (λ k. p ∷ k) (shown_append named ys b.bs ∙ (λ z. fits_shown named c y ys f z
          ++ (b.shows ∙ ap (λ o. in_preorder parts.0 ++ o) (sym (append-nil (in_preorder parts.1)))) z)))

  -- the body of a conditional that begins at w
  body_as : (w : State) (l n m : Log) (c : Tree) (left : ℕ) (x y : Spans) (ys : List Recorded) (q : Outcome Tree) →
      Within (reach_of w.rest) l n → n.recorded ≡ l.recorded ++ ys → Fits named c y ys →
      n.open_atom.branches ≡ length n.recorded → Holds (λ r v. PartRecorded n m r x) q →
      Holds (λ r v. PieceRecorded named (reach_of w.rest) l (if_done q
      (λ r v. conditional_recorded r (reach_of v.rest) (end_of (and_then q (conditional_after c left))) m) m) r
      (conditional_spans (between w (and_then q (conditional_after c left))) y q x))
      (and_then q (conditional_after c left))
  body_as w l n m c left x y ys (done r v) k e f j h =
      cond_both (bytes v.rest == left && not (is_condition c)) _ _ P (λ _. tt)
      (λ _. closed_holds P (conditional_of c (branches_of r).0 (branches_of r).1) v
      (λ u. conditional_as (reach_of w.rest) l n m c r v x y ys (reach_of u.rest) k e f j h) (λ _. tt))
    where
      P : Outcome Tree → Type 0
      P o = Holds (λ t u. PieceRecorded named (reach_of w.rest) l (conditional_recorded r (reach_of v.rest) (end_of o) m) t
          (conditional_spans (between w o) y (done r v) x)) o
  body_as w l n m c left x y ys (failed error) a e f j h = tt

  -- ---- pieces and branches

  -- some trees, with their spans and nodes
  data Row : List Tree → Forest → List Recorded → Type 0 where
    row_ends : Row [] no_spans []
    row_goes_on : {r rs x f ys zs : _} (xs : List Recorded) → Fits named r x xs → Row rs f ys → zs ≡ xs ++ ys →
        Row (r ∷ rs) (more_spans x f) zs

  -- after the log l, the pieces are recorded
  record PiecesRecorded (l m : Log) (rs : List Tree) (f : Forest) : Type 0 where
    xs : List Recorded
    is_recorded : m.recorded ≡ l.recorded ++ xs
    is_around : m.around ≡ l.around
    is_open : m.open_atom ≡ l.open_atom
    row : Row rs f xs

  abbrev PieceAs : Log → Log → Tree → Spans → Type 0
  PieceAs l m r x = (start : ℕ) × PieceRecorded named start l m r x

  none_as : (l : Log) → PiecesRecorded l l [] no_spans
  none_as l = record {
    xs = [];
    is_recorded = sym (append-nil l.recorded);
    is_around = refl;
    is_open = refl;
    row = row_ends;
  }

  in_front : (l m n : Log) (r : Tree) (x : Spans) (rs : List Tree) (f : Forest) → PieceAs l m r x →
      PiecesRecorded (added r m) n (solid rs) f → PiecesRecorded l n (solid (r ∷ rs)) (solid_spans r x f)
  in_front l m n r x rs f (start, h) = by_test (is_empty r)
    where
      by_test : (b : Bool) → PiecesRecorded (if b then left_out m else m) n (solid rs) f →
          PiecesRecorded l n (if b then solid rs else r ∷ solid rs) (if b then f else more_spans x f)
      by_test true k = record {
        xs = k.xs;
        is_recorded = k.is_recorded ∙ ap (λ y. y ++ k.xs)
            (rw (h.is_recorded, h.is_last) (take-append_seam l.recorded h.xs));
        is_around = k.is_around ∙ h.is_around;
        is_open = k.is_open ∙ h.is_open;
        row = k.row;
      }
      by_test false k = record {
        xs = h.xs ++ k.xs;
        is_recorded = k.is_recorded ∙ ap (λ y. y ++ k.xs) h.is_recorded ∙ append_assoc l.recorded h.xs k.xs;
        is_around = k.is_around ∙ h.is_around;
        is_open = k.is_open ∙ h.is_open;
        row = row_goes_on h.xs h.fits k.row refl;
      }

  -- after the log l, the branch is recorded
  record BranchRecorded (l m : Log) (r : Tree) (x : Spans) : Type 0 where
    xs : List Recorded
    is_recorded : m.recorded ≡ l.recorded ++ xs
    is_around : m.around ≡ l.around
    is_open : m.open_atom ≡ l.open_atom
    fits : Fits named r x xs

  row_shown : {rs : List Tree} {f : Forest} {xs : List Recorded} → Row rs f xs → shown named xs ≡ all_in_preorder f
  row_shown row_ends = refl
  row_shown (row_goes_on {r} {x} {ys} xs h k e) =
      ap (shown named) e ∙ shown_append named xs ys ∙ (λ i. fits_shown named r x xs h i ++ row_shown k i)

  -- the branch is a node of its own
  branch_node : (s : State) (l m : Log) (r : Tree) (end : ℕ) (k : ℕ) (f : Forest) (xs : List Recorded) →
      (k == 1) ≡ false →
      BranchBegun s l → m.recorded ≡ l.recorded ++ xs → m.around ≡ l.around → m.open_atom ≡ l.open_atom →
      shown named xs ≡ all_in_preorder f →
      ((ys : List Recorded) → shown named ys ≡ in_preorder (node (record { start = reach_of s.rest; end = end }) f) →
      Fits named r (node (record { start = reach_of s.rest; end = end }) f) ys) →
      BranchRecorded l (branch_ended k end m) r (node (record { start = reach_of s.rest; end = end }) f)
  branch_node s l m r end k f xs t b e a o h fits =
      let n = Node m.open_atom.branch end in
      let p : record { start = m.open_atom.branch; end = end } ≡ record { start = reach_of s.rest; end = end } =
      ap (λ (o : Open). record { start = o.branch; end = end }) o ∙ ap (λ x. record { start = x; end = end }) b.branch in
      subst (λ w. BranchRecorded l w r (node (record { start = reach_of s.rest; end = end }) f))
      (sym (ap (λ t. if t then m else put m.open_atom.pieces n m) t)) (record {
        xs = n ∷ xs;
        is_recorded = put_recorded m m.open_atom.pieces l.recorded xs n e (ap (λ (o : Open). o.pieces) o ∙ b.pieces);
        is_around = a;
        is_open = o;
        fits = fits (n ∷ xs) (λ i. p i ∷ h i);
      })

  branch_as : (s : State) (l m : Log) (rs : List Tree) (f : Forest) (end : ℕ) → BranchBegun s l →
      PiecesRecorded l m rs f → BranchRecorded l (branch_ended (length rs) end m) (one_or concat rs)
      (one_or_node (record { start = reach_of s.rest; end = end }) f)
  branch_as s l m rs f end b h = by_row h.row h.is_recorded
    where
      by_row : {rs : List Tree} {f : Forest} {xs : List Recorded} → Row rs f xs → m.recorded ≡ l.recorded ++ xs →
          BranchRecorded l (branch_ended (length rs) end m) (one_or concat rs)
          (one_or_node (record { start = reach_of s.rest; end = end }) f)
      by_row row_ends e =
          branch_node s l m empty end 0 no_spans [] refl b e h.is_around h.is_open refl (λ ys h. h)
      by_row (row_goes_on {r} {x} {zs} xs k row_ends j) e = record {
        xs = zs;
        is_recorded = e;
        is_around = h.is_around;
        is_open = h.is_open;
        fits = subst (Fits named r x) (sym (append-nil xs) ∙ sym j) k;
      }
      by_row (row_goes_on {r} {x} {zs} xs k (row_goes_on {r = q} {rs} {x = y} {f} ys i g c) j) e =
          let several : (suc (suc (length rs)) == 1) ≡ false = grind (arith, nat_tests) in
          branch_node s l m (concat (trees_of (r ∷ q ∷ rs))) end (suc (suc (length rs)))
          (more_spans x (more_spans y f)) zs several b e h.is_around h.is_open
          (row_shown (row_goes_on xs k (row_goes_on ys i g c) j)) (λ ys h. h)

  kept_branch : {l m : Log} {r : Tree} {x : Spans} → BranchRecorded l m r x → Kept l m
  kept_branch h = kept h.is_around h.is_open

  -- after the bar that is kept, branches are recorded
  record LaterRecorded (b : FirstBar) (l m : Log) (rs : List Tree) (f : Forest) : Type 0 where
    xs : List Recorded
    is_recorded : m.recorded ≡ l.recorded ++ xs
    is_kept : Kept l m
    bar : m.open_atom.bar ≡ Some b
    shows : shown named xs ≡ all_in_preorder f
    beside : Beside rs f

  begins : (u : Text) (s : State) (l : Log) → BranchBegun (at s u) (branch_begun (reach_of u) l)
  begins u s l = record { branch = refl; pieces = refl }

  later_last : (b : FirstBar) (l m : Log) (r : Tree) (x : Spans) → l.open_atom.bar ≡ Some b → BranchRecorded l m r x →
      LaterRecorded b l m (r ∷ []) (more_spans x no_spans)
  later_last b l m r x e h = record {
    xs = h.xs;
    is_recorded = h.is_recorded;
    is_kept = kept_branch h;
    bar = ap (λ (o : Open). o.bar) h.is_open ∙ e;
    shows = fits_shown named r x h.xs h.fits ∙ sym (append-nil (in_preorder x));
    beside = one_more;
  }

  more_beside : {rs : List Tree} {f : Forest} {r : Tree} {x : Spans} {p : ℕ} → Beside rs f →
      Beside (r ∷ rs) (more_spans x (after_bar p f))
  more_beside one_more = several_more
  more_beside several_more = several_more

  later_more : (b : FirstBar) (l m n : Log) (p : ℕ) (r : Tree) (x : Spans) (rs : List Tree) (f : Forest) →
      BranchRecorded l m r x → LaterRecorded b (branch_begun p m) n rs f →
      LaterRecorded b l n (r ∷ rs) (more_spans x (after_bar p f))
  later_more b l m n p r x rs f h k = record {
    xs = h.xs ++ k.xs;
    is_recorded = k.is_recorded ∙ ap (λ y. y ++ k.xs) h.is_recorded ∙ append_assoc l.recorded h.xs k.xs;
    is_kept = kept_on (kept_branch h) (record {
      around = k.is_kept.around;
      start = k.is_kept.start;
      height = k.is_kept.height;
      passed = k.is_kept.passed;
      condition = k.is_kept.condition;
      part = k.is_kept.part;
      branches = k.is_kept.branches;
    });
    bar = k.bar;
    shows = shown_append named h.xs k.xs ∙ (λ i. fits_shown named r x h.xs h.fits i ++ k.shows i);
    beside = more_beside k.beside;
  }

  bar_kept : (l : Log) (b : FirstBar) (p : ℕ) → l.open_atom.bar ≡ Some b →
      (branch_begun p l).open_atom.bar ≡ Some b
  bar_kept l b p e = ap (λ o. Some (first_bar o p (length l.recorded - l.open_atom.branches))) e

  -- a part of one branch, and of several
  one_part : {l m : Log} {r : Tree} {x : Spans} → BranchRecorded l m r x → PartRecorded l m r x
  one_part h = record { xs = h.xs; is_recorded = h.is_recorded; is_kept = kept_branch h; fits = h.fits }

  several_part : (s : State) (l m n : Log) (p end : ℕ) (r : Tree) (x : Spans) (rs : List Tree) (f : Forest) →
      PartBegun s l → BranchRecorded l m r x →
      LaterRecorded (record { past = p; before = length m.recorded - m.open_atom.branches }) (branch_begun p m) n rs f →
      PartRecorded l (choice_recorded (r ∷ rs) end n) (choice (r ∷ rs))
      (node (record { start = reach_of s.rest; end = end }) (more_spans x (after_bar p f)))
  several_part s l m n p end r x rs f g h k = by_beside k.beside k.shows
    where
      height : n.open_atom.branches ≡ length l.recorded
      height = k.is_kept.branches ∙ ap (λ (o : Open). o.branches) h.is_open ∙ g.branches

      span : Span
      span = record { start = n.open_atom.part; end = end }

      span_is : span ≡ record { start = reach_of s.rest; end = end }
      span_is = ap (λ z. record { start = z; end = end })
          (k.is_kept.part ∙ ap (λ (o : Open). o.part) h.is_open ∙ g.part)

      bar : FirstBar
      bar = record { past = p; before = length h.xs }

      has_bar : n.open_atom.bar ≡ Some bar
      has_bar = k.bar ∙ ap (λ z. Some (record { past = p; before = z })) (omega (
        arith,
        ap length h.is_recorded,
        length-append l.recorded h.xs,
        ap (λ (o : Open). o.branches) h.is_open,
        g.branches,
      ))

      recorded : n.recorded ≡ l.recorded ++ (h.xs ++ k.xs)
      recorded = k.is_recorded ∙ ap (λ y. y ++ k.xs) h.is_recorded ∙ append_assoc l.recorded h.xs k.xs

      barred : with_bar n.open_atom.bar n.recorded ≡ l.recorded ++ ((h.xs ++ k.xs) ++ Bar bar ∷ [])
      barred = (λ i. with_bar (has_bar i) (recorded i)) ∙ append_assoc l.recorded (h.xs ++ k.xs) (Bar bar ∷ [])

      chosen : (rs : List Tree) (f : Forest) → Beside rs f → shown named k.xs ≡ all_in_preorder f →
          PartRecorded l (choice_ended end n) (row label.alt (trees_of (r ∷ rs)))
          (node (record { start = reach_of s.rest; end = end }) (more_spans x (after_bar p f)))
      chosen rs f b e = record {
        xs = Node span.start span.end ∷ (h.xs ++ k.xs) ++ Bar bar ∷ [];
        is_recorded = put_recorded (record n { recorded = with_bar n.open_atom.bar n.recorded }) n.open_atom.branches
            l.recorded ((h.xs ++ k.xs) ++ Bar bar ∷ []) (Node span.start span.end) barred height;
        is_kept = kept_on (kept_branch h) (record {
          around = k.is_kept.around;
          start = k.is_kept.start;
          height = k.is_kept.height;
          passed = k.is_kept.passed;
          condition = k.is_kept.condition;
          part = k.is_kept.part;
          branches = k.is_kept.branches;
        });
        fits = record {
          span = span;
          bar = p;
          one = r;
          others = rs;
          first = x;
          rest = f;
          ys = h.xs;
          zs = k.xs;
          is_tree = refl;
          beside = b;
          is_spans = ap (λ z. node z (more_spans x (after_bar p f))) (sym span_is);
          is_recorded = refl;
          shows_first = fits_shown named r x h.xs h.fits;
          shows_rest = e;
        };
      }

      by_beside : {rs : List Tree} {f : Forest} → Beside rs f → shown named k.xs ≡ all_in_preorder f →
          PartRecorded l (choice_recorded (r ∷ rs) end n) (choice (r ∷ rs))
          (node (record { start = reach_of s.rest; end = end }) (more_spans x (after_bar p f)))
      by_beside (one_more {q} {z}) e = chosen (q ∷ []) (more_spans z no_spans) one_more e
      by_beside (several_more {q} {p = t} {l = us} {z} {b} {f}) e =
          chosen (q ∷ t ∷ us) (more_spans z (after_bar b f)) several_more e

  -- ---- the productions

  -- a leaf
  leaf_as : (start end : ℕ) (l : Log) (r : Tree) →
      Fits named r (alone (record { start = start; end = end })) (Node start end ∷ []) →
      PieceRecorded named start l (leaf_recorded start end l) r (alone (record { start = start; end = end }))
  leaf_as start end l r f = record {
    xs = Node start end ∷ [];
    is_recorded = refl;
    is_around = refl;
    is_open = refl;
    is_last = refl;
    fits = f;
  }

  -- a tree that has only its own span is no Alt
  fits_alone : {t u : Text} (p : Span) (r : Tree) → Lies named t u r (alone p) →
      Fits named r (alone p) (Node p.start p.end ∷ [])
  fits_alone p (leaf a) h = refl
  fits_alone p (over w r) h = refl
  fits_alone p (row label.concat ts) h = refl
  fits_alone p (row label.conditional ts) h = refl
  fits_alone p (row label.expression ts) h = refl
  fits_alone p (row label.alt ts) (row_at label.alt k f h g) = absurd cc

  -- an atom under its quantifiers
  quantified_as : (start : ℕ) (l m : Log) (x : Spans) (d left : ℕ) (q : Outcome Tree) →
      Holds (λ a v. PieceRecorded named start l m a x) q →
      Holds (λ r v. PieceRecorded named start l (quants_recorded left q m) r (quants_spans left start q x))
      (and_then q (quants d left))
  quantified_as start l m x d left (done a s) h = quants_recorded_as named start l d left a s m x h
  quantified_as start l m x d left (failed e) h = tt

  -- a group
  grouped_as : (s : State) (l n m : Log) (x : Spans) (h : GroupKind) (position : ℕ) (q : Outcome Tree) →
      Within (reach_of s.rest) l n → n.recorded ≡ l.recorded → Holds (λ r v. PartRecorded n m r x) q →
      Holds (λ r v. PieceRecorded named (reach_of s.rest) l
      (group_recorded h (end_of (mapped (group_node h position) q)) m) r
      (group_spans named h (between s (mapped (group_node h position) q)) x))
      (mapped (group_node h position) q)
  grouped_as s l n m x h position (done r v) w e k =
      group_as named (reach_of s.rest) l m r x h position (reach_of v.rest) k.xs (within_on w k.is_kept)
      (k.is_recorded ∙ ap (λ y. y ++ k.xs) e) k.fits
  grouped_as s l n m x h position (failed f) w e g = tt

  -- an absent expression
  expression_as : (s : State) (l n m w : Log) (b : ℕ) (a : Tree) (x y : Spans) (q : Outcome Tree) →
      Within (reach_of s.rest) l n → n.recorded ≡ l.recorded → BranchRecorded n m a x →
      Holds (λ r v. BranchRecorded (branch_begun b m) w r y) q →
      Holds (λ r v. PieceRecorded named (reach_of s.rest) l
      (atom_closed (end_of (and_then q (λ r. closed (expression a r)))) false w) r
      (node (between s (and_then q (λ r. closed (expression a r)))) (more_spans x (more_spans y no_spans))))
      (and_then q (λ r. closed (expression a r)))
  expression_as s l n m w b a x y (done r v) k e f g =
      closed_holds (λ o. Holds (λ t u. PieceRecorded named (reach_of s.rest) l (atom_closed (end_of o) false w) t
      (node (between s o) (more_spans x (more_spans y no_spans)))) o) (expression a r) v
      (λ u. closed_as named (reach_of s.rest) l w (expression a r)
      (node (between s (done r u)) (more_spans x (more_spans y no_spans))) (reach_of u.rest) false (f.xs ++ g.xs)
      (within_on k (kept_on (kept_branch f) (record {
        around = g.is_around;
        start = ap (λ (o : Open). o.start) g.is_open;
        height = ap (λ (o : Open). o.height) g.is_open;
        passed = ap (λ (o : Open). o.passed) g.is_open;
        condition = ap (λ (o : Open). o.condition) g.is_open;
        part = ap (λ (o : Open). o.part) g.is_open;
        branches = ap (λ (o : Open). o.branches) g.is_open;
      })))
      (g.is_recorded ∙ ap (λ z. z ++ g.xs) (f.is_recorded ∙ ap (λ z. z ++ f.xs) e) ∙ append_assoc l.recorded f.xs g.xs)
      (ap (λ z. between s (done r u) ∷ z) (shown_append named f.xs g.xs ∙ (λ z. fits_shown named a x f.xs f.fits z
      ++ (fits_shown named r y g.xs g.fits ∙ sym (append-nil (in_preorder y))) z)))) (λ _. tt)
  expression_as s l n m w b a x y (failed error) i e f g = tt

  -- a stopper or a clear
  stopper_as : (s : State) (l n m : Log) (a : Tree) (x : Spans) (v : State) → Within (reach_of s.rest) l n →
      n.recorded ≡ l.recorded → n.open_atom.branches ≡ length n.recorded → BranchRecorded n m a x →
      Holds (λ r w. PieceRecorded named (reach_of s.rest) l
      (stopper_recorded a (end_of (closed (clear_or_stopper a) v)) m) r
      (node (between s (closed (clear_or_stopper a) v)) (solid_spans a x no_spans))) (closed (clear_or_stopper a) v)
  stopper_as s l n m a x v k e b f =
      closed_holds (λ o. Holds (λ t u. PieceRecorded named (reach_of s.rest) l (stopper_recorded a (end_of o) m) t
      (node (between s o) (solid_spans a x no_spans))) o) (clear_or_stopper a) v
      (λ u. by_test (reach_of u.rest) (is_empty a)) (λ _. tt)
    where
      within : Within (reach_of s.rest) l m
      within = within_on k (kept_branch f)

      by_test : (end : ℕ) (t : Bool) → PieceRecorded named (reach_of s.rest) l
          (atom_closed end false (if t then part_dropped m else m))
          (if t then leaf label.clear else over label.stopper a)
          (node (record { start = reach_of s.rest; end = end }) (if t then no_spans else more_spans x no_spans))
      by_test end true =
          closed_as named (reach_of s.rest) l (part_dropped m) (leaf label.clear)
          (node (record { start = reach_of s.rest; end = end }) no_spans) end false []
          (record { around = within.around; start_is = within.start_is; height = within.height })
          (rw (f.is_recorded, ap (λ (o : Open). o.branches) f.is_open ∙ b) (take-append_seam n.recorded f.xs)
          ∙ e ∙ sym (append-nil l.recorded))
          refl
      by_test end false =
          closed_as named (reach_of s.rest) l m (over label.stopper a)
          (node (record { start = reach_of s.rest; end = end }) (more_spans x no_spans)) end false f.xs within
          (f.is_recorded ∙ ap (λ z. z ++ f.xs) e)
          (ap (λ z. record { start = reach_of s.rest; end = end } ∷ z)
          (fits_shown named a x f.xs f.fits ∙ sym (append-nil (in_preorder x))))

  -- the outcome of the parts decides that of the whole
  alternation_of : (s : State) (l m : Log) (f : Forest) (q : Outcome (List Tree)) →
      Holds (λ rs (v : State). PartRecorded l (choice_recorded rs (reach_of v.rest) m) (choice rs)
      (one_or_node (record { start = reach_of s.rest; end = reach_of v.rest }) f)) q →
      Holds (λ r v. PartRecorded l (if_done q (λ rs t. choice_recorded rs (reach_of t.rest) m) m) r
      (one_or_node (between s (mapped choice q)) f)) (mapped choice q)
  alternation_of s l m f (done rs v) h = h
  alternation_of s l m f (failed e) h = tt

  branch_of : (s : State) (l m : Log) (f : Forest) (q : Outcome (List Tree)) → BranchBegun s l →
      Holds (λ ps v. PiecesRecorded l m (solid ps) f) q →
      Holds (λ r v. BranchRecorded l (if_done q (λ ps t. branch_ended (length (solid ps)) (reach_of t.rest) m) m) r
      (one_or_node (between s (mapped (λ ps. one_or concat (solid ps)) q)) f))
      (mapped (λ ps. one_or concat (solid ps)) q)
  branch_of s l m f (done ps v) g h = branch_as s l m (solid ps) f (reach_of v.rest) g h
  branch_of s l m f (failed e) g h = tt

  read_as : (s : State) (l : Log) (o : Outcome Tree) → Reads (IsLeaf s) s o →
      Holds (λ r v. PieceRecorded named (reach_of s.rest) l (atom_read s o l) r (alone (between s o))) o
  read_as s l (done a t) h =
      passed_after named _ (leaf_as (reach_of s.rest) (reach_of t.rest) l a
      (fits_alone (between s (done a t)) a (leaf_lies named a h.alone h.span.slice)))
  read_as s l (failed e) h = tt

  inside_of : (l m : Log) (x : Spans) (q : Outcome Tree) → Holds (λ r v. PartRecorded l m r x) q →
      Holds (λ r v. PartRecorded l m r x) (and_then q closed)
  inside_of l m x q h =
      then_holds (λ r v. PartRecorded l m r x) (λ r v. PartRecorded l m r x) q closed h
      (λ r v k. closed_holds (Holds (λ r v. PartRecorded l m r x)) r v (λ u. k) (λ _. tt))

  mutual
    pub alternation_as : {d : ℕ} {s : State} {o : Outcome Tree} (a : Alternation d s o) (l : Log) → PartBegun s l →
        Holds (λ r v. PartRecorded l (alternation_recorded a l) r (alternation_spans named a)) o
    alternation_as {s} (alternation {q} b) l g =
        alternation_of s l (branches_recorded b l) (branches_spans named b) q (choice_as b l g)

    choice_as : {d : ℕ} {s : State} {o : Outcome (List Tree)} (a : Branches d s o) (l : Log) → PartBegun s l →
        Holds (λ rs (v : State). PartRecorded l (choice_recorded rs (reach_of v.rest) (branches_recorded a l)) (choice rs)
        (one_or_node (record { start = reach_of s.rest; end = reach_of v.rest }) (branches_spans named a))) o
    choice_as (last b e) l g = one_part (branch_as_read b l g.branch)
    choice_as {s} (more {u} {r} {q} b e m) l g =
        let k = branch_recorded b l in
        let h = branch_as_read b l g.branch in
        let bar : FirstBar = record { past = reach_of u; before = length k.recorded - k.open_atom.branches } in
        let is_first : (branch_begun (reach_of u) k).open_atom.bar ≡ Some bar =
        ap (λ o. Some (first_bar o (reach_of u) (length k.recorded - k.open_atom.branches)))
        (ap (λ (o : Open). o.bar) h.is_open ∙ g.bar) in
        then_holds (λ rs v. LaterRecorded bar (branch_begun (reach_of u) k)
        (branches_recorded m (branch_begun (reach_of u) k)) rs (branches_spans named m)) _ q _
        (later_as m bar (branch_begun (reach_of u) k) is_first (record { branch = refl; pieces = refl }))
        (λ rs v f. several_part s l k _ (reach_of u) (reach_of v.rest) r _ rs _ g h f)
    choice_as (branch_error b) l g = tt

    later_as : {d : ℕ} {s : State} {o : Outcome (List Tree)} (a : Branches d s o) (b : FirstBar) (l : Log) →
        l.open_atom.bar ≡ Some b → BranchBegun s l →
        Holds (λ rs v. LaterRecorded b l (branches_recorded a l) rs (branches_spans named a)) o
    later_as (last {r} b e) c l i g = later_last c l (branch_recorded b l) r (branch_spans named b) i
        (branch_as_read b l g)
    later_as (more {u} {r} {q} b e m) c l i g =
        let k = branch_recorded b l in
        let h = branch_as_read b l g in
        then_holds (λ rs v. LaterRecorded c (branch_begun (reach_of u) k)
        (branches_recorded m (branch_begun (reach_of u) k)) rs (branches_spans named m)) _ q _
        (later_as m c (branch_begun (reach_of u) k)
        (bar_kept k c (reach_of u) (ap (λ (o : Open). o.bar) h.is_open ∙ i)) (record { branch = refl; pieces = refl }))
        (λ rs v f. later_more c l k _ (reach_of u) r _ rs _ h f)
    later_as (branch_error b) c l i g = tt

    branch_as_read : {d : ℕ} {s : State} {o : Outcome Tree} (a : Branch d s o) (l : Log) → BranchBegun s l →
        Holds (λ r v. BranchRecorded l (branch_recorded a l) r (branch_spans named a)) o
    branch_as_read {s} (branch {q} p) l g =
        branch_of s l (pieces_recorded p l) (pieces_spans named p) q g (pieces_as p l)

    pieces_as : {d : ℕ} {s : State} {o : Outcome (List Tree)} (a : Pieces d s o) (l : Log) →
        Holds (λ ps v. PiecesRecorded l (pieces_recorded a l) (solid ps) (pieces_spans named a)) o
    pieces_as (stop e) l = none_as l
    pieces_as (next {r} {q} e a m) l =
        let k = piece_recorded a l in
        let h = piece_as_read a l in
        then_holds (λ ps v. PiecesRecorded (added r k) (pieces_recorded m (added r k)) (solid ps)
        (pieces_spans named m)) _ q _
        (pieces_as m (added r k)) (λ ps v f. in_front l k _ r _ ps _ h f)
    pieces_as (piece_error e a) l = tt

    piece_as_read : {d : ℕ} {s : State} {o : Outcome Tree} (a : Piece d s o) (l : Log) →
        Holds (λ r v. PieceAs l (piece_recorded a l) r (piece_spans named a)) o
    piece_as_read {d} {s} (piece {u} {q} i x) l =
        some_piece (quants_recorded (bytes s.rest) q (atom_recorded x (layout_passed s l)))
        (quants_spans (bytes s.rest) (reach_of u) q (atom_spans named x)) (reach_of u) _
        (quantified_as (reach_of u) (layout_passed s l) (atom_recorded x (layout_passed s l)) (atom_spans named x) d
        (bytes s.rest) q (atom_as x (layout_passed s l)))
      where
        some_piece : (m : Log) (x : Spans) (start : ℕ) (o : Outcome Tree) →
            Holds (λ r v. PieceRecorded named start (layout_passed s l) m r x) o → Holds (λ r v. PieceAs l m r x) o
        some_piece m x start (done r v) h = (start, passed_before named _ h)
        some_piece m x start (failed e) h = tt
    piece_as_read (layout_error i) l = tt

    atom_as : {d : ℕ} {s : State} {o : Outcome Tree} (a : Atom d s o) (l : Log) →
        Holds (λ r v. PieceRecorded named (reach_of s.rest) l (atom_recorded a l) r (atom_spans named a)) o
    atom_as {d} {s} (atom {k} {q} e a) l =
        let P = Holds (λ r v. PieceRecorded named (reach_of s.rest) l (atom_of_recorded a l) r (atom_of_spans named a)) in
        let read_start = subst (StartReads s) e (start_reads d s) in
        let h = atom_of_as a l read_start (subst (ConditionLies named s) e (condition_lies named d s)) in
        after_keeps P (λ r t f i. i) k s.flags q h

    atom_of_as : {k : AtomStart} {d : ℕ} {s : State} {o : Outcome Tree} (a : AtomOf k d s o) (l : Log) →
        StartReads s k → ConditionLies named s k →
        Holds (λ r v. PieceRecorded named (reach_of s.rest) l (atom_of_recorded a l) r (atom_of_spans named a)) o
    atom_of_as {s} a_nothing l h c =
        leaf_as (reach_of s.rest) (reach_of s.rest) l empty refl
    atom_of_as {s} {o} a_read l h c = read_as s l o h
    atom_of_as {s} (a_group {t} {h = kind} {q} i) l h c =
        let n = group_opened kind s t l in
        grouped_as s l n (inside_recorded i n) (inside_spans named i) kind (reach_of s.rest) q
        (record { around = refl; start_is = refl; height = refl }) refl
        (inside_as i n (record {
          part = refl;
          branches = refl;
          bar = refl;
          branch = record { branch = refl; pieces = refl };
        }))
    atom_of_as {s} (a_condition {t} {v} {c} i b) l h z =
        let n = branches_opened s t l in
        let f = inside_as i n (branches_begin s t l) in
        let m = body_begun (reach_of v.rest) (inside_recorded i n) in
        let w = within_on (branches_within s t l) f.is_kept in
        body_as_read s b l m (inside_spans named i) f.xs
        (record { around = w.around; start_is = w.start_is; height = w.height }) f.is_recorded f.fits
        (body_begins v (inside_recorded i n))
    atom_of_as {s} (condition_error i) l h c = tt
    atom_of_as {s} (a_body {t} {c} b) l h z =
        let p = condition_span s t in
        let k = inner_at s p.start in
        let w = opened_within (reach_of s.rest) p.start l in
        body_as_read s b l (body_opened s t l) (alone p) (Node p.start p.end ∷ [])
        (record { around = w.around; start_is = w.start_is; height = w.height }) refl
        (fits_alone p c z)
        (body_begins t (leaf_recorded p.start p.end (pass k (atom_opened (reach_of s.rest) p.start l))))
    atom_of_as {s} (two_branches {t} {v} {u} {a} {q} b e m) l h c =
        let n = branches_opened s t l in
        let k = branch_recorded b n in
        let f = branch_as_read b n (branches_begin s t l).branch in
        expression_as s l n k (branch_recorded m (branch_begun (reach_of u) k)) (reach_of u) a (branch_spans named b)
        (branch_spans named m) q (branches_within s t l) refl f
        (branch_as_read m (branch_begun (reach_of u) k) (record { branch = refl; pieces = refl }))
    atom_of_as {s} (one_branch {t} {v} {a} b e) l h c =
        let n = branches_opened s t l in
        stopper_as s l n (branch_recorded b n) a (branch_spans named b) v
        (branches_within s t l) refl refl
        (branch_as_read b n (branches_begin s t l).branch)
    atom_of_as {s} (absent_error b) l h c = tt

    pub inside_as : {d : ℕ} {s : State} {o : Outcome Tree} (a : Inside d s o) (l : Log) → PartBegun s l →
        Holds (λ r v. PartRecorded l (inside_recorded a l) r (inside_spans named a)) o
    inside_as (inside {q} a) l g =
        inside_of l (alternation_recorded a l) (alternation_spans named a) q (alternation_as a l g)

    body_as_read : {d : ℕ} {c : Tree} {t : State} {o : Outcome Tree} (w : State) (a : Body d c t o) (l n : Log)
        (y : Spans) (ys : List Recorded) → Within (reach_of w.rest) l n → n.recorded ≡ l.recorded ++ ys →
        Fits named c y ys →
        PartBegun t n →
        Holds (λ r v. PieceRecorded named (reach_of w.rest) l (body_recorded a n) r (body_spans named w y a)) o
    body_as_read {c} {t} w (the_body {q} a) l n y ys k e f g =
        body_as w l n (alternation_recorded a n) c (bytes t.rest) (alternation_spans named a) y ys q k e f g.branches
        (alternation_as a n g)

  -- ---- a whole text

  pub whole_recorded : {d : ℕ} {s : State} {r : Tree} {t : State} (a : Alternation d s (done r t)) →
      shown named (alternation_recorded a (started (reach_of s.rest))).recorded ≡ in_preorder (alternation_spans named a)
  whole_recorded {s} {r} a =
      let h = alternation_as a (started (reach_of s.rest)) (record {
        part = refl;
        branches = refl;
        bar = refl;
        branch = record { branch = refl; pieces = refl };
      }) in
      ap (shown named) h.is_recorded ∙ fits_shown named r (alternation_spans named a) h.xs h.fits
