-- What is recorded for a text shows the spans of its derivation.
use Rattle.std.proofs.Common.{◌≡◌, ℕ, zero, suc, ◌+◌, ◌-◌, min, Bool, true, false, ◌||◌, if◌then◌else◌, List, []}
use Rattle.std.proofs.Common.{◌∷◌, ◌++◌, length, Option, Some, None, refl, sym, ap, ◌∙◌, arith, append-nil}
use Rattle.std.proofs.Common.{length-append, nat_lt, take}
use Rattle.std.specs.Prelude.{insert, remove}
use Rattle.std.specs.List.{slice_get}
use Rattle.std.specs.Option.{option_and_then}
use Rattle.std.proofs.lemmas.Bool.{cond_both}
use Rattle.std.proofs.lemmas.List.{length_push}
use Rattle.std.proofs.lemmas.List.Edits.{insert-append_right}
use Rattle.std.proofs.Math.Seq.{take-append_seam}
use Rattle.fancy_lex.specs.LayoutSteps.{Skipped, rest, rest_of, failed as open_comment}
use Rattle.fancy_lex.specs.Reading.{choose}
use Rattle.fancy_lex.specs.Text.{Text, bytes, reach_of}
use Rattle.fancy_lex.specs.ErrorTable.{not_repeatable, quantifier_too_deep}
use Rattle.fancy_lex.specs.declared.flags.Flags.{Flags}
use Rattle.fancy_lex.specs.Quantifier.{counts}
use Rattle.fancy_lex.specs.declared.counts.Counts.{Counts}
use Rattle.fancy_grammar.specs.Depth.{max_depth}
use Rattle.fancy_grammar.specs.Label as label
use Rattle.fancy_grammar.specs.Quantified.{quants, adjacent, max_adjacent, is_unmoved, quant, with_counts}
use Rattle.fancy_grammar.specs.Quantified.{suffix, is_swapped, quantified, is_repeatable, is_dropped, is_greedy, Suffix}
use Rattle.fancy_grammar.specs.Spans.{Span, Spans, node, Forest, no_spans, more_spans, after_bar, around}
use Rattle.fancy_grammar.specs.Spans.{in_preorder, all_in_preorder, if_done, under, quantifier_end, counted, quant_spans}
use Rattle.fancy_grammar.specs.Spans.{adjacent_spans, quants_spans}
use Rattle.fancy_grammar.specs.State.{skipped, after_skipped, State, at, Outcome, done, failed, and_then, mapped}
use Rattle.fancy_grammar.specs.Tree.{Tree, leaf, over, row, Trees, trees_of, alt, repeat, atomic_repeat}
use Rattle.fancy_grammar.proofs.OutcomeLemmas.{Holds}
use Rattle.fancy_grammar.specs.Trivia.{Passed, inner_of_counts, layout_end, with_dropped}
use Rattle.fancy_syntax.specs.Log.{Log, pass, put, others_put, alt_split, bar_split, body_split, shown, under_node, wrapped, layout_passed, text_dropped}
use Rattle.fancy_syntax.specs.Recording.{counted_recorded, quantifier_dropped, quant_recorded, adjacent_recorded}
use Rattle.fancy_syntax.specs.Recording.{quants_recorded}
use Rattle.fancy_syntax.specs.declared.grammar.recorded.LastPiece.{LastPiece}
use Rattle.fancy_syntax.specs.declared.grammar.recorded.FirstBar.{FirstBar}
use Rattle.fancy_syntax.specs.declared.grammar.recorded.Recorded.{Recorded}
use Rattle.fancy_syntax.specs.declared.grammar.recorded.Recorded.TheVariants.{Node, Unnamed, Bar}

-- an element inserted after those of the first list
pub put_seam : {E : Type 0} (A xs : List E) (x : E) →
    insert (A ++ xs) (min (length A) (length (A ++ xs))) x ≡ A ++ x ∷ xs
put_seam A xs x =
    let n : min (length A) (length (A ++ xs)) ≡ length A = omega (arith, length-append A xs) in
    let z : length A - length A ≡ 0 = omega arith in
    ap (λ n. insert (A ++ xs) n x) n ∙ insert-append_right A xs (length A) (length A) x refl (omega arith)
    ∙ ap (λ k. A ++ insert xs k x) z

pub put_recorded : (l : Log) (h : ℕ) (A xs : List Recorded) (x : Recorded) → l.recorded ≡ A ++ xs → h ≡ length A →
    (put h x l).recorded ≡ A ++ x ∷ xs
put_recorded l h A xs x e i = rw (e, i) (put_seam A xs x)

pub slice_get_seam : (A B : List Recorded) (x : Recorded) → slice_get (A ++ x ∷ B) (length A) ≡ Some x
slice_get_seam [] B x = refl
slice_get_seam (a ∷ A) B x = slice_get_seam A B x

-- a body is split, of which the first bar is recorded last and the Alt at the height of the branches
pub split_off : (branches : ℕ) (front : List Recorded) (b : FirstBar) (start end : ℕ) (l : Log) →
    l.recorded ≡ front ++ Bar b ∷ [] → slice_get front l.open_atom.branches ≡ Some (Node start end) →
    body_split branches l ≡ record l {
      recorded = others_put l.open_atom.branches branches b end (remove front l.open_atom.branches);
    }
split_off branches front b start end l e h =
    let before : length l.recorded - 1 ≡ length front = omega (arith, ap length e, length_push front (Bar b)) in
    let found : slice_get l.recorded (length l.recorded - 1) ≡ Some (Bar b) =
    rw (before, e) (slice_get_seam front [] (Bar b)) in
    let fronts : take (length l.recorded - 1) l.recorded ≡ front =
    rw (before, e) (take-append_seam front (Bar b ∷ [])) in
    (λ i. record l { recorded = bar_split l.open_atom.branches branches (found i) (fronts i) })
    ∙ ap (λ o. record l { recorded = alt_split l.open_atom.branches branches b o front }) h

-- branches after the first, with their spans
pub data Beside : List Tree → Forest → Type 0 where
  one_more : {q z : _} → Beside (q ∷ []) (more_spans z no_spans)
  several_more : {q p l z b f : _} → Beside (q ∷ p ∷ l) (more_spans z (after_bar b f))

module _ (named : Bool) where
  pub shown_append : (xs ys : List Recorded) → shown named (xs ++ ys) ≡ shown named xs ++ shown named ys
  shown_append [] ys = refl
  shown_append (Node start end ∷ xs) ys = ap (λ l. record { start = start; end = end } ∷ l) (shown_append xs ys)
  shown_append (Unnamed start end ∷ xs) ys = by_test named (shown_append xs ys)
    where
      p : Span
      p = record { start = start; end = end }

      by_test : (b : Bool) → shown named (xs ++ ys) ≡ shown named xs ++ shown named ys →
          (if b then shown named (xs ++ ys) else p ∷ shown named (xs ++ ys))
          ≡ (if b then shown named xs else p ∷ shown named xs) ++ shown named ys
      by_test true h = h
      by_test false h = ap (λ l. p ∷ l) h
  shown_append (Bar b ∷ xs) ys = shown_append xs ys

  -- the nodes of an Alt of these branches, and its first bar
  pub record Barred (ts : Trees) (x : Spans) (xs : List Recorded) : Type 0 where
    pub span : Span
    pub bar : ℕ
    pub one : Tree
    pub others : List Tree
    pub first : Spans
    pub rest : Forest
    pub ys : List Recorded
    pub zs : List Recorded
    pub is_tree : ts ≡ trees_of (one ∷ others)
    pub beside : Beside others rest
    pub is_spans : x ≡ node span (more_spans first (after_bar bar rest))
    pub is_recorded : xs ≡ Node span.start span.end ∷ (ys ++ zs) ++ Bar (record { past = bar; before = length ys }) ∷ []
    pub shows_first : shown named ys ≡ in_preorder first
    pub shows_rest : shown named zs ≡ all_in_preorder rest

  -- the nodes of a tree that has these spans
  abbrev pub Fits : Tree → Spans → List Recorded → Type 0
  Fits (alt ts) x xs = Barred ts x xs
  Fits _ x xs = shown named xs ≡ in_preorder x

  barred_shows : {ts : Trees} {x : Spans} {xs : List Recorded} → Barred ts x xs → shown named xs ≡ in_preorder x
  barred_shows h =
      let b : FirstBar = record { past = h.bar; before = length h.ys } in
      ap (shown named) h.is_recorded
      ∙ ap (λ l. h.span ∷ l) (shown_append (h.ys ++ h.zs) (Bar b ∷ []) ∙ append-nil (shown named (h.ys ++ h.zs))
      ∙ shown_append h.ys h.zs ∙ (λ i. h.shows_first i ++ h.shows_rest i)) ∙ sym (ap in_preorder h.is_spans)

  pub fits_shown : (r : Tree) (x : Spans) (xs : List Recorded) → Fits r x xs → shown named xs ≡ in_preorder x
  fits_shown (leaf l) x xs h = h
  fits_shown (over w t) x xs h = h
  fits_shown (row label.alt ts) x xs h = barred_shows h
  fits_shown (row label.concat ts) x xs h = h
  fits_shown (row label.conditional ts) x xs h = h
  fits_shown (row label.expression ts) x xs h = h

  -- after the log l, the tree r is recorded as a piece that begins at the reach
  pub record PieceRecorded (start : ℕ) (l m : Log) (r : Tree) (x : Spans) : Type 0 where
    pub xs : List Recorded
    pub is_recorded : m.recorded ≡ l.recorded ++ xs
    pub is_around : m.around ≡ l.around
    pub is_open : m.open_atom ≡ l.open_atom
    pub is_last : m.last ≡ record { start = start; height = length l.recorded }
    pub fits : Fits r x xs

  -- what no node has is passed before it
  pub passed_before : {start : ℕ} {l m : Log} {r : Tree} {x : Spans} (ps : List Passed) →
      PieceRecorded start (record l { passed = ps }) m r x → PieceRecorded start l m r x
  passed_before ps h = record {
    xs = h.xs;
    is_recorded = h.is_recorded;
    is_around = h.is_around;
    is_open = h.is_open;
    is_last = h.is_last;
    fits = h.fits;
  }

  -- and after it
  pub passed_after : {start : ℕ} {l m : Log} {r : Tree} {x : Spans} (ps : List Passed) → PieceRecorded start l m r x →
      PieceRecorded start l (record m { passed = ps }) r x
  passed_after ps h = record {
    xs = h.xs;
    is_recorded = h.is_recorded;
    is_around = h.is_around;
    is_open = h.is_open;
    is_last = h.is_last;
    fits = h.fits;
  }

  module _ (start : ℕ) (l : Log) where
    -- in a node
    once : {m : Log} {a : Tree} {x : Spans} (w : _) (end : ℕ) → PieceRecorded start l m a x →
        PieceRecorded start l (under_node end m) (over w a) (around (record { start = start; end = end }) x)
    once {m} {a} {x} w end h =
        let n = Node m.last.start end in
        let p : record { start = m.last.start; end = end } ≡ record { start = start; end = end } =
        ap (λ (k : LastPiece). record { start = k.start; end = end }) h.is_last in
        record {
          xs = n ∷ h.xs;
          is_recorded = put_recorded m m.last.height l.recorded h.xs n h.is_recorded
              (ap (λ (k : LastPiece). k.height) h.is_last);
          is_around = h.is_around;
          is_open = h.is_open;
          is_last = h.is_last;
          fits = λ i. p i ∷ (fits_shown a x h.xs h.fits ∙ sym (append-nil (in_preorder x))) i;
        }

    under_recorded : {m : Log} {a : Tree} {x : Spans} (f : Flags) (c : Counts) (k : Suffix) (end : ℕ) →
        PieceRecorded start l m a x → PieceRecorded start l (wrapped end (is_swapped f c || k.possessive) m)
        (quantified f c k a) (under f c k (record { start = start; end = end }) x)
    under_recorded {m} {a} {x} f c k end h = by_test (is_swapped f c) k.possessive
      where
        p : Span
        p = record { start = start; end = end }

        twice : (low high : ℕ) → PieceRecorded start l (under_node end (under_node end m))
            (atomic_repeat a low high (is_greedy f k.lazy)) (around p (around p x))
        twice low high = once _ end (once (label.repeat low high (is_greedy f k.lazy)) end h)

        by_test : (b d : Bool) → PieceRecorded start l
            (under_node end (if b || d then under_node end m else m))
            (if b then atomic_repeat a c.high c.low (is_greedy f k.lazy)
            else if d then atomic_repeat a c.low c.high (is_greedy f k.lazy)
            else repeat a c.low c.high (is_greedy f k.lazy))
            (if b || d then around p (around p x) else around p x)
        by_test true d = twice c.high c.low
        by_test false true = twice c.low c.high
        by_test false false = once (label.repeat c.low c.high (is_greedy f k.lazy)) end h

    -- the outcome is recorded
    abbrev pub RecordedAs : Log → Spans → Outcome Tree → Type 0
    RecordedAs m x o = Holds (λ r v. PieceRecorded start l m r x) o

    quant_recorded_as : (left : ℕ) (a : Tree) (s : State) (m : Log) (x : Spans) → PieceRecorded start l m a x →
        RecordedAs (quant_recorded a s m) (quant_spans start a s x) (quant left a s)
    unfolding quant
    quant_recorded_as left a s m x h = by_layout (skipped s)
      where
        n : Log
        n = layout_passed s m

        g : PieceRecorded start l n a x
        g = passed_after _ h

        -- after the counts at w, and the layout before the operators
        after : Text → Counts → Text → Log
        after w c u = layout_passed (at s u) (pass (inner_of_counts c w u) n)

        by_operators : (w : Text) (c : Counts) (u : Text) (o : Outcome Suffix) →
            RecordedAs
            (if_done o (λ k v. wrapped (quantifier_end u k v) (is_swapped s.flags c || k.possessive) (after w c u))
            (after w c u))
            (if_done o (λ k v. under s.flags c k (record { start = start; end = quantifier_end u k v }) x) x)
            (mapped (λ k. quantified s.flags c k a) o)
        by_operators w c u (done k v) =
            under_recorded s.flags c k (quantifier_end u k v) (passed_after _ g)
        by_operators w c u (failed e) = tt

        -- after the counts, which are left out, and the layout after them
        left_out : Text → Counts → Text → Log
        left_out w c u =
            layout_passed (at s u) (pass (inner_of_counts c w u) (text_dropped (reach_of w) (reach_of u) n))

        by_dropped : (w : Text) (c : Counts) (u : Text) (o : Outcome Suffix) → RecordedAs
            (if_done o (λ k v. text_dropped (layout_end (at s u)) (reach_of v.rest) (left_out w c u)) (left_out w c u)) x
            (mapped (λ k. a) o)
        by_dropped w c u (done k v) =
            passed_after (with_dropped (layout_end (at s u)) (reach_of v.rest) (left_out w c u).passed) g
        by_dropped w c u (failed e) = tt

        by_tests : (b d : Bool) (w : Text) (c : Counts) (u : Text) →
            RecordedAs
            (if b then if_done (suffix (at s u) c)
            (λ k v. wrapped (quantifier_end u k v) (is_swapped s.flags c || k.possessive) (after w c u)) (after w c u)
            else quantifier_dropped w (at s u) c n)
            (if b then if_done (suffix (at s u) c)
            (λ k v. under s.flags c k (record { start = start; end = quantifier_end u k v }) x) x else x)
            (if b then mapped (λ k. quantified s.flags c k a) (suffix (at s u) c)
            else if d then mapped (λ k. a) (suffix (at s u) c) else failed (not_repeatable u))
        by_tests true d w c u = by_operators w c u (suffix (at s u) c)
        by_tests false true w c u = by_dropped w c u (suffix (at s u) c)
        by_tests false false w c u = tt

        by_counts : (v : Text) (o : Option (Counts × Text)) →
            RecordedAs (choose o (counted_recorded v a s n) n) (choose o (counted start a s x) x)
            (with_counts left a (at s v) o)
        by_counts v None = g
        by_counts v (Some (c, u)) = by_tests (is_repeatable s.flags a) (is_dropped s.flags left a u) v c u

        by_layout : (j : Skipped) → RecordedAs
            (choose (option_and_then (counts s.flags.ignore_space) (rest_of j))
            (counted_recorded (choose (rest_of j) (λ t. t) s.rest) a s n) n)
            (choose (option_and_then (counts s.flags.ignore_space) (rest_of j)) (counted start a s x) x)
            (after_skipped j (λ v. with_counts left a (at s v) (counts s.flags.ignore_space v)) failed)
        by_layout (rest v) = by_counts v (counts s.flags.ignore_space v)
        by_layout (open_comment p) = tt

    adjacent_recorded_as : (k d : ℕ) (a : Tree) (s : State) (m : Log) (x : Spans) → PieceRecorded start l m a x →
        RecordedAs (adjacent_recorded k a s m) (adjacent_spans k start a s x) (adjacent k d a s)
    unfolding adjacent
    adjacent_recorded_as zero d a s m x h =
        by_first (quant (bytes s.rest) a s) (quant_recorded_as (bytes s.rest) a s m x h)
      where
        n : Log
        n = quant_recorded a s m

        y : Spans
        y = quant_spans start a s x

        by_first : (o : Outcome Tree) → RecordedAs n y o → RecordedAs n y
            (and_then o (λ b v. if is_unmoved s v then done b v else failed (quantifier_too_deep v.rest)))
        by_first (done b v) i = cond_both (is_unmoved s v) _ _ (RecordedAs n y) (λ _. i) (λ _. tt)
        by_first (failed e) i = tt
    adjacent_recorded_as (suc k) d a s m x h =
        by_first (λ b v i. adjacent_recorded_as k (d + 1) b v (quant_recorded a s m) (quant_spans start a s x) i)
        (quant (bytes s.rest) a s) (quant_recorded_as (bytes s.rest) a s m x h)
      where
        n : Log
        n = quant_recorded a s m

        y : Spans
        y = quant_spans start a s x

        by_tests : (c e : Bool) (b : Tree) (v : State) → PieceRecorded start l n b y →
            RecordedAs (adjacent_recorded k b v n) (adjacent_spans k start b v y) (adjacent k (d + 1) b v) →
            RecordedAs (if c then n else adjacent_recorded k b v n) (if c then y else adjacent_spans k start b v y)
            (if c then done b v else if e then adjacent k (d + 1) b v else failed (quantifier_too_deep v.rest))
        by_tests true e b v i j = i
        by_tests false true b v i j = j
        by_tests false false b v i j = tt

        by_first : ((b : Tree) (v : State) → PieceRecorded start l n b y →
            RecordedAs (adjacent_recorded k b v n) (adjacent_spans k start b v y) (adjacent k (d + 1) b v)) →
            (o : Outcome Tree) → RecordedAs n y o → RecordedAs
            (if_done o (λ b v. if is_unmoved s v then n else adjacent_recorded k b v n) n)
            (if_done o (λ b v. if is_unmoved s v then y else adjacent_spans k start b v y) y)
            (and_then o (λ b v. if is_unmoved s v then done b v
            else if nat_lt (d + 1) max_depth then adjacent k (d + 1) b v else failed (quantifier_too_deep v.rest)))
        by_first go_on (done b v) i = by_tests (is_unmoved s v) (nat_lt (d + 1) max_depth) b v i (go_on b v i)
        by_first go_on (failed e) i = tt

    pub quants_recorded_as : (d left : ℕ) (a : Tree) (s : State) (m : Log) (x : Spans) → PieceRecorded start l m a x →
        RecordedAs (quants_recorded left (done a s) m) (quants_spans left start (done a s) x) (quants d left a s)
    quants_recorded_as d left a s m x h = by_first (quant left a s) (quant_recorded_as left a s m x h)
      where
        n : Log
        n = quant_recorded a s m

        y : Spans
        y = quant_spans start a s x

        by_mode : (c : Bool) (b : Tree) (v : State) → PieceRecorded start l n b y →
            RecordedAs (if c then adjacent_recorded max_adjacent b v n else n)
            (if c then adjacent_spans max_adjacent start b v y else y)
            (if c then adjacent max_adjacent d b v else done b v)
        by_mode true b v i = adjacent_recorded_as max_adjacent d b v n y i
        by_mode false b v i = i

        by_first : (o : Outcome Tree) → RecordedAs n y o → RecordedAs
            (if_done o (λ b v. if v.flags.oniguruma_mode then adjacent_recorded max_adjacent b v n else n) n)
            (if_done o (λ b v. if v.flags.oniguruma_mode then adjacent_spans max_adjacent start b v y else y) y)
            (and_then o (λ b v. if v.flags.oniguruma_mode then adjacent max_adjacent d b v else done b v))
        by_first (done b v) i = by_mode v.flags.oniguruma_mode b v i
        by_first (failed e) i = tt

-- ---- the steps of adjacent quantifiers

-- no byte is taken
pub recorded_ends : (k : ℕ) (a : Tree) (s : State) (l : Log) {b : Tree} {t : State} →
    quant (bytes s.rest) a s ≡ done b t → is_unmoved s t ≡ true → adjacent_recorded k a s l ≡ quant_recorded a s l
recorded_ends zero a s l e u = refl
recorded_ends (suc k) a s l e u = rw (e, u) refl

-- one more quantifier is taken
pub recorded_counts : (k j : ℕ) (a : Tree) (s : State) (l : Log) {b : Tree} {t : State} →
    quant (bytes s.rest) a s ≡ done b t → is_unmoved s t ≡ false → k ≡ j + 1 →
    adjacent_recorded k a s l ≡ adjacent_recorded j b t (quant_recorded a s l)
recorded_counts zero j a s l e u i = absurd (omega (arith, i))
recorded_counts (suc k) j a s l e u i = let same : k ≡ j = omega arith in rw (e, u, same) refl
