-- How an atom under its quantifiers lies in its text.
use Rattle.std.proofs.Common.{ℕ, zero, suc, ◌+◌, Bool, true, false, ◌||◌, nat_lt, Option, Some, None}
use Rattle.std.proofs.Common.{if◌then◌else◌, refl}
use Rattle.std.specs.Option.{option_and_then}
use Rattle.std.proofs.lemmas.Bool.{cond_both}
use Rattle.fancy_lex.proofs.TakeLaws.{TakesSome}
use Rattle.fancy_lex.specs.ErrorTable.{not_repeatable, quantifier_too_deep}
use Rattle.fancy_lex.specs.LayoutSteps.{Skipped, rest, rest_of, failed as open_comment}
use Rattle.fancy_lex.specs.Reading.{choose}
use Rattle.fancy_lex.specs.Text.{Text, bytes, reach_of}
use Rattle.fancy_lex.specs.declared.flags.Flags.{Flags}
use Rattle.fancy_lex.proofs.CountLaws.{takes_counts}
use Rattle.fancy_lex.specs.Quantifier.{counts}
use Rattle.fancy_lex.specs.declared.counts.Counts.{Counts}
use Rattle.fancy_grammar.specs.Depth.{max_depth}
use Rattle.fancy_grammar.specs.Label as label
use Rattle.fancy_grammar.specs.Quantified.{quants, adjacent, max_adjacent, is_unmoved, quant, with_counts}
use Rattle.fancy_grammar.specs.Quantified.{suffix, is_swapped, quantified, is_repeatable, is_dropped, is_greedy, Suffix}
use Rattle.fancy_grammar.specs.Slices.{Slice}
use Rattle.fancy_grammar.specs.Spans.{Spans, around, if_done, under, quantifier_end, counted, quant_spans}
use Rattle.fancy_grammar.specs.Spans.{adjacent_spans, quants_spans}
use Rattle.fancy_grammar.specs.State.{skipped, after_skipped, State, at, Outcome, done, failed, and_then, mapped}
use Rattle.fancy_grammar.specs.Tree.{Tree, repeat, atomic_repeat}
use Rattle.fancy_grammar.proofs.OutcomeLemmas.{Holds}
use Rattle.fancy_grammar.proofs.ReadLaws.{suffix_reads}
use Rattle.fancy_grammar.proofs.Slices.{Reads, current, on, layout_slice, SkippedSlice}
use Rattle.fancy_grammar.proofs.SpansLemmas.{Lies, LiesFrom, reaches, over_at, wider}

-- the rest after what is read is a suffix of t
abbrev RestIn : {A : Type 0} → Text → Outcome A → Type 0
RestIn t o = Holds (λ a (v : State). Slice t v.rest) o

suffix_rest : (s : State) (c : Counts) → RestIn s.rest (suffix s c)
suffix_rest s c = by_cases (suffix s c) (suffix_reads s c)
  where
    by_cases : (o : Outcome Suffix) → Reads (λ m v. Slice s.rest v.rest) s o → RestIn s.rest o
    by_cases (done m v) h = h
    by_cases (failed e) h = tt

module _ (named : Bool) where
  under_lies : {t e v : Text} {a : Tree} {x : Spans} (f : Flags) (c : Counts) (m : Suffix) →
      Lies named t e a x → Slice e v → Lies named t v (quantified f c m a) (under f c m (reaches t e) x)
  under_lies {t} {e} {v} {a} {x} f c m h k = by_test (is_swapped f c) m.possessive
    where
      once : {z : Text} (low high : ℕ) → Slice e z →
          Lies named t z (repeat a low high (is_greedy f m.lazy)) (around (reaches t e) x)
      once low high g = over_at (label.repeat low high (is_greedy f m.lazy)) refl (current t) h g

      twice : (low high : ℕ) → Lies named t v (atomic_repeat a low high (is_greedy f m.lazy))
          (around (reaches t e) (around (reaches t e) x))
      twice low high = over_at _ refl (current t) (once low high (current e)) k

      by_test : (b d : Bool) → Lies named t v
          (if b then atomic_repeat a c.high c.low (is_greedy f m.lazy)
          else if d then atomic_repeat a c.low c.high (is_greedy f m.lazy)
          else repeat a c.low c.high (is_greedy f m.lazy))
          (if b || d then around (reaches t e) (around (reaches t e) x) else around (reaches t e) x)
      by_test true d = twice c.high c.low
      by_test false true = twice c.low c.high
      by_test false false = once c.low c.high k

  -- the atom a spans from t to the state s
  module _ (t : Text) where
    quant_lies : (left : ℕ) (a : Tree) (s : State) (x : Spans) → Lies named t s.rest a x →
        LiesFrom named t (quant_spans (reach_of t) a s x) (quant left a s)
    unfolding quant
    quant_lies left a s x h = by_layout (skipped s) (layout_slice s.flags.ignore_space s.rest)
      where
        kept : {v : Text} → Slice s.rest v → Lies named t v a x
        kept i = wider named (current t) i h

        by_operators : (c : Counts) (u : Text) (o : Outcome Suffix) → Slice s.rest u → RestIn u o →
            LiesFrom named t
            (if_done o (λ m v. under s.flags c m (record { start = reach_of t; end = quantifier_end u m v }) x) x)
            (mapped (λ m. quantified s.flags c m a) o)
        by_operators c u (done m v) i j =
            cond_both (m.lazy || m.possessive) _ _ (λ e. Lies named t v.rest (quantified s.flags c m a)
            (under s.flags c m (record { start = reach_of t; end = e }) x))
            (λ _. under_lies s.flags c m (kept (on i j)) (current v.rest))
            (λ _. under_lies s.flags c m (kept i) j)
        by_operators c u (failed e) i j = tt

        by_dropped : (u : Text) (o : Outcome Suffix) → Slice s.rest u → RestIn u o →
            LiesFrom named t x (mapped (λ m. a) o)
        by_dropped u (done m v) i j = kept (on i j)
        by_dropped u (failed e) i j = tt

        by_tests : (b d : Bool) (c : Counts) (u : Text) → Slice s.rest u →
            LiesFrom named t
            (if b then if_done (suffix (at s u) c)
            (λ m v. under s.flags c m (record { start = reach_of t; end = quantifier_end u m v }) x) x else x)
            (if b then mapped (λ m. quantified s.flags c m a) (suffix (at s u) c)
            else if d then mapped (λ m. a) (suffix (at s u) c) else failed (not_repeatable u))
        by_tests true d c u i = by_operators c u (suffix (at s u) c) i (suffix_rest (at s u) c)
        by_tests false true c u i = by_dropped u (suffix (at s u) c) i (suffix_rest (at s u) c)
        by_tests false false c u i = tt

        by_counts : (v : Text) (o : Option (Counts × Text)) → Slice s.rest v → TakesSome 1 v o →
            LiesFrom named t (choose o (counted (reach_of t) a s x) x) (with_counts left a (at s v) o)
        by_counts v None i j = kept i
        by_counts v (Some (c, u)) i j =
            by_tests (is_repeatable s.flags a) (is_dropped s.flags left a u) c u
            (on i (record { word = j.word; cut = j.cut }))

        by_layout : (j : Skipped) → SkippedSlice s.rest j →
            LiesFrom named t
            (choose (option_and_then (counts s.flags.ignore_space) (rest_of j)) (counted (reach_of t) a s x) x)
            (after_skipped j (λ v. with_counts left a (at s v) (counts s.flags.ignore_space v)) failed)
        by_layout (rest v) i = by_counts v (counts s.flags.ignore_space v) i (takes_counts s.flags.ignore_space v)
        by_layout (open_comment p) i = tt

    adjacent_lies : (k d : ℕ) (a : Tree) (s : State) (x : Spans) → Lies named t s.rest a x →
        LiesFrom named t (adjacent_spans k (reach_of t) a s x) (adjacent k d a s)
    unfolding adjacent
    adjacent_lies zero d a s x h = by_first (quant (bytes s.rest) a s) (quant_lies (bytes s.rest) a s x h)
      where
        y : Spans
        y = quant_spans (reach_of t) a s x

        by_first : (o : Outcome Tree) → LiesFrom named t y o → LiesFrom named t y
            (and_then o (λ b v. if is_unmoved s v then done b v else failed (quantifier_too_deep v.rest)))
        by_first (done b v) i = cond_both (is_unmoved s v) _ _ (LiesFrom named t y) (λ _. i) (λ _. tt)
        by_first (failed e) i = tt
    adjacent_lies (suc k) d a s x h =
        by_first (λ b v i. adjacent_lies k (d + 1) b v (quant_spans (reach_of t) a s x) i)
        (quant (bytes s.rest) a s) (quant_lies (bytes s.rest) a s x h)
      where
        y : Spans
        y = quant_spans (reach_of t) a s x

        by_tests : (c e : Bool) (b : Tree) (v : State) → Lies named t v.rest b y →
            LiesFrom named t (adjacent_spans k (reach_of t) b v y) (adjacent k (d + 1) b v) →
            LiesFrom named t (if c then y else adjacent_spans k (reach_of t) b v y)
            (if c then done b v else if e then adjacent k (d + 1) b v else failed (quantifier_too_deep v.rest))
        by_tests true e b v i j = i
        by_tests false true b v i j = j
        by_tests false false b v i j = tt

        by_first : ((b : Tree) (v : State) → Lies named t v.rest b y →
            LiesFrom named t (adjacent_spans k (reach_of t) b v y) (adjacent k (d + 1) b v)) →
            (o : Outcome Tree) → LiesFrom named t y o →
            LiesFrom named t
            (if_done o (λ b v. if is_unmoved s v then y else adjacent_spans k (reach_of t) b v y) y)
            (and_then o (λ b v. if is_unmoved s v then done b v
            else if nat_lt (d + 1) max_depth then adjacent k (d + 1) b v else failed (quantifier_too_deep v.rest)))
        by_first go_on (done b v) i = by_tests (is_unmoved s v) (nat_lt (d + 1) max_depth) b v i (go_on b v i)
        by_first go_on (failed e) i = tt

    pub quants_lie : (d left : ℕ) (a : Tree) (s : State) (x : Spans) → Lies named t s.rest a x →
        LiesFrom named t (quants_spans left (reach_of t) (done a s) x) (quants d left a s)
    quants_lie d left a s x h = by_first (quant left a s) (quant_lies left a s x h)
      where
        y : Spans
        y = quant_spans (reach_of t) a s x

        by_mode : (c : Bool) (b : Tree) (v : State) → Lies named t v.rest b y →
            LiesFrom named t (if c then adjacent_spans max_adjacent (reach_of t) b v y else y)
            (if c then adjacent max_adjacent d b v else done b v)
        by_mode true b v i = adjacent_lies max_adjacent d b v y i
        by_mode false b v i = i

        by_first : (o : Outcome Tree) → LiesFrom named t y o →
            LiesFrom named t (if_done o
            (λ b v. if v.flags.oniguruma_mode then adjacent_spans max_adjacent (reach_of t) b v y else y) y)
            (and_then o (λ b v. if v.flags.oniguruma_mode then adjacent max_adjacent d b v else done b v))
        by_first (done b v) i = by_mode v.flags.oniguruma_mode b v i
        by_first (failed e) i = tt
