-- A resolved tree under its quantifiers nests in its text no deeper than in the pattern.
use Rattle.std.proofs.Common.{◌≡◌, ℕ, zero, suc, ◌+◌, ◌<◌, ◌≤◌, Bool, true, false, not, ◌&&◌, ◌==◌, List, [], ◌∷◌}
use Rattle.std.proofs.Common.{Option, Some, None, IfSome, refl, sym, ap, ◌∙◌, subst, arith, nat_lt, ltb-true}
use Rattle.std.specs.Prelude.{option_map, option_and_then, unwrap_or}
use Rattle.std.proofs.lemmas.Bool.{cond_both, false≢true, and_parts}
use Rattle.std.proofs.lemmas.Bool.Decides.{nat_tests}
use Prim.Native.Char.{code}
use Rattle.fancy_lex.specs.Text.{Text, bytes, strip}
use Rattle.fancy_lex.proofs.ReadingLemmas.{choose_both}
use Rattle.fancy_lex.specs.Quantifier.{counts, braced_counts, counts_from, in_braces, spaced_count, exact_or_range}
use Rattle.fancy_lex.specs.Quantifier.{most}
use Rattle.fancy_lex.specs.declared.counts.Counts.{Counts}
use Rattle.fancy_lex.proofs.CountLaws.{Closed, closes_counts}
use Rattle.fancy_grammar.specs.Depth.{max_depth}
use Rattle.fancy_grammar.specs.Label as label
use Rattle.fancy_grammar.specs.Quantified.{is_repeatable, quant, with_counts, suffix, after_lazy}
use Rattle.fancy_grammar.specs.Quantified.{is_greedy, may_be_possessive, Suffix, quantified, is_swapped, is_dropped}
use Rattle.fancy_grammar.specs.Quantified.{quants, adjacent, max_adjacent, is_unmoved}
use Rattle.fancy_grammar.specs.Resolved.{resolved_in}
use Rattle.fancy_grammar.specs.Slices.{Slice}
use Rattle.fancy_grammar.specs.State.{skipped, State, at, Outcome, done, failed}
use Rattle.fancy_grammar.specs.Tree.{Tree, over, atomic_repeat}
use Rattle.fancy_grammar.specs.declared.precedence.Precedence.{Precedence}
use Rattle.fancy_grammar.specs.declared.precedence.Precedence.TheVariants.{Operand}
use Rattle.fancy_grammar.proofs.OutcomeLemmas.{Holds, then_holds, skipped_both}
use Rattle.fancy_grammar.proofs.ReadLaws.{suffix_reads}
use Rattle.fancy_grammar.proofs.Slices.{Reads, fits, one_bytes, cut_slice, skipped_slice}
use Rattle.fancy_pattern.proofs.PatternLaws.Fitting.{FitAlone}
use Rattle.fancy_pattern.proofs.PatternLaws.Nested.{Repeats, repeats, low, Fitted, Part, fewer}
use Rattle.fancy_pattern.proofs.PatternLaws.Outermost.{MayFollow, FitOperands, repeat_operands, repeat_fit, repeat_alone}
use Rattle.fancy_pattern.proofs.PatternLaws.Outermost.{CanBePossessive, as_possessive}

-- ---- the counts of an operator are in order

-- those in braces may not be
abbrev IfOperator : Option (Counts × Text) → Type 0
IfOperator o = IfSome o (λ p. (p.0).braces ≡ false → nat_lt (p.0).low (p.0).high ≡ true)

braces_from : (x : Bool) (low : ℕ) (t : Text) → IfOperator (counts_from x low t)
unfolding counts_from
braces_from x low t = by_count (spaced_count x t)
  where
    closed : (high : Option ℕ) (o : Option Text) →
        IfOperator (option_map (λ v. (in_braces low (unwrap_or high most), v)) o)
    closed high None = tt
    closed high (Some v) = λ e. absurd (false≢true (sym e))

    by_count : (o : Option (Option ℕ × Text)) →
        IfOperator (option_and_then (λ p. option_map (λ v. (in_braces low (unwrap_or p.0 most), v))
        (strip (code "}") p.1)) o)
    by_count None = tt
    by_count (Some p) = closed p.0 (strip (code "}") p.1)

braces_both : (x : Bool) (t : Text) → IfOperator (braced_counts x t)
unfolding braced_counts
braces_both x t = by_count (spaced_count x t)
  where
    exact : (low : Option ℕ) (v : Text) → IfOperator (option_map (λ n. (in_braces n n, v)) low)
    exact None v = tt
    exact (Some n) v = λ e. absurd (false≢true (sym e))

    after : (low : Option ℕ) (o : Option Text) → IfOperator (option_and_then (counts_from x (unwrap_or low 0)) o)
    after low None = tt
    after low (Some v) = braces_from x (unwrap_or low 0) v

    closed : (low : Option ℕ) (u : Text) (o : Option Text) → IfOperator (exact_or_range x low u o)
    closed low u (Some v) = exact low v
    closed low u None = after low (strip (code ",") u)

    by_count : (o : Option (Option ℕ × Text)) →
        IfOperator (option_and_then (λ p. exact_or_range x p.0 p.1 (strip (code "}") p.1)) o)
    by_count None = tt
    by_count (Some p) = closed p.0 p.1 (strip (code "}") p.1)

operators_in_order : (x : Bool) (t : Text) → IfOperator (counts x t)
unfolding counts
operators_in_order x [] = tt
operators_in_order x (c ∷ t) =
    cond_both (c == code "?") _ _ IfOperator (λ _ _. refl) (λ _.
    cond_both (c == code "*") _ _ IfOperator (λ _ _. refl) (λ _.
    cond_both (c == code "+") _ _ IfOperator (λ _ _. refl) (λ _.
    cond_both (c == code "{") _ _ IfOperator (λ _. braces_both x t) (λ _. tt))))

-- what may be possessive can be written as a possessive quantifier
can_be_possessive : (in_mode : Bool) (c : Counts) → (c.braces ≡ false → nat_lt c.low c.high ≡ true) →
    not (in_mode && c.braces) ≡ true → CanBePossessive in_mode c.low c.high
can_be_possessive false c h e = refl
can_be_possessive true c h e = h (by (c.braces) e)
  where
    by : (b : Bool) → not b ≡ true → b ≡ false
    by true k = absurd (false≢true k)
    by false k = refl

-- so can exchanged counts
swapped_possessive : (in_mode : Bool) (lo hi : ℕ) → nat_lt lo hi ≡ true → CanBePossessive in_mode lo hi
swapped_possessive true lo hi e = e
swapped_possessive false lo hi e = refl

-- ---- the operators after the counts

record SuffixRead (w : State) (c : Counts) (m : Suffix) (v : State) : Type 0 where
  pub stays : v.flags ≡ w.flags
  pub possessive : m.possessive ≡ true → may_be_possessive w.flags c ≡ true

suffix_read : (w : State) (c : Counts) → Holds (SuffixRead w c) (suffix w c)
suffix_read w c =
    skipped_both W (skipped w) _ _ (λ t e.
    choose_both W (strip (code "?") t) _ _ (λ u e. after_operator true u) (after_operator false t)) (λ p e. tt)
  where
    W : Outcome Suffix → Type 0
    W = Holds (SuffixRead w c)

    plain : (lazy : Bool) (t : Text) → SuffixRead w c (record { lazy = lazy; possessive = false }) (at w t)
    plain lazy t = record { stays = refl; possessive = λ e. absurd (false≢true e) }

    after_operator : (lazy : Bool) (t : Text) → W (after_lazy w c lazy t)
    after_operator lazy t =
        cond_both (may_be_possessive w.flags c) _ _ W
        (λ may. choose_both W (strip (code "+") t) _ _ (λ u e. record { stays = refl; possessive = λ _. may })
        (plain lazy t)) (λ _. plain lazy t)

-- reading them does not make the rest longer
record SuffixTaken (w : State) (c : Counts) (m : Suffix) (v : State) : Type 0 where
  pub is_read : SuffixRead w c m v
  pub fewer : bytes v.rest ≤ bytes w.rest

suffix_taken : (w : State) (c : Counts) → Holds (SuffixTaken w c) (suffix w c)
suffix_taken w c = both (suffix w c) (suffix_read w c) (suffix_reads w c)
  where
    both : (q : Outcome Suffix) → Holds (SuffixRead w c) q → Reads (λ (m : Suffix) v. Slice w.rest v.rest) w q →
        Holds (SuffixTaken w c) q
    both (done m v) h k = record { is_read = h; fewer = fits k }
    both (failed e) h x = tt

moved : (s t : State) → bytes t.rest < bytes s.rest → is_unmoved s t ≡ true → ⊥
moved s t l e = let same : bytes t.rest ≡ bytes s.rest = grind (arith, nat_tests) in omega (arith, l, same)

module _ (in_mode : Bool) (z : ℕ) (named : Bool) (numbers_of : Text → List ℕ) where
  abbrev R : ℕ → Tree → Tree
  R = resolved_in z named numbers_of

  -- ---- a tree under this many quantifiers, which is read from s up to t, with d groups open

  record Quantified (j d : ℕ) (s : State) (r : Tree) (t : State) : Type 0 where
    pub part : Part in_mode R 2 d s r t
    pub operands : Repeats in_mode r → (c : ℕ) → FitOperands in_mode d j (R c r)

  unquantified : (d : ℕ) (s : State) (r : Tree) (t : State) → Part in_mode R 3 d s r t → Quantified 0 d s r t
  unquantified d s r t h = record {
    part = record {
      fitted = fewer in_mode R 2 3 d r (omega arith) h.fitted;
      branches = h.branches;
      suits = h.suits;
      stays = h.stays;
      mode = h.mode;
    };
    operands = λ e c n l. h.fitted.fits c (Operand n) (omega arith, e);
  }

  -- the same up to another state, and for more quantifiers
  elsewhere : (i j d : ℕ) (s : State) (r : Tree) (t w : State) → i ≤ j → w.flags ≡ t.flags → Quantified i d s r t →
      Quantified j d s r w
  elsewhere i j d s r t w l same h = record {
    part = record {
      fitted = h.part.fitted;
      branches = h.part.branches;
      suits = h.part.suits;
      stays = λ x. same ∙ h.part.stays x;
      mode = ap (λ f. f.oniguruma_mode) same ∙ h.part.mode;
    };
    operands = λ e c n k. h.operands e c n (omega (arith, l, k));
  }

  -- under one more quantifier, whose counts can be written as possessive if it is
  module _ (j d : ℕ) (a : Tree) (lo hi : ℕ) (greedy : Bool) (h : (c : ℕ) → FitOperands in_mode d j (R c a))
      (x : (c : ℕ) (p : Precedence) → FitAlone in_mode d p (R c a)) (k : MayFollow in_mode d (suc j)) where
    repeat_fitted : Fitted in_mode R 2 d (over (label.repeat lo hi greedy) a)
    repeat_fitted = record {
      fits =
          λ c p u. repeat_fit in_mode (R c a) lo hi greedy d j (h c) k p
          (low in_mode 2 (over (label.repeat lo hi greedy) a) p (omega arith) u);
      alone = λ c p. repeat_alone in_mode (R c a) lo hi greedy d j (h c) k (x c) p;
      hollow = λ c y n. absurd (false≢true y);
    }

    possessive_fitted : CanBePossessive in_mode lo hi →
        Fitted in_mode R 2 d (atomic_repeat a lo hi greedy)
    possessive_fitted e = record {
      fits =
          λ c p u i o l r. as_possessive in_mode (R c a) lo hi greedy e p i o
          (repeat_fit in_mode (R c a) lo hi greedy d j (h c) k p
          (low in_mode 2 (atomic_repeat a lo hi greedy) p (omega arith) u) i o l r);
      alone =
          λ c p i o l b r. as_possessive in_mode (R c a) lo hi greedy e p i o
          (repeat_alone in_mode (R c a) lo hi greedy d j (h c) k (x c) p i o l b r);
      hollow = λ c y n. absurd (false≢true y);
    }

    possessive_operands : CanBePossessive in_mode lo hi → (c : ℕ) →
        FitOperands in_mode d (suc j) (atomic_repeat (R c a) lo hi greedy)
    possessive_operands e c n l i o m r =
        as_possessive in_mode (R c a) lo hi greedy e (Operand n) i o
        (repeat_operands in_mode (R c a) lo hi greedy d j (h c) n l i o m r)

  module _ (j d : ℕ) (s : State) (a : Tree) (t : State) (h : Quantified j d s a t) (k : MayFollow in_mode d (suc j))
      (e : Repeats in_mode a) (w : State) (same : w.flags ≡ t.flags) where
    plain_over : (lo hi : ℕ) (greedy : Bool) → Quantified (suc j) d s (over (label.repeat lo hi greedy) a) w
    plain_over lo hi greedy =
        let x = repeat_fitted j d a lo hi greedy (h.operands e) h.part.fitted.alone k in record {
          part = record {
            fitted = x;
            branches = fewer in_mode R 1 2 d _ (omega arith) x;
            suits = h.part.suits;
            stays = λ y. same ∙ h.part.stays y;
            mode = ap (λ f. f.oniguruma_mode) same ∙ h.part.mode;
          };
          operands = λ _ c. repeat_operands in_mode (R c a) lo hi greedy d j (h.operands e c);
        }

    possessive_over : (lo hi : ℕ) (greedy : Bool) → CanBePossessive in_mode lo hi →
        Quantified (suc j) d s (atomic_repeat a lo hi greedy) w
    possessive_over lo hi greedy y =
        let x = possessive_fitted j d a lo hi greedy (h.operands e) h.part.fitted.alone k y in record {
          part = record {
            fitted = x;
            branches = fewer in_mode R 1 2 d _ (omega arith) x;
            suits = h.part.suits;
            stays = λ y. same ∙ h.part.stays y;
            mode = ap (λ f. f.oniguruma_mode) same ∙ h.part.mode;
          };
          operands = λ _ c. possessive_operands j d a lo hi greedy (h.operands e) h.part.fitted.alone k y c;
        }

    quantified_over : (c : Counts) (m : Suffix) → (c.braces ≡ false → nat_lt c.low c.high ≡ true) →
        (m.possessive ≡ true → may_be_possessive t.flags c ≡ true) →
        Quantified (suc j) d s (quantified t.flags c m a) w
    quantified_over c m order may =
        let P = λ (r : Tree). Quantified (suc j) d s r w in
        cond_both (is_swapped t.flags c) _ _ P
        (λ x. possessive_over c.high c.low (is_greedy t.flags m.lazy)
        (swapped_possessive in_mode c.high c.low (and_parts _ _ x).1)) (λ _.
        cond_both m.possessive _ _ P
        (λ x. possessive_over c.low c.high (is_greedy t.flags m.lazy)
        (can_be_possessive in_mode c order (subst (λ b. not (b && c.braces) ≡ true) h.part.mode (may x))))
        (λ _. plain_over c.low c.high (is_greedy t.flags m.lazy)))

  -- ---- one quantifier, or none

  -- after it, if one more quantifier is allowed; if no byte is read, there is no quantifier
  record QuantRead (j d : ℕ) (s : State) (t : State) (r : Tree) (w : State) : Type 0 where
    pub taken : MayFollow in_mode d (suc j) → Quantified (suc j) d s r w
    pub unmoved : is_unmoved t w ≡ true → Quantified j d s r w

  quant_part : (j d left : ℕ) (s : State) (a : Tree) (t : State) → Quantified j d s a t →
      Holds (QuantRead j d s t) (quant left a t)
  unfolding quant
  quant_part j d left s a t h =
      skipped_both P (skipped t) _ _ (λ v e.
      by_counts v (counts t.flags.ignore_space v) (skipped_slice t v e) (closes_counts t.flags.ignore_space v)
      (operators_in_order t.flags.ignore_space v)) (λ p e. tt)
    where
      P : Outcome Tree → Type 0
      P = Holds (QuantRead j d s t)

      by_counts : (v : Text) (o : Option (Counts × Text)) → Slice t.rest v → IfSome o (λ p. Closed v p.1) → IfOperator o →
          P (with_counts left a (at t v) o)
      by_counts v None l i m = record {
        taken = λ _. elsewhere j (suc j) d s a t (at t v) (omega arith) refl h;
        unmoved = λ _. elsewhere j j d s a t (at t v) (omega arith) refl h;
      }
      by_counts v (Some (c, u)) l i order =
          let ends = fits (cut_slice i.ends) in
          let long : bytes u < bytes t.rest = omega (arith, fits l, ends, one_bytes i.last_char u) in
          cond_both (is_repeatable t.flags a) _ _ P
          (λ e. then_holds (SuffixTaken (at t u) c) (QuantRead j d s t) (suffix (at t u) c) _ (suffix_taken (at t u) c)
          (λ m w k. record {
            taken =
                λ may. quantified_over j d s a t h may (repeats in_mode a t.flags h.part.mode e) w k.is_read.stays c m
                order k.is_read.possessive;
            unmoved = λ x. absurd (moved t w (omega (arith, long, k.fewer)) x);
          })) (λ _.
          cond_both (is_dropped t.flags left a u) _ _ P
          (λ e. then_holds (SuffixTaken (at t u) c) (QuantRead j d s t) (suffix (at t u) c) _ (suffix_taken (at t u) c)
          (λ m w k. record {
            taken = λ _. elsewhere j (suc j) d s a t w (omega arith) k.is_read.stays h;
            unmoved = λ _. elsewhere j j d s a t w (omega arith) k.is_read.stays h;
          })) (λ _. tt))

  -- ---- the quantifiers adjacent to it

  -- in Oniguruma mode: k more may follow, n levels count so far, and j quantifiers were read
  adjacent_part : in_mode ≡ true → (k n j d : ℕ) (s : State) (a : Tree) (t : State) → j + k ≤ max_adjacent + 1 →
      j + d ≤ n + 1 → Quantified j d s a t → Holds (Part in_mode R 2 d s) (adjacent k n a t)
  unfolding adjacent
  adjacent_part on zero n j d s a t l m h =
      then_holds (QuantRead j d s t) (Part in_mode R 2 d s) (quant (bytes t.rest) a t) _
      (quant_part j d (bytes t.rest) s a t h)
      (λ b w q. cond_both (is_unmoved t w) _ _ (Holds (Part in_mode R 2 d s)) (λ e. (q.unmoved e).part) (λ _. tt))
  adjacent_part on (suc k) n j d s a t l m h =
      then_holds (QuantRead j d s t) (Part in_mode R 2 d s) (quant (bytes t.rest) a t) _
      (quant_part j d (bytes t.rest) s a t h)
      (λ b w q. cond_both (is_unmoved t w) _ _ (Holds (Part in_mode R 2 d s)) (λ e. (q.unmoved e).part) (λ _.
      cond_both (nat_lt (n + 1) max_depth) _ _ (Holds (Part in_mode R 2 d s))
      (λ e. let fewer_open : n + 1 < max_depth = ltb-true _ _ e in
      adjacent_part on k (n + 1) (suc j) d s b w (omega (arith, l)) (omega (arith, m))
      (q.taken (subst (λ b. MayFollow b d (suc j)) (sym on) (omega (arith, l), omega (arith, m, fewer_open)))))
      (λ _. tt)))

  first_follows : (b : Bool) (d : ℕ) → d < max_depth → MayFollow b d 1
  first_follows true d l = (omega arith, omega (arith, l))
  first_follows false d l = omega arith

  pub quants_part : (d left : ℕ) → d < max_depth → (s : State) (a : Tree) (t : State) → Part in_mode R 3 d s a t →
      Holds (Part in_mode R 2 d s) (quants d left a t)
  quants_part d left l s a t h =
      then_holds (QuantRead 0 d s t) (Part in_mode R 2 d s) (quant left a t) _
      (quant_part 0 d left s a t (unquantified d s a t h))
      (λ b w q. let once = q.taken (first_follows in_mode d l) in
      cond_both w.flags.oniguruma_mode _ _ (Holds (Part in_mode R 2 d s))
      (λ e. adjacent_part (sym once.part.mode ∙ e) max_adjacent d 1 d s b w (omega arith) (omega arith) once)
      (λ _. once.part))
