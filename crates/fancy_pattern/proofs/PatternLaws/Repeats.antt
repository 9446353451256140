-- Quantifiers: a Repeat, and a possessive one, reads back if the tree below it does.
use Rattle.std.proofs.Common.{◌≡◌, ℕ, zero, ◌+◌, ◌^◌, ◌<◌, Bool, true, false, not}
use Rattle.std.proofs.Common.{◌∷◌, ◌++◌, codes, refl, sym, ap, ◌∙◌, subst, append_assoc}
use Rattle.std.proofs.Common.{if◌then◌else◌}
use Rattle.std.proofs.Common.{suc, arith}
use Rattle.std.proofs.lemmas.Bool.{false≢true, true≢false}
use Prim.Native.Char.{code}
use Rattle.fancy_lex.specs.Text.{Text}
use Rattle.fancy_lex.specs.declared.flags.Flags.{Flags}
use Rattle.fancy_grammar.specs.AtomStart.{of_kind, atom_start}
use Rattle.fancy_grammar.specs.Depth.{max_depth}
use Rattle.fancy_grammar.specs.GroupKind.{flag_group}
use Rattle.fancy_grammar.specs.Label as label
use Rattle.fancy_grammar.specs.GroupInfo.{GroupInfo}
use Rattle.fancy_grammar.specs.Pattern.{Context, under, deeper, in_parens}
use Rattle.fancy_grammar.specs.Pattern.{written}
use Rattle.fancy_grammar.specs.Pattern.{repeated, allowed}
use Rattle.fancy_grammar.specs.PatternNeeds.{settled, inline_flags}
use Rattle.fancy_grammar.specs.PatternQuantifier.{quantifier_text, is_possessive}
use Rattle.fancy_grammar.specs.Tree.{Tree, over, atomic_repeat}
use Rattle.fancy_grammar.specs.declared.precedence.Precedence.{Precedence}
use Rattle.fancy_grammar.specs.declared.precedence.Precedence.TheVariants.{Whole, Branch, Piece, Operand}
use Rattle.fancy_grammar.proofs.PatternDepth.{Fits, FitsInParensIf, MaySet, MayOpen}
use Rattle.fancy_pattern.proofs.PatternLaws.Groups.{parens_text, question_at, flag_group_at, reads_flag_group, reads_atomic}
use Rattle.fancy_pattern.proofs.PatternLaws.Induction.{LeadsTo, BeginsIn, AtomIn, one_branch}
use Rattle.fancy_pattern.proofs.PatternLaws.Induction.{set_begins, by_piece, atom_leads, refit}
use Rattle.fancy_pattern.proofs.PatternLaws.Needed.{like_repeatable, settled_again, no_inline_flags, no_letters}
use Rattle.fancy_pattern.proofs.PatternLaws.Quantifiers.{quantified_tree, solid_quantified, AreOrdered, Apart, NoName}
use Rattle.fancy_pattern.proofs.PatternLaws.Quantifiers.{clear_apart, quantifier_at, adjacent_apart}
use Rattle.fancy_pattern.proofs.PatternLaws.Stacked.{ReadsAll, ReadsOperand, ReadsOperands, OperandAt, ends_quantified}
use Rattle.fancy_pattern.proofs.PatternLaws.Stacked.{MayBeUnder, under_repeatable, ends_after, operand_atom, operand_under}
use Rattle.fancy_pattern.proofs.PatternLaws.Stacked.{lead_operand, as_operand}
use Rattle.fancy_pattern.proofs.PatternLaws.Rules.{Begins, Ends, begins_by, ends_close, AtomAt, WholeAt}
use Rattle.fancy_pattern.proofs.PatternLaws.Rules.{reads_only, Follows}
use Rattle.fancy_grammar.proofs.ReadBack.RuleLemmas.{st}
use Rattle.fancy_pattern.proofs.PatternLaws.Cases.{ReadsTree}

module _ (μ : GroupInfo) where
  -- ---- quantifiers

  plain_group_at : (d : ℕ) (f : Flags) (u : Text) → d + 1 < max_depth →
      atom_start d (st f (codes "(?:" ++ u)) ≡ of_kind flag_group (st f u)
  plain_group_at d f u l =
      subst (λ w. atom_start d (st f (codes "(?" ++ (w ++ code ":" ∷ u))) ≡ of_kind flag_group (st f u)) (no_letters f)
      (flag_group_at d f f.casei f.multi f.dotnl f.crlf u l)

  module _ (t : Tree) (lo hi : ℕ) (greedy : Bool) (low : lo < 2 ^ 64) (high : hi < 2 ^ 64) where
    -- a tree and its quantifier, if no flag has to be set
    module _ (possessive : Bool) (i : Context) (ordered : AreOrdered i.flags lo hi)
        (possible : possessive ≡ true → is_possessive i.flags lo hi ≡ true) (rep : MayBeUnder μ i.flags t)
        (none : settled i.flags t ≡ i.flags) where
      abbrev quantifier_text_at : ℕ → Text
      quantifier_text_at r = quantifier_text i.flags possessive (ends_quantified i.flags r t) lo hi greedy

      -- the text, if this many quantifiers may come before its own
      abbrev text_at : ℕ → Text
      text_at r = written μ t (Operand r) i ++ quantifier_text_at r

      abbrev ReadsUnder : ℕ → Type 0
      ReadsUnder r = ReadsOperand μ t i r (written μ t (Operand r) i)

      under_begins : (r : ℕ) → ReadsUnder r → BeginsIn i (text_at r)
      under_begins r a v =
          subst (Begins i.flags.ignore_space) (sym (append_assoc (written μ t (Operand r) i) (quantifier_text_at r) v))
          (a.begins rep (quantifier_text_at r ++ v))

      under_reads : (r : ℕ) → ReadsUnder r → (v : Text) → Apart i.flags.ignore_space v →
          OperandAt μ i (suc r) (text_at r ++ v) v (quantified_tree possessive t lo hi greedy)
      under_reads r a v k =
          let x = quantified_tree possessive t lo hi greedy in
          let s = written μ t (Operand r) i in
          let q = quantifier_text_at r ++ v in
          let m = quantifier_at i.flags possessive (ends_quantified i.flags r t) lo hi greedy v low high k ordered
          possible in
          subst (λ z. OperandAt μ i (suc r) z v x) (sym (append_assoc s (quantifier_text_at r) v))
          (operand_under μ i r (s ++ q) q v t possessive lo hi greedy m
          (a.reads rep none q m.no_name (λ _. m.no_digit)
          (λ e. subst (λ b. Apart i.flags.ignore_space (quantifier_text i.flags possessive b lo hi greedy ++ v)) (sym e)
          (adjacent_apart i.flags possessive lo hi greedy v))))

      under_leads : ReadsUnder (allowed Whole i) →
          LeadsTo μ (quantified_tree possessive t lo hi greedy) i (text_at (allowed Whole i))
      under_leads a v w k ys c y q =
          let r = allowed Whole i in
          lead_operand μ i (suc r) (text_at r ++ v) v w k (quantified_tree possessive t lo hi greedy) ys (omega arith)
          (under_begins r a v) c (solid_quantified possessive t lo hi greedy)
          (under_reads r a v (clear_apart i.flags.ignore_space v c)) q

    -- a Repeat is the whole contents of a group
    repeat_whole : (i : Context) → AreOrdered i.flags lo hi → MayBeUnder μ i.flags t →
        settled i.flags t ≡ i.flags → ReadsOperand μ t i (allowed Whole i) (written μ t (Operand (allowed Whole i)) i) →
        (v : Text) → Ends i.flags.ignore_space v →
        WholeAt μ i (repeated false t lo hi greedy (written μ t) Whole i ++ v) i.flags v
        (over (label.repeat lo hi greedy) t)
    repeat_whole i ordered rep none a v e =
        let x = over (label.repeat lo hi greedy) t in
        reads_only μ i _ v i.flags x
        (one_branch μ x i refl (repeated false t lo hi greedy (written μ t) Whole i) i.flags
        (under_leads false i ordered (λ e. absurd (false≢true e)) rep none a) v e.stops refl) e.no_bar

    module _ (h : Context) (ordered : AreOrdered h.flags lo hi) (rep : MayBeUnder μ h.flags t)
        (a : ReadsOperands μ t (under (settled h.flags t) h))
        (a1 : ReadsOperands μ t (deeper (under (settled h.flags t) h))) where
      abbrev context : Context
      context = under (settled h.flags t) h

      repeatable_in_context : MayBeUnder μ context.flags t
      repeatable_in_context n = like_repeatable t context.flags h.flags refl ∙ rep n

      again : settled context.flags t ≡ context.flags
      again = settled_again h.flags t

      -- in parentheses, after the opening of a group
      abbrev in_opening : Text → Text
      in_opening opening = in_parens opening (repeated false t lo hi greedy (written μ t) Whole) context

      abbrev inside : Text → Text
      inside v = repeated false t lo hi greedy (written μ t) Whole (deeper context) ++ code ")" ∷ v

      abbrev FitsInside : Type 0
      FitsInside = MayOpen context × Fits t (Operand (allowed Whole (deeper context))) (deeper context)

      inside_whole : FitsInside → (v : Text) →
          WholeAt μ (deeper context) (inside v) context.flags (code ")" ∷ v) (over (label.repeat lo hi greedy) t)
      inside_whole d v =
          repeat_whole (deeper context) ordered repeatable_in_context again (a1 (allowed Whole (deeper context)) d.1)
          (code ")" ∷ v)
          (ends_close h.flags.ignore_space v)

      -- its text as an operand, if no flag has to be set
      operand : (x : Tree) (s : Text) → settled h.flags x ≡ settled h.flags t → AtomIn μ x context s →
          settled h.flags x ≡ h.flags → AtomIn μ x h (inline_flags h.flags (settled h.flags t) ++ s)
      operand x s same a u v k y =
          let e = sym same ∙ u in
          subst (λ w. AtomAt μ h w v x)
          (sym (ap (λ f. (inline_flags h.flags f ++ s) ++ v) e ∙ ap (λ w. (w ++ s) ++ v) (no_inline_flags h.flags)))
          (subst (λ f. AtomAt μ (under f h) (s ++ v) v x) e (a v k y))

      -- the same for an atom under quantifiers
      stacked_operand : (r : ℕ) (x : Tree) (s v : Text) → settled h.flags x ≡ settled h.flags t →
          settled h.flags x ≡ h.flags → OperandAt μ context r (s ++ v) v x →
          OperandAt μ h r ((inline_flags h.flags (settled h.flags t) ++ s) ++ v) v x
      stacked_operand r x s v same u a =
          let e = sym same ∙ u in
          subst (λ w. OperandAt μ h r w v x)
          (sym (ap (λ f. (inline_flags h.flags f ++ s) ++ v) e ∙ ap (λ w. (w ++ s) ++ v) (no_inline_flags h.flags)))
          (subst (λ f. OperandAt μ (under f h) r (s ++ v) v x) e a)

      abbrev no_possessive : false ≡ true → is_possessive context.flags lo hi ≡ true
      no_possessive = λ e. absurd (false≢true e)

      repeat_tree : ReadsTree μ (over (label.repeat lo hi greedy) t) h
      repeat_tree =
          let x = over (label.repeat lo hi greedy) t in
          let same = parens_text (codes "?:") (repeated false t lo hi greedy (written μ t) Whole) context in
          by_piece μ x h refl (Fits x Whole h) (Fits x (Operand zero) h)
          (repeated false t lo hi greedy (written μ t) Whole context)
          (inline_flags h.flags (settled h.flags t) ++ in_opening (codes "?:")) (λ d. d.0)
          (λ d. under_begins false context ordered no_possessive repeatable_in_context again (allowed Whole context)
          (a _ d.1))
          (λ d. under_leads false context ordered no_possessive repeatable_in_context again (a _ d.1))
          refl
          (λ _ _. set_begins μ x h refl (in_opening (codes "?:"))
          (λ v. subst (Begins h.flags.ignore_space) (sym (same v))
          (begins_by h.flags.ignore_space (code "(") _ refl refl refl refl)))
          (λ d _. operand x (in_opening (codes "?:")) refl
          (λ v k _. subst (λ w. AtomAt μ context w v x) (sym (same v))
          (reads_flag_group μ context context.flags context.flags _ (inside v) v x
          (plain_group_at h.depth context.flags (inside v) d.1.0) (inside_whole d.1 v))))
          (λ _ e. absurd (true≢false e))

      repeat_operands : ReadsOperands μ (over (label.repeat lo hi greedy) t) h
      repeat_operands zero d = as_operand μ (over (label.repeat lo hi greedy) t) h zero repeat_tree d
      repeat_operands (suc k) d =
          let x = over (label.repeat lo hi greedy) t in
          let s = repeated false t lo hi greedy (written μ t) (Operand (suc k)) context in
          let text = inline_flags h.flags (settled h.flags t) ++ s in
          record {
            begins =
                λ _. set_begins μ x h refl s
                (under_begins false context ordered no_possessive repeatable_in_context again k (a k d.1));
            reads =
                λ _ none v m y p. under_repeatable μ h (suc k) (text ++ v) v x refl
                (stacked_operand (suc k) x s v refl none
                (under_reads false context ordered no_possessive repeatable_in_context again k (a k d.1) v
                (p (ends_after h.flags k x refl))));
          }

      pub repeat_reads : ReadsAll μ (over (label.repeat lo hi greedy) t) h
      repeat_reads = record { tree = repeat_tree; operands = repeat_operands }

      -- ---- a possessive quantifier, or an atomic group of a Repeat that no quantifier can be written for

      abbrev atomic : Tree
      atomic = atomic_repeat t lo hi greedy

      -- the text, if this many quantifiers may come before its own
      abbrev one_text : Bool → ℕ → Text
      one_text b r =
          if not b then in_opening (codes "?>")
          else written μ t (Operand r) context
          ++ quantifier_text context.flags true (ends_quantified context.flags r t) lo hi greedy

      abbrev OneFits : Bool → ℕ → Type 0
      OneFits true r = Fits t (Operand r) context
      OneFits false r = FitsInside

      one_fits : (b : Bool) (p : Precedence) →
          FitsInParensIf (not b) (λ q j. Fits t (Operand (allowed q j)) j) p context → OneFits b (allowed p context)
      one_fits true p d = d
      one_fits false p d = d

      in_atomic_text : (v : Text) → in_opening (codes "?>") ++ v ≡ codes "(?>" ++ inside v
      in_atomic_text = parens_text (codes "?>") (repeated false t lo hi greedy (written μ t) Whole) context

      in_atomic_begins : BeginsIn context (in_opening (codes "?>"))
      in_atomic_begins v =
          subst (Begins h.flags.ignore_space) (sym (in_atomic_text v))
          (begins_by h.flags.ignore_space (code "(") _ refl refl refl refl)

      in_atomic : FitsInside → AtomIn μ atomic context (in_opening (codes "?>"))
      in_atomic d v k _ =
          subst (λ w. AtomAt μ context w v atomic) (sym (in_atomic_text v))
          (reads_atomic μ context context.flags _ (inside v) v (over (label.repeat lo hi greedy) t)
          (question_at h.depth context.flags (codes ">" ++ inside v) d.0) (inside_whole d v))

      module _ (r : ℕ) where
        one_begins : (b : Bool) → is_possessive context.flags lo hi ≡ b → OneFits b r → BeginsIn context (one_text b r)
        one_begins true e d = under_begins true context ordered (λ _. e) repeatable_in_context again r (a r d)
        one_begins false e d = in_atomic_begins

        one_reads : (b : Bool) → is_possessive context.flags lo hi ≡ b → OneFits b r → (v : Text) →
            NoName context.flags.ignore_space v → Follows μ atomic v → (b ≡ true → Apart context.flags.ignore_space v) →
            OperandAt μ context (suc r) (one_text b r ++ v) v atomic
        one_reads true e d v m y p = under_reads true context ordered (λ _. e) repeatable_in_context again r (a r d) v
            (p refl)
        one_reads false e d v m y p =
            operand_atom μ context (suc r) (in_opening (codes "?>") ++ v) v atomic (in_atomic d v m y)

      one_leads : (b : Bool) → is_possessive context.flags lo hi ≡ b → OneFits b (allowed Whole context) →
          LeadsTo μ atomic context (one_text b (allowed Whole context))
      one_leads true e d = under_leads true context ordered (λ _. e) repeatable_in_context again (a _ d)
      one_leads false e d =
          atom_leads μ atomic context refl (in_opening (codes "?>")) in_atomic_begins (in_atomic d)

      possessive_tree : ReadsTree μ atomic h
      possessive_tree =
          let b = is_possessive context.flags lo hi in
          let fits = MaySet context.flags h × OneFits b (allowed Whole context) in
          refit (λ (k : Fits atomic Whole h). (k.0, one_fits b Whole k.1))
          (λ (k : Fits atomic Branch h). (k.0, one_fits b Branch k.1))
          (λ (k : Fits atomic Piece h). (k.0, one_fits b Piece k.1))
          (by_piece μ atomic h refl fits (Fits atomic (Operand zero) h) (one_text b (allowed Whole context))
          (inline_flags h.flags (settled h.flags t) ++ in_opening (codes "?>")) (λ d. d.0)
          (λ d. one_begins (allowed Whole context) b refl d.1)
          (λ d. one_leads b refl d.1)
          refl
          (λ _ _. set_begins μ atomic h refl (in_opening (codes "?>")) in_atomic_begins)
          (λ d _. operand atomic (in_opening (codes "?>")) refl (in_atomic d.1))
          (λ _ e. absurd (true≢false e)))

      possessive_operands : ReadsOperands μ atomic h
      possessive_operands zero d = as_operand μ atomic h zero possessive_tree d
      possessive_operands (suc k) d =
          let b = is_possessive context.flags lo hi in
          let fits = one_fits b (Operand (suc k)) d.1 in
          let s = one_text b k in
          let text = inline_flags h.flags (settled h.flags t) ++ s in
          record {
            begins = λ _. set_begins μ atomic h refl s (one_begins k b refl fits);
            reads =
                λ _ none v m y p. under_repeatable μ h (suc k) (text ++ v) v atomic refl
                (stacked_operand (suc k) atomic s v refl none
                (one_reads k b refl fits v m y (λ e. p (ends_after h.flags k atomic e))));
          }

      pub possessive_reads : ReadsAll μ atomic h
      possessive_reads = record { tree = possessive_tree; operands = possessive_operands }
