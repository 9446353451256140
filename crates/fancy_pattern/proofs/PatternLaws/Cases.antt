-- Each kind of tree reads back if the trees below it do.
use Rattle.std.proofs.lemmas.Bool.{true≢false, cond-true}
use Rattle.fancy_pattern.proofs.PatternLaws.Groups.{BareAt}
use Rattle.fancy_pattern.proofs.PatternLaws.Induction.{bare_by}
use Rattle.fancy_pattern.proofs.PatternLaws.Rules.{WholeAt}
use Rattle.std.proofs.Common.{true}
use Rattle.std.proofs.Common.{◌≡◌, zero, ◌+◌, Bool, false, not, ℕ}
use Rattle.std.proofs.Common.{[], ◌∷◌, ◌++◌, codes, refl, sym, ap, ◌∙◌, subst, Option, Some, None, IfSome, option_map}
use Rattle.std.proofs.lemmas.Bool.{cond-false, false≢true, cond_both}
use Prim.Native.Char.{code}
use Rattle.fancy_lex.specs.Text.{Text}
use Rattle.fancy_lex.specs.declared.escape.Assertion.{Assertion}
use Rattle.fancy_lex.specs.declared.escape.Assertion.TheVariants.{StartLine, StartLineOniguruma}
use Rattle.fancy_lex.specs.declared.flags.Flags.{Flags}
use Rattle.fancy_grammar.specs.AtomStart.{of_kind, atom_start}
use Rattle.fancy_grammar.specs.GroupKind.{look, capture}
use Rattle.fancy_grammar.specs.Join.{is_empty}
use Rattle.fancy_grammar.specs.Label as label
use Rattle.fancy_grammar.specs.Label.{Leaf}
use Rattle.fancy_grammar.specs.GroupInfo.{GroupInfo}
use Rattle.fancy_grammar.specs.Pattern.{Context, under, past_groups, deeper, in_parens, after_inline_flags, as_atom}
use Rattle.fancy_grammar.specs.Pattern.{flags_after, written, leaf_text}
use Rattle.fancy_grammar.specs.Pattern.{look_opening}
use Rattle.fancy_grammar.specs.PatternNeeds.{settled, inline_flags}
use Rattle.fancy_grammar.specs.PatternReference.{Named, name_of, name_opening, group_opening, target_text}
use Rattle.fancy_grammar.specs.Quantified.{is_repeatable}
use Rattle.fancy_grammar.specs.Tree.{Tree, leaf, over}
use Rattle.fancy_grammar.specs.Ranks.{is_counted}
use Rattle.fancy_grammar.specs.declared.kinds.LookAround.{LookAround}
use Rattle.fancy_grammar.specs.declared.kinds.LookAround.TheVariants.{LookAhead, LookAheadNeg, LookBehind}
use Rattle.fancy_grammar.specs.declared.kinds.LookAround.TheVariants.{LookBehindNeg}
use Rattle.fancy_grammar.specs.declared.precedence.Precedence.{Precedence}
use Rattle.fancy_grammar.specs.declared.precedence.Precedence.TheVariants.{Whole, Branch, Piece, Operand}
use Rattle.fancy_grammar.proofs.PatternDepth.{MayOpen, MayOpenIf, FitsInParens, FitsInParensIf, FitsAfterInlineFlags}
use Rattle.fancy_grammar.proofs.PatternDepth.{FitsAsAtom, is_in_parens, Fits}
use Rattle.fancy_grammar.proofs.Writable.{IsLike, IsWritableLeaf, IsNameWritable, name_at}
use Rattle.fancy_pattern.proofs.PatternLaws.Groups.{parens_text, question_at, reads_look, reads_atomic}
use Rattle.fancy_pattern.proofs.PatternLaws.Groups.{reads_define, reads_group, capture_at, opening_read}
use Rattle.fancy_pattern.proofs.PatternLaws.Induction.{ReadsBy}
use Rattle.fancy_pattern.proofs.PatternLaws.Induction.{by_atom, by_nothing}
use Rattle.fancy_pattern.proofs.PatternLaws.Leaves.{LeafAt, literal_at, byte_at, of_letter_at, newline_at, any_at}
use Rattle.fancy_pattern.proofs.PatternLaws.Leaves.{assertion_at, verb_leaf_at, clear_at, source_at}
use Rattle.fancy_pattern.proofs.PatternLaws.Needed.{like_repeatable, settled_again, case_fits, any_fits, IsLineOfMode}
use Rattle.fancy_pattern.proofs.PatternLaws.Needed.{assertion_fits}
use Rattle.fancy_pattern.proofs.PatternLaws.Rules.{Clear, Begins, begins_by, no_question, ends_close, AtomAt}
use Rattle.fancy_grammar.proofs.ReadBack.ClearLemmas.{not_asking}
use Rattle.fancy_grammar.proofs.ReadBack.RuleLemmas.{st}
use Rattle.fancy_lex.specs.Characters.{◌∈◌, is_among}
use Rattle.fancy_lex.specs.Reading.{choose}
use Rattle.fancy_pattern.proofs.PatternLaws.Becomes.{info_numbers}
use Rattle.fancy_pattern.proofs.PatternLaws.Conditions.{condition_at, exists_at}
use Rattle.fancy_pattern.proofs.PatternLaws.References.{backref_at, call_at, level_at}
use Rattle.fancy_pattern.proofs.PatternLaws.Unresolved.{unresolved_at}

module _ (μ : GroupInfo) where
  abbrev pub ReadsTree : Tree → Context → Type 0
  ReadsTree t h =
      ReadsBy μ t h (Fits t Whole h) (Fits t Branch h) (Fits t Piece h) (Fits t (Operand zero) h) (written μ t Whole h)
      (written μ t Branch h) (written μ t Piece h) (written μ t (Operand zero) h)
      (flags_after t Whole h.flags) (flags_after t Branch h.flags)

  -- ---- leaves

  -- where a leaf fits, by itself and under a quantifier
  abbrev FitsAlone : Leaf → Context → Type 0
  FitsAlone l h = FitsAfterInlineFlags (leaf l) (MayOpenIf (is_in_parens l)) h

  abbrev FitsUnder : Leaf → Context → Type 0
  FitsUnder l h = FitsAfterInlineFlags (leaf l) (FitsAsAtom (leaf l) (Operand zero) (MayOpenIf (is_in_parens l))) h

  -- the leaf's text is read as the leaf in a group, if the leaf cannot be repeated
  abbrev BareLeaf : Leaf → Context → Type 0
  BareLeaf l h =
      let i = deeper (under (settled h.flags (leaf l)) h) in
      is_repeatable i.flags (leaf l) ≡ false → MayOpenIf (is_in_parens l) i → LeafAt μ i (leaf_text μ l i) l

  leaf_by : (l : Leaf) (h : Context) → is_empty (leaf l) ≡ false →
      (MayOpenIf (is_in_parens l) h →
      LeafAt μ (under (settled h.flags (leaf l)) h) (leaf_text μ l (under (settled h.flags (leaf l)) h)) l) →
      BareLeaf l h →
      ReadsBy μ (leaf l) h (FitsAlone l h) (FitsAlone l h) (FitsAlone l h) (FitsUnder l h)
      (after_inline_flags (leaf l) (leaf_text μ l) h) (after_inline_flags (leaf l) (leaf_text μ l) h)
      (after_inline_flags (leaf l) (leaf_text μ l) h)
      (after_inline_flags (leaf l) (as_atom (leaf l) (Operand zero) (leaf_text μ l)) h) (settled h.flags (leaf l))
      (settled h.flags (leaf l))
  leaf_by l h e a bare =
      let g = settled h.flags (leaf l) in
      let i = under g h in
      by_atom μ (leaf l) h e (FitsAlone l h) (FitsUnder l h) (leaf_text μ l i) _ (λ x. x.0) (λ x. (a x.1).begins)
      (λ x. (a x.1).reads) refl
      (λ r. let not_so = ap not (sym (like_repeatable (leaf l) h.flags g refl) ∙ r) in (
        λ x. (x.0, subst (λ b. FitsInParensIf b (λ q. MayOpenIf (is_in_parens l)) (Operand zero) i) not_so x.1),
        ap (λ w. inline_flags h.flags g ++ w) (cond-false _ _ _ not_so),
      ))
      (λ x r q. let so : not (is_repeatable g (leaf l)) ≡ true
      = ap not (sym (like_repeatable (leaf l) h.flags g refl) ∙ r) in
      let inner = λ (x : FitsUnder l h).
      bare (sym (like_repeatable (leaf l) h.flags g refl) ∙ r)
      (subst (λ b. FitsInParensIf b (λ q. MayOpenIf (is_in_parens l)) (Operand zero) i) so x.1).1 in
      subst (λ w. ((v : Text) → Begins h.flags.ignore_space ((inline_flags h.flags g ++ w) ++ v))
      × (settled h.flags (leaf l) ≡ h.flags → (v : Text) → BareAt μ h ((inline_flags h.flags g ++ w) ++ v) v (leaf l)))
      (sym (cond-true _ _ _ so))
      (bare_by μ (leaf l) h e (FitsUnder l h) (leaf_text μ l (deeper i))
      (λ x. (subst (λ b. FitsInParensIf b (λ q. MayOpenIf (is_in_parens l)) (Operand zero) i) so x.1).0)
      (λ x. (inner x).begins) (λ x. (inner x).reads) x r q))

  of_mode : (f g : Flags) (c : ℕ) (a : Assertion) → g.oniguruma_mode ≡ f.oniguruma_mode →
      IsWritableLeaf f μ c (label.assertion a) → IsLineOfMode g a
  of_mode f g c (StartLine crlf) e k = e ∙ k
  of_mode f g c (StartLineOniguruma crlf) e k = e ∙ k
  of_mode f g c _ e k = tt

  pub leaf_reads : ((k : ℕ) → IfSome (name_of μ k) (λ e. e.1 ≡ info_numbers μ e.0)) →
      (f : Flags) (l : Leaf) (h : Context) → IsLike f h.flags →
      IsWritableLeaf f μ h.opened l → ReadsTree (leaf l) h
  leaf_reads numbered f label.empty h like k = by_nothing μ h _ _ _ _ (λ d. d refl) (λ d. d refl)
  leaf_reads numbered f (label.any a b) h like k =
      let i = under (settled h.flags (leaf (label.any a b))) h in
      leaf_by (label.any a b) h refl (λ _. any_at μ i a b (any_fits i.flags a b
      (settled_again h.flags (leaf (label.any a b)))))
      (λ e. absurd (true≢false e))
  leaf_reads numbered f (label.assertion a) h like k =
      let i = under (settled h.flags (leaf (label.assertion a))) h in
      leaf_by (label.assertion a) h refl (λ _. assertion_at μ i a (assertion_fits i.flags a
      (of_mode f i.flags h.opened a (ap (λ g. g.oniguruma_mode) like) k)
      (settled_again h.flags (leaf (label.assertion a)))))
      (λ _ _. assertion_at μ (deeper i) a (assertion_fits i.flags a
      (of_mode f i.flags h.opened a (ap (λ g. g.oniguruma_mode) like) k)
      (settled_again h.flags (leaf (label.assertion a)))))
  leaf_reads numbered f (label.general_newline u) h like k =
      leaf_by (label.general_newline u) h refl (λ _. newline_at μ h u (ap (λ g. g.unicode) like ∙ k))
      (λ e. absurd (true≢false e))
  leaf_reads numbered f (label.literal [] casei) h like k = absurd k
  leaf_reads numbered f (label.literal (c ∷ []) casei) h like k =
      let l = label.literal (c ∷ []) casei in
      let i = under (settled h.flags (leaf l)) h in
      leaf_by l h refl (λ _. literal_at μ i casei c (case_fits i.flags casei c (settled_again h.flags (leaf l))))
      (λ e. absurd (true≢false e))
  leaf_reads numbered f (label.literal (c ∷ e ∷ s) casei) h like k = absurd k
  leaf_reads numbered f (label.literal_bytes []) h like k = absurd k
  leaf_reads numbered f (label.literal_bytes (b ∷ [])) h like k =
      leaf_by (label.literal_bytes (b ∷ [])) h refl (λ _. byte_at μ h b (ap (λ g. g.unicode) like ∙ k.0) k.1 k.2)
      (λ e. absurd (true≢false e))
  leaf_reads numbered f (label.literal_bytes (b ∷ e ∷ s)) h like k = absurd k
  leaf_reads numbered f (label.delegate s casei) h like k =
      let l = label.delegate s casei in
      let i = under (settled h.flags (leaf l)) h in
      leaf_by l h refl (λ _. source_at μ i s casei _ (k i.flags like (settled_again h.flags (leaf l))))
      (λ e. absurd (true≢false e))
  leaf_reads numbered f (label.verb v) h like k = leaf_by (label.verb v) h refl (λ d. verb_leaf_at μ h v (d refl))
      (λ _ d. verb_leaf_at μ _ v (d refl))
  leaf_reads numbered f label.clear h like k = leaf_by label.clear h refl (λ d. clear_at μ h (d refl))
      (λ e. absurd (true≢false e))
  leaf_reads numbered f (label.backref n casei) h like k =
      leaf_by (label.backref n casei) h refl
      (λ _. backref_at μ (under (settled h.flags (leaf (label.backref n casei))) h) numbered n k)
      (λ e. absurd (true≢false e))
  leaf_reads numbered f (label.backref_at_level n level casei) h like k =
      let l = label.backref_at_level n level casei in
      leaf_by l h refl (λ _. level_at μ (under (settled h.flags (leaf l)) h) numbered n level k.0 k.1)
      (λ e. absurd (true≢false e))
  leaf_reads numbered f (label.subroutine_call n) h like k =
      leaf_by (label.subroutine_call n) h refl (λ _. call_at μ h numbered n k)
      (λ e. absurd (true≢false e))
  leaf_reads numbered f (label.backref_exists n level) h like k =
      leaf_by (label.backref_exists n level) h refl
      (λ d. exists_at μ h (target_text μ n level) n level (condition_at μ h n (d refl) level (numbered n) k.0 k.1))
      (λ e. absurd (true≢false e))
  leaf_reads numbered f (label.ast_node (label.ast_call t) position) h like k =
      leaf_by (label.ast_node (label.ast_call t) position) h refl (λ d. unresolved_at μ h t position d k.0 k.1)
      (λ e. absurd (true≢false e))
  leaf_reads numbered f (label.ast_node r position) h like k = absurd k
  leaf_reads numbered f l h like k = leaf_by l h refl (λ _. of_letter_at μ _ l tt) (λ _ _. of_letter_at μ _ l tt)

  -- ---- groups

  begins_open : (x : Bool) (s : Text) → Clear x s → Begins x (code "(" ∷ s)
  begins_open x s c = begins_by x (code "(") s (not_asking s (no_question s c.no_quantifier)) refl refl refl

  module _ (t : Tree) (h : Context) where
    -- a group with the name in the group information
    group_opening_read : MayOpen h → (o : Option Named) → IfSome o (λ e. IsNameWritable e.0) → (f : Flags) (u : Text) →
        Clear f.ignore_space u →
        atom_start h.depth (st f (code "(" ∷ (choose o (λ e. name_opening e.0) [] ++ u)))
        ≡ of_kind (capture (option_map (λ e. e.0) o)) (st f u)
    group_opening_read d None k f u c = capture_at h.depth f u d c
    group_opening_read d (Some ([], l)) k f u c = absurd k
    group_opening_read d (Some (z ∷ w, l)) k f u c = opening_read h.depth f z w u d k

    begins_opening : (o : Option Named) → IfSome o (λ e. IsNameWritable e.0) → (x : Bool) (u : Text) → Clear x u →
        Begins x (code "(" ∷ (choose o (λ e. name_opening e.0) [] ++ u))
    begins_opening None k x u c = begins_open x u c
    begins_opening (Some ([], l)) k x u c = absurd k
    begins_opening (Some (z ∷ w, l)) k x u c =
        cond_both (is_among (code ">") (z ∷ w)) _ _ (λ r. Begins x (code "(" ∷ (r ++ u)))
        (λ _. begins_by x (code "(") _ refl refl refl refl)
        (λ _. cond_both (z ∈ "=!") _ _ (λ r. Begins x (code "(" ∷ ((r ++ (codes "<" ++ ((z ∷ w) ++ codes ">"))) ++ u)))
        (λ _. begins_by x (code "(") _ refl refl refl refl) (λ _. begins_by x (code "(") _ refl refl refl refl))

    pub group_reads : IfSome (name_of μ (h.opened + 1)) (λ e. IsNameWritable e.0) →
        is_counted μ.numbered_groups_ignored (name_at μ (h.opened + 1)) ≡ true →
        ReadsTree t (deeper (past_groups 1 (under (settled h.flags t) h))) → ReadsTree (over label.group t) h
    group_reads named counted r =
        let i = under (settled h.flags t) h in
        let opening = group_opening μ (h.opened + 1) in
        let s = in_parens opening (written μ t Whole) (past_groups 1 i) in
        let inside = λ (v : Text). written μ t Whole (deeper (past_groups 1 i)) ++ code ")" ∷ v in
        let fits = Fits (over label.group t) Whole h in
        let clear = λ (d : fits) (v : Text).
        r.whole_clear d.1.1 (code ")" ∷ v) (ends_close h.flags.ignore_space v).stops.clear in
        let same = parens_text opening (written μ t Whole) (past_groups 1 i) in
        by_atom μ (over label.group t) h refl fits fits s _ (λ d. d.0)
        (λ d v. subst (Begins h.flags.ignore_space) (sym (same v))
        (begins_opening (name_of μ (h.opened + 1)) named h.flags.ignore_space (inside v) (clear d v)))
        (λ d v k _. subst (λ w. AtomAt μ i w v (over label.group t)) (sym (same v))
        (reads_group μ i _ _ _ (inside v) v t
        (group_opening_read d.1.0 (name_of μ (h.opened + 1)) named i.flags (inside v) (clear d v)) refl counted
        (r.whole d.1.1 (code ")" ∷ v) (ends_close h.flags.ignore_space v))))
        refl (λ e. ((λ d. d), refl)) (λ _ e. absurd (true≢false e))

    begins_look : (x : Bool) (l : LookAround) (u : Text) → Begins x (code "(" ∷ (look_opening l ++ u))
    begins_look x LookAhead u = begins_by x (code "(") _ refl refl refl refl
    begins_look x LookAheadNeg u = begins_by x (code "(") _ refl refl refl refl
    begins_look x LookBehind u = begins_by x (code "(") _ refl refl refl refl
    begins_look x LookBehindNeg u = begins_by x (code "(") _ refl refl refl refl

    -- its text, where a group may open
    look_atom : (l : LookAround) (i : Context) → MayOpen i → (v : Text) →
        WholeAt μ (deeper i) (written μ t Whole (deeper i) ++ code ")" ∷ v) (flags_after t Whole i.flags)
        (code ")" ∷ v) t →
        AtomAt μ i (in_parens (look_opening l) (written μ t Whole) i ++ v) v (over (label.look_around l) t)
    look_atom l i d v w =
        subst (λ z. AtomAt μ i z v (over (label.look_around l) t))
        (sym (parens_text (look_opening l) (written μ t Whole) i v))
        (reads_look μ i l _ _ (written μ t Whole (deeper i) ++ code ")" ∷ v) v t
        (look_ahead_in d i.flags l (written μ t Whole (deeper i) ++ code ")" ∷ v)) w)
      where
        look_ahead_in : MayOpen i → (f : Flags) (l : LookAround) (u : Text) →
            atom_start i.depth (st f (code "(" ∷ (look_opening l ++ u))) ≡ of_kind (look l) (st f u)
        look_ahead_in d f LookAhead u = question_at i.depth f (code "=" ∷ u) d
        look_ahead_in d f LookAheadNeg u = question_at i.depth f (code "!" ∷ u) d
        look_ahead_in d f LookBehind u = question_at i.depth f (codes "<=" ++ u) d
        look_ahead_in d f LookBehindNeg u = question_at i.depth f (codes "<!" ++ u) d

    pub look_reads : (l : LookAround) → ReadsTree t (deeper (under (settled h.flags t) h)) →
        ReadsTree t (deeper (deeper (under (settled h.flags t) h))) → ReadsTree (over (label.look_around l) t) h
    look_reads l r r2 =
        let i = under (settled h.flags t) h in
        let x = over (label.look_around l) t in
        let text = in_parens (look_opening l) (written μ t Whole) in
        let fits = λ (p : Precedence). Fits x p h in
        let begins = λ (j : Context) (v : Text).
        subst (Begins h.flags.ignore_space) (sym (parens_text (look_opening l) (written μ t Whole) j v))
        (begins_look h.flags.ignore_space l (written μ t Whole (deeper j) ++ code ")" ∷ v)) in
        let close = λ (v : Text). ends_close h.flags.ignore_space v in
        by_atom μ x h refl (fits Whole) (fits (Operand zero)) (text i) _ (λ d. d.0)
        (λ _ v. begins i v)
        (λ d v k _. look_atom l i d.1.0 v (r.whole d.1.1 (code ")" ∷ v) (close v)))
        refl (λ e. absurd (false≢true e))
        (bare_by μ x h refl (fits (Operand zero)) (text (deeper i)) (λ d. d.1.0) (λ _ v. begins (deeper i) v)
        (λ d v k _. look_atom l (deeper i) d.1.1.0 v (r2.whole d.1.1.1 (code ")" ∷ v) (close v))))

    pub define_reads : ReadsTree t (deeper (under (settled h.flags t) h)) → ReadsTree (over label.define_group t) h
    define_reads r =
        let i = under (settled h.flags t) h in
        let s = in_parens (codes "?(DEFINE)") (written μ t Whole) i in
        let inside = λ (v : Text). written μ t Whole (deeper i) ++ code ")" ∷ v in
        let same = parens_text (codes "?(DEFINE)") (written μ t Whole) i in
        let fits = Fits (over label.define_group t) Whole h in
        by_atom μ (over label.define_group t) h refl fits fits s _ (λ d. d.0)
        (λ _ v. subst (Begins h.flags.ignore_space) (sym (same v))
        (begins_by h.flags.ignore_space (code "(") _ refl refl refl refl))
        (λ d v k _. subst (λ w. AtomAt μ i w v (over label.define_group t)) (sym (same v))
        (reads_define μ i _ _ (inside v) v t (question_at h.depth i.flags (codes "(DEFINE)" ++ inside v) d.1.0)
        (r.whole d.1.1 (code ")" ∷ v) (ends_close h.flags.ignore_space v))))
        refl (λ e. ((λ d. d), refl)) (λ _ e. absurd (true≢false e))

    -- an atomic group that does not come from a quantifier
    pub atomic_by : ReadsTree t (deeper (under (settled h.flags t) h)) →
        let fits = FitsAfterInlineFlags t (FitsInParens (Fits t Whole)) h in
        ReadsBy μ (over label.atomic_group t) h fits fits fits fits
        (after_inline_flags t (in_parens (codes "?>") (written μ t Whole)) h)
        (after_inline_flags t (in_parens (codes "?>") (written μ t Whole)) h)
        (after_inline_flags t (in_parens (codes "?>") (written μ t Whole)) h)
        (after_inline_flags t (in_parens (codes "?>") (written μ t Whole)) h) (settled h.flags t) (settled h.flags t)
    atomic_by r =
        let i = under (settled h.flags t) h in
        let s = in_parens (codes "?>") (written μ t Whole) i in
        let inside = λ (v : Text). written μ t Whole (deeper i) ++ code ")" ∷ v in
        let same = parens_text (codes "?>") (written μ t Whole) i in
        let fits = FitsAfterInlineFlags t (FitsInParens (Fits t Whole)) h in
        by_atom μ (over label.atomic_group t) h refl fits fits s _ (λ d. d.0)
        (λ _ v. subst (Begins h.flags.ignore_space) (sym (same v))
        (begins_by h.flags.ignore_space (code "(") _ refl refl refl refl))
        (λ d v k _. subst (λ w. AtomAt μ i w v (over label.atomic_group t)) (sym (same v))
        (reads_atomic μ i _ _ (inside v) v t (question_at h.depth i.flags (codes ">" ++ inside v) d.1.0)
        (r.whole d.1.1 (code ")" ∷ v) (ends_close h.flags.ignore_space v))))
        refl (λ e. ((λ d. d), refl)) (λ _ e. absurd (true≢false e))
