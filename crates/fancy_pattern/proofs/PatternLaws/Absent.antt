-- Absent expressions, stoppers and repeaters read back if the trees below them do.
use Rattle.std.proofs.lemmas.Bool.{true≢false}
use Rattle.std.proofs.Common.{◌≡◌, ℕ, ◌+◌, ◌<◌, Bool, true, false, [], ◌∷◌, ◌++◌, codes, nat_eq, refl, sym, ap}
use Rattle.std.proofs.Common.{◌∙◌, subst, append_assoc, ne_eqb, ⊎_elim, ◌≢◌, ◌==◌, if◌then◌else◌}
use Rattle.std.proofs.lemmas.Bool.{cond-false, cases_eq, false≢true}
use Rattle.std.specs.List.{starts_with}
use Prim.Native.Char.{code}
use Rattle.fancy_lex.specs.Text.{Text, bytes}
use Rattle.fancy_lex.specs.declared.flags.Flags.{Flags}
use Rattle.fancy_grammar.specs.AtomStart.{nothing, of_kind, atom_start, after_question}
use Rattle.fancy_grammar.specs.Depth.{max_depth}
use Rattle.fancy_grammar.specs.Grammar.{Alternation, next, atom, a_nothing, a_group, inside, two_branches, one_branch}
use Rattle.fancy_grammar.specs.GroupKind as kind
use Rattle.fancy_grammar.specs.Join.{is_empty}
use Rattle.fancy_grammar.specs.Label as label
use Rattle.fancy_grammar.specs.GroupInfo.{GroupInfo}
use Rattle.fancy_grammar.specs.Pattern.{Context, under, past_groups, deeper, group_count, in_parens, after, written}
use Rattle.fancy_grammar.specs.Pattern.{repeater_text, stopper_text}
use Rattle.fancy_grammar.specs.PatternNeeds.{settled}
use Rattle.fancy_grammar.specs.State.{State, done}
use Rattle.fancy_grammar.specs.Tree.{Tree, over, row, no_trees, more_trees, empty, clear, stopper, expression}
use Rattle.fancy_grammar.specs.Tree.{repeater}
use Rattle.fancy_grammar.specs.declared.precedence.Precedence.TheVariants.{Whole, Branch}
use Rattle.fancy_grammar.proofs.PatternDepth.{Fits}
use Rattle.fancy_grammar.proofs.OutcomeLemmas.{piece_as}
use Rattle.fancy_pattern.proofs.PatternLaws.Becomes.{Becomes, row_becomes, stays_solid, in_longer}
use Rattle.fancy_pattern.proofs.PatternLaws.Cases.{ReadsTree}
use Rattle.fancy_pattern.proofs.PatternLaws.Groups.{parens_text, question_at, over_becomes, whole_after}
use Rattle.fancy_pattern.proofs.PatternLaws.Induction.{MayBeLeft, by_left, by_atom}
use Rattle.fancy_pattern.proofs.PatternLaws.Groups.{bare_branch, begins_nothing, reads_nothing}
use Rattle.fancy_pattern.proofs.PatternLaws.Rules.{Begins, Stops, begins_by, stops_bar, ends_close, AtomAt, BranchAt}
use Rattle.fancy_pattern.proofs.PatternLaws.Rules.{WholeAt}
use Rattle.fancy_pattern.proofs.PatternLaws.Rules.{quants_one, quant_none, comment_passed}
use Rattle.fancy_grammar.proofs.ReadBack.RuleLemmas.{st}
use Rattle.fancy_grammar.proofs.ReadLaws.{branch_read}
use Rattle.fancy_grammar.proofs.Slices.{to_ends}
use Rattle.fancy_lex.proofs.LeaveLaws.{ends_twice}

-- ---- after an empty comment

nothing_at : (d : ℕ) (f : Flags) (s : Text) → atom_start d (st f (code "|" ∷ s)) ≡ nothing
unfolding atom_start
nothing_at d f s = refl

-- a text that begins with a bar is read the same after the comment
comment_whole : (μ : GroupInfo) (h : Context) (s v : Text) (g : Flags) (x : Tree) →
    WholeAt μ h (code "|" ∷ s) g v x → WholeAt μ h (codes "(?#)|" ++ s) g v x
comment_whole μ h s v g x w =
    let t = codes "(?#)|" ++ s in
    let bar = code "|" ∷ s in
    record {
      tree = w.tree;
      derives =
          whole_after h.depth (st h.flags bar) (st h.flags t)
          (λ q p. next refl
          (piece_as (comment_passed h.flags.ignore_space bar ∙ (stops_bar h.flags.ignore_space s).clear.no_layout)
          (atom (nothing_at h.depth h.flags s) a_nothing)
          (quants_one h.depth (bytes t) h.flags empty empty bar bar (stops_bar h.flags.ignore_space s).clear
          (quant_none (bytes t) h.flags empty bar (stops_bar h.flags.ignore_space s).clear))) p)
          w.derives;
      becomes = in_longer μ bar t (codes "(?#)", refl) h.opened w.tree x w.becomes;
    }

-- ---- a repeater

-- the text begins with no bar; an empty comment comes first if one is needed
record Separated (μ : GroupInfo) (h : Context) (t v : Text) (g : Flags) (x : Tree) : Type 0 where
  first : ℕ
  others : Text
  is : t ≡ first ∷ others
  no_bar : (first == code "|") ≡ false
  reads : WholeAt μ h t g v x

tilde_at : (s : State) (c : ℕ) (u : Text) → (c == code "|") ≡ false →
    after_question s (code "~" ∷ c ∷ u) ≡ of_kind kind.repeater (st s.flags (c ∷ u))
tilde_at s c u e = rw e refl

starts_bar : (t : Text) → starts_with nat_eq (code "|" ∷ t) (codes "|") ≡ true
starts_bar t = refl

starts_other : (c : ℕ) (t : Text) → (c ≢ code "|") → starts_with nat_eq (c ∷ t) (codes "|") ≡ false
starts_other c t h = rw (ne_eqb (code "|") c (λ e. h (sym e))) refl

module _ (μ : GroupInfo) (h : Context) (v : Text) (g : Flags) (x : Tree) where
  abbrev SeparatedIf : Bool → Text → Type 0
  SeparatedIf b t = Separated μ h ((if b then codes "(?#)" ++ t else t) ++ code ")" ∷ v) (code ")" ∷ v) g x

  abbrev ReadsInParens : Text → Type 0
  ReadsInParens t = WholeAt μ h (t ++ code ")" ∷ v) g (code ")" ∷ v) x

  separated_nothing : (b : Bool) → false ≡ b → ReadsInParens [] → SeparatedIf b []
  separated_nothing true e w = absurd (false≢true e)
  separated_nothing false e w = record { first = code ")"; others = v; is = refl; no_bar = refl; reads = w }

  separated_bar : (b : Bool) (t : Text) → true ≡ b → ReadsInParens (code "|" ∷ t) → SeparatedIf b (code "|" ∷ t)
  separated_bar true t e w = record {
    first = code "(";
    others = codes "?#)|" ++ (t ++ code ")" ∷ v);
    is = refl;
    no_bar = refl;
    reads = comment_whole μ h (t ++ code ")" ∷ v) (code ")" ∷ v) g x w;
  }
  separated_bar false t e w = absurd (false≢true (sym e))

  separated_other : (b : Bool) (c : ℕ) (t : Text) → (c ≢ code "|") → false ≡ b → ReadsInParens (c ∷ t) → SeparatedIf b (c ∷ t)
  separated_other true c t h e w = absurd (false≢true e)
  separated_other false c t h e w =
      record { first = c; others = t ++ code ")" ∷ v; is = refl; no_bar = ne_eqb c (code "|") h; reads = w }

  separated : (t : Text) → ReadsInParens t → SeparatedIf (starts_with nat_eq t (codes "|")) t
  separated [] w = separated_nothing (starts_with nat_eq [] (codes "|")) refl w
  separated (c ∷ t) w =
      ⊎_elim
      (λ e. subst (λ c. ReadsInParens (c ∷ t) → SeparatedIf (starts_with nat_eq (c ∷ t) (codes "|")) (c ∷ t)) (sym e)
      (separated_bar (starts_with nat_eq (code "|" ∷ t) (codes "|")) t (sym (starts_bar t))) w)
      (λ e. separated_other (starts_with nat_eq (c ∷ t) (codes "|")) c t e (sym (starts_other c t e)) w)
      (cases_eq c (code "|"))

repeater_at : (μ : GroupInfo) (h : Context) (u : Text) (g : Flags) (v : Text) (x : Tree) → h.depth + 1 < max_depth →
    Separated μ (deeper h) u (code ")" ∷ v) g x → AtomAt μ h (codes "(?~" ++ u) v (over label.repeater x)
repeater_at μ h u g v x l p =
    subst (λ z. AtomAt μ h (codes "(?~" ++ z) v (over label.repeater x)) (sym p.is)
    (record {
      tree = repeater p.reads.tree;
      derives =
          atom
          (question_at h.depth h.flags (code "~" ∷ p.first ∷ p.others) l
          ∙ tilde_at (st h.flags (codes "(?~" ++ p.first ∷ p.others)) p.first p.others p.no_bar)
          (a_group (inside
          (subst (λ z. Alternation (h.depth + 1) (st h.flags z) (done p.reads.tree (st g (code ")" ∷ v)))) p.is
          p.reads.derives)));
      becomes = over_becomes μ _ label.repeater h.opened p.reads.tree x tt
          (in_longer μ _ _ (codes "(?~", refl) h.opened p.reads.tree x
          (subst (λ z. Becomes μ z h.opened p.reads.tree x) p.is p.reads.becomes));
    })

-- ---- a stopper

stopper_same : (x : Bool) (t : Text) → Begins x (t ++ []) → stopper_text t ≡ t
stopper_same x [] b = absurd (false≢true (sym b.goes))
stopper_same x (c ∷ t) b = refl

stopper_at : (μ : GroupInfo) (h : Context) (t v : Text) (g : Flags) (x : Tree) → h.depth + 1 < max_depth →
    (b : BranchAt μ (deeper h) t g (code ")" ∷ v) x) → is_empty b.tree ≡ false →
    AtomAt μ h (codes "(?~|" ++ t) v (over label.stopper x)
stopper_at μ h t v g x l b solid =
    let is : (if is_empty b.tree then clear else stopper b.tree) ≡ stopper b.tree = cond-false _ _ _ solid in
    record {
      tree = if is_empty b.tree then clear else stopper b.tree;
      derives = atom (question_at h.depth h.flags (codes "~|" ++ t) l) (one_branch b.derives refl);
      becomes =
          subst (λ r. Becomes μ (codes "(?~|" ++ t) h.opened r (over label.stopper x)) (sym is)
          (over_becomes μ _ label.stopper h.opened b.tree x tt
          (in_longer μ t _ (codes "(?~|", refl) h.opened b.tree x b.becomes));
    }

-- ---- an absent expression

expression_at : (μ : GroupInfo) (h : Context) (t u v : Text) (f g : Flags) (a e : Tree) → h.depth + 1 < max_depth →
    BranchAt μ (deeper h) t f (code "|" ∷ u) a →
    BranchAt μ (past_groups (group_count a) (under f (deeper h))) u g (code ")" ∷ v) e →
    AtomAt μ h (codes "(?~|" ++ t) v (row label.expression (more_trees a (more_trees e no_trees)))
expression_at μ h t u v f g a e l b d = record {
  tree = expression b.tree d.tree;
  derives = atom (question_at h.depth h.flags (codes "~|" ++ t) l) (two_branches b.derives refl d.derives);
  becomes =
      row_becomes μ _ label.expression (b.tree ∷ d.tree ∷ []) (a ∷ e ∷ []) h.opened (
        in_longer μ t _ (codes "(?~|", refl) _ b.tree a b.becomes,
        (
          in_longer μ u _ (ends_twice _ t u (codes "(?~|", refl)
              (ends_twice t (code "|" ∷ u) u (to_ends (branch_read b.derives).span.slice)
              (codes "|", refl))) _ d.tree e d.becomes,
          tt,
        ),
      );
}

-- ---- the trees

module _ (μ : GroupInfo) (h : Context) where
  begins_absent : (u : Text) → Begins h.flags.ignore_space (codes "(?~" ++ u)
  begins_absent u = begins_by h.flags.ignore_space (code "(") _ refl refl refl refl

  pub repeater_reads : (t : Tree) → ReadsTree μ t (deeper (under (settled h.flags t) h)) →
      ReadsTree μ (over label.repeater t) h
  repeater_reads t r =
      let x = over label.repeater t in
      let i = under (settled h.flags t) h in
      let w = written μ t Whole (deeper i) in
      let text = λ (j : Context). repeater_text (written μ t Whole j) in
      let s = in_parens (codes "?~") text i in
      let same = parens_text (codes "?~") text i in
      by_atom μ x h refl (Fits x Whole h) (Fits x Whole h) s _ (λ d. d.0)
      (λ _ v. subst (Begins h.flags.ignore_space) (sym (same v)) (begins_absent _))
      (λ d v k _. subst (λ z. AtomAt μ i z v x) (sym (same v))
      (repeater_at μ i _ _ v t d.1.0
      (separated μ (deeper i) v _ t w (r.whole d.1.1 (code ")" ∷ v) (ends_close h.flags.ignore_space v)))))
      refl (λ e. ((λ d. d), refl)) (λ _ e. absurd (true≢false e))

  solid_stopper : (t : Tree) → is_empty t ≡ false → ReadsTree μ t (deeper (under (settled h.flags t) h)) →
      ReadsTree μ (over label.stopper t) h
  solid_stopper t solid r =
      let x = over label.stopper t in
      let i = under (settled h.flags t) h in
      let w = written μ t Branch (deeper i) in
      let text = λ (j : Context). stopper_text (written μ t Branch j) in
      let s = in_parens (codes "?~|") text i in
      let same = parens_text (codes "?~|") text i in
      let bare = λ (d : Fits x Whole h). stopper_same h.flags.ignore_space w (r.branch_begins d.1.1.1 solid []) in
      by_atom μ x h refl (Fits x Whole h) (Fits x Whole h) s _ (λ d. d.0)
      (λ _ v. subst (Begins h.flags.ignore_space) (sym (same v)) (begins_absent _))
      (λ d v k _. let b = r.branch d.1.1.1 (code ")" ∷ v) (ends_close h.flags.ignore_space v).stops in
      subst (λ z. AtomAt μ i z v x) (sym (same v ∙ ap (λ z. codes "(?~|" ++ (z ++ code ")" ∷ v)) (bare d)))
      (stopper_at μ i (w ++ code ")" ∷ v) v _ t d.1.0 b (stays_solid μ _ h.opened b.tree t b.becomes solid)))
      refl (λ e. ((λ d. d), refl)) (λ _ e. absurd (true≢false e))

  nothing_stopper : μ.numbered_groups_ignored ≡ true → ReadsTree μ (over label.stopper empty) h
  nothing_stopper ignored =
      let x = over label.stopper empty in
      let text = λ (j : Context). codes "()" in
      by_atom μ x h refl (Fits x Whole h) (Fits x Whole h) (in_parens (codes "?~|") text h) _ (λ d. d.0)
      (λ _ v. begins_absent _)
      (λ d v k _. let b = bare_branch μ (deeper h) (codes "()" ++ code ")" ∷ v) (code ")" ∷ v) empty
      (begins_nothing h.flags.ignore_space (code ")" ∷ v)) (ends_close h.flags.ignore_space v).stops
      (reads_nothing μ (deeper h) (code ")" ∷ v) (d.1.1.0 refl) ignored) in
      stopper_at μ h (codes "()" ++ code ")" ∷ v) v h.flags empty d.1.0 b.branch b.solid)
      refl (λ e. ((λ d. d), refl)) (λ _ e. absurd (true≢false e))

  pub stopper_reads : (t : Tree) → MayBeLeft μ t → ReadsTree μ t (deeper (under (settled h.flags t) h)) →
      ReadsTree μ (over label.stopper t) h
  stopper_reads empty left r = nothing_stopper (by_left μ.numbered_groups_ignored left)
  stopper_reads t left r = solid_stopper t refl r

  -- the second branch follows the first
  pub expression_reads : (a e : Tree) → let x = row label.expression (more_trees a (more_trees e no_trees)) in
      let i = deeper (under (settled h.flags x) h) in
      (after a Branch i).flags.ignore_space ≡ h.flags.ignore_space → ReadsTree μ a i →
      ReadsTree μ e (after a Branch i) → ReadsTree μ x h
  expression_reads a e space r q =
      let x = row label.expression (more_trees a (more_trees e no_trees)) in
      let i = under (settled h.flags x) h in
      let text = λ (j : Context).
      written μ a Branch j ++ (codes "|" ++ written μ e Branch (after a Branch j)) in
      let s = in_parens (codes "?~|") text i in
      let same = parens_text (codes "?~|") text i in
      let first = written μ a Branch (deeper i) in
      let second = λ (v : Text). written μ e Branch (after a Branch (deeper i)) ++ code ")" ∷ v in
      by_atom μ x h refl (Fits x Whole h) (Fits x Whole h) s _ (λ d. d.0)
      (λ _ v. subst (Begins h.flags.ignore_space) (sym (same v)) (begins_absent _))
      (λ d v k _. subst (λ z. AtomAt μ i z v x)
      (sym (same v ∙ ap (λ z. codes "(?~|" ++ z) (append_assoc first _ (code ")" ∷ v))))
      (expression_at μ i (first ++ code "|" ∷ second v) (second v) v _ _ a e d.1.0
      (r.branch d.1.1.0 (code "|" ∷ second v) (stops_bar h.flags.ignore_space (second v)))
      (q.branch d.1.1.1 (code ")" ∷ v)
      (subst (λ y. Stops y (code ")" ∷ v)) (sym space) (ends_close h.flags.ignore_space v).stops))))
      refl (λ e. ((λ d. d), refl)) (λ _ e. absurd (true≢false e))
