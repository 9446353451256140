-- Conditionals read back if their conditions and branches do.
use Rattle.std.proofs.Common.{◌≡◌, ℕ, ◌+◌, Bool, true, false, not, ◌&&◌, ◌||◌, ◌==◌, List, [], ◌∷◌}
use Rattle.std.proofs.Common.{◌++◌, codes, refl, sym, ap, ◌∙◌, subst, arith, append_assoc, append-nil, ne_eqb}
use Rattle.std.proofs.Common.{if◌then◌else◌}
use Rattle.std.proofs.Math.Bool.{and-true, not-not}
use Rattle.std.proofs.lemmas.Bool.{cond-false, or_parts, false≢true}
use Rattle.std.proofs.lemmas.Str.{len_utf8_bounds}
use Prim.Native.Char.{code}
use Rattle.fancy_lex.specs.Text.{Text, bytes, EndsWith}
use Rattle.fancy_lex.specs.declared.flags.Flags.{Flags}
use Rattle.fancy_lex.proofs.TextLemmas.{bytes-append}
use Rattle.fancy_grammar.specs.Grammar.{Alternation, alternation, Branches, last, more, branch_error, Body, the_body}
use Rattle.fancy_grammar.specs.Grammar.{Atom, is_condition, branches_of, conditional_of}
use Rattle.fancy_grammar.specs.Grammar.{conditional_after, closed}
use Rattle.fancy_grammar.specs.Items.{items}
use Rattle.fancy_grammar.specs.Join.{is_empty, choice}
use Rattle.fancy_grammar.specs.Label as label
use Rattle.fancy_grammar.specs.Pattern.{Context, under, past_groups, deeper, group_count, is_alt, after, written}
use Rattle.fancy_grammar.specs.Pattern.{branches_text, in_parens, parenthesized, condition_text}
use Rattle.fancy_grammar.specs.Pattern.{flags_after}
use Rattle.fancy_grammar.specs.Depth.{max_depth}
use Rattle.fancy_pattern.proofs.PatternLaws.Groups.{bare_branch, begins_nothing, reads_nothing}
use Rattle.fancy_pattern.proofs.PatternLaws.Induction.{by_left}
use Rattle.std.proofs.lemmas.Bool.{and_parts, cond-true}
use Rattle.std.proofs.Common.{◌<◌}
use Rattle.fancy_grammar.specs.PatternNeeds.{settled}
use Rattle.fancy_grammar.specs.GroupInfo.{GroupInfo}
use Rattle.fancy_pattern.proofs.PatternLaws.Groups.{parens_text}
use Rattle.fancy_pattern.proofs.PatternLaws.Induction.{by_atom}
use Rattle.fancy_grammar.specs.Resolved.{resolved_in}
use Rattle.fancy_grammar.specs.State.{State, Outcome, done, failed, mapped}
use Rattle.fancy_grammar.specs.Tree.{Tree, leaf, row, empty, conditional, ast_group}
use Rattle.fancy_grammar.specs.Tree.{ast_node, trees_of, list_of}
use Rattle.fancy_pattern.proofs.PatternLaws.Becomes.{Becomes, row_becomes, AreGroups, becomes_plain, info_numbers}
use Rattle.fancy_pattern.proofs.PatternLaws.Becomes.{is_raw_group, stays_solid}
use Rattle.std.proofs.Math.Bool.{and-false}
use Rattle.std.proofs.lemmas.Bool.{true≢false}
use Rattle.fancy_pattern.proofs.PatternLaws.Becomes.{node_determined, in_longer, info_meaning}
use Rattle.fancy_pattern.proofs.PatternLaws.Unpositioned.{alt_unpositioned}
use Rattle.fancy_pattern.proofs.PatternLaws.Rules.{Begins, begins_by, AtomAt, BranchAt, WholeAt, stops_bar, ends_close}
use Rattle.fancy_grammar.specs.declared.precedence.Precedence.TheVariants.{Whole, Branch as BranchAlone}
use Rattle.fancy_grammar.proofs.PatternDepth.{MayOpen, MayOpenIf, Fits, FitsAsCondition}
use Rattle.fancy_pattern.proofs.PatternLaws.Cases.{ReadsTree}
use Rattle.fancy_grammar.proofs.ReadBack.RuleLemmas.{st}

-- ---- the branches of an alternation that was read

alternation_of : {d : ℕ} {s : State} {o : Outcome Tree} → Alternation d s o →
    (q : Outcome (List Tree)) × (o ≡ mapped choice q) × Branches d s q
alternation_of (alternation {q} b) = (q, refl, b)

abbrev HasSome : Outcome (List Tree) → Type 0
HasSome (done [] s) = ⊥
HasSome _ = Unit {0}

one_more : (r : Tree) (q : Outcome (List Tree)) → HasSome (mapped (r ∷◌) q)
one_more r (done l s) = tt
one_more r (failed e) = tt

some_branches : {d : ℕ} {s : State} {q : Outcome (List Tree)} → Branches d s q → HasSome q
some_branches (last b e) = tt
some_branches (more {r} {q} b e m) = one_more r q
some_branches (branch_error b) = tt

tree_in : Tree → Outcome Tree → Tree
tree_in x (done r s) = r
tree_in x (failed e) = x

state_in : State → Outcome Tree → State
state_in x (done r s) = s
state_in x (failed e) = x

-- the branches of an alternation that was read
record Others (d : ℕ) (s : State) (r : Tree) (t : State) : Type 0 where
  first : Tree
  others : List Tree
  derives : Branches d s (done (first ∷ others) t)
  is : choice (first ∷ others) ≡ r

others_of : (d : ℕ) (s : State) (r : Tree) (t : State) (q : Outcome (List Tree)) →
    ◌≡◌ {A = Outcome Tree} (done r t) (mapped choice q) → Branches d s q → HasSome q → Others d s r t
unfolding tree_in state_in
others_of d s r t (done [] u) e b h = absurd h
others_of d s r t (done (x ∷ l) u) e b h = record {
  first = x;
  others = l;
  derives = subst (λ w. Branches d s (done (x ∷ l) w)) (sym (ap (state_in t) e)) b;
  is = sym (ap (tree_in r) e);
}
others_of d s r t (failed f) e b h = absurd cc

others : {d : ℕ} {s : State} {r : Tree} {t : State} → Alternation d s (done r t) → Others d s r t
others {d} {s} {r} {t} a = let (q, e, b) = alternation_of a in others_of d s r t q e b (some_branches b)

-- ---- a raw tree and what it becomes

-- one of the two is not Empty
one_solid : (a b p q : Bool) → (a ≡ false → p ≡ false) → (b ≡ false → q ≡ false) → (a && b) ≡ false → (p && q) ≡ false
one_solid true true p q x y h = absurd (true≢false h)
one_solid true false p q x y h = ap (λ q. p && q) (y refl) ∙ and-false p
one_solid false b p q x y h = ap (λ p. p && q) (x refl)

raw_alt : (μ : GroupInfo) (s : Text) (r : Tree) (c : ℕ) → is_raw_group r ≡ false → AreGroups μ s c (items r) →
    is_alt (resolved_in 0 μ.numbered_groups_ignored (info_numbers μ) c r) ≡ is_alt r
raw_alt μ s (ast_group m p t) c g h = absurd (true≢false g)
raw_alt μ s (ast_node r p) c g h =
    node_determined is_alt false (info_meaning μ c r) r p (λ n i. refl) (λ n l i. refl) (λ n. refl) (λ n l. refl)
    (λ q. refl)
    h.0
raw_alt μ s (row label.concat ts) c g h = refl
raw_alt μ s (row label.alt ts) c g h = refl
raw_alt μ s (row label.expression ts) c g h = refl
raw_alt μ s (row label.conditional ts) c g h = refl
raw_alt μ s _ c g h = refl

stays_one : (μ : GroupInfo) (s : Text) (c : ℕ) (r x : Tree) → Becomes μ s c r x → is_alt x ≡ false → is_alt r ≡ false
stays_one μ s c (ast_group m p t) x b e = refl
stays_one μ s c r x b e = at r refl b
  where
    at : (r : Tree) → is_raw_group r ≡ false → Becomes μ s c r x → is_alt r ≡ false
    at r g b =
        let resolves = resolved_in 0 μ.numbered_groups_ignored (info_numbers μ) c r in
        sym (raw_alt μ s r c g b.groups)
        ∙ (sym (alt_unpositioned resolves) ∙ (ap is_alt (becomes_plain μ s c r x b) ∙ (alt_unpositioned x ∙ e)))

-- what is no Alt is one branch
abbrev OneBranch : Tree → Type 0
OneBranch r = ◌≡◌ {A = Tree × Tree} (branches_of r) (r, empty)

alone : (r : Tree) → is_alt r ≡ false → OneBranch r
alone (row label.alt ts) e = absurd cc
alone _ e = refl

listed_trees : (l : List Tree) → list_of (trees_of l) ≡ l
listed_trees [] = refl
listed_trees (t ∷ l) = ap (λ m. t ∷ m) (listed_trees l)

-- ---- a body

some_left : (t v : Text) (c : ℕ) (u : Text) → t ≡ c ∷ u → (bytes v == bytes (t ++ v)) ≡ false
unfolding bytes
some_left t v c u e = ne_eqb (bytes v) (bytes (t ++ v)) (omega (arith, bytes-append t v, ap bytes e, len_utf8_bounds c))

bar_left : (t u v : Text) → (bytes v == bytes (t ++ code "|" ∷ (u ++ v))) ≡ false
unfolding bytes
bar_left t u v =
    ne_eqb (bytes v) (bytes (t ++ code "|" ∷ (u ++ v)))
    (omega (arith, bytes-append t (code "|" ∷ (u ++ v)), bytes-append u v))

-- the body of a conditional with the raw condition k is read as these branches
record BodyAt (μ : GroupInfo) (d : ℕ) (k : Tree) (j : Context) (s v : Text) (t e : Tree) : Type 0 where
  end_flags : Flags
  one : Tree
  other : Tree
  derives : Body d k (st j.flags s) (done (conditional_of k one other) (st end_flags v))
  one_becomes : Becomes μ s j.opened one t
  other_becomes : Becomes μ s (j.opened + group_count t) other e
  solid : (is_empty one && is_empty other) ≡ false

closed_body : (k r : Tree) (left : ℕ) (g : Flags) (v : Text) (a b : Tree) →
    (bytes (code ")" ∷ v) == left) ≡ false → ◌≡◌ {A = Tree × Tree} (branches_of r) (a, b) →
    conditional_after k left r (st g (code ")" ∷ v)) ≡ done (conditional_of k a b) (st g v)
closed_body k r left g v a b e is =
    cond-false _ _ _ (ap (λ y. y && not (is_condition k)) e)
    ∙ ap (λ (p : Tree × Tree). closed (conditional_of k p.0 p.1) (st g (code ")" ∷ v))) is

-- inside a group at depth d, after n groups with a number
abbrev within : ℕ → Flags → ℕ → Context
within d f n = record { flags = f; opened = n; depth = d + 1 }

two_body : (μ : GroupInfo) (d : ℕ) (k : Tree) (f : Flags) (n : ℕ) (t u v : Text) (g i : Flags) (x e : Tree) →
    (is_empty x && is_empty e) ≡ false →
    BranchAt μ (within d f n) (t ++ code "|" ∷ (u ++ code ")" ∷ v)) g (code "|" ∷ (u ++ code ")" ∷ v)) x →
    WholeAt μ (past_groups (group_count x) (under g (within d f n))) (u ++ code ")" ∷ v) i (code ")" ∷ v) e →
    BodyAt μ d k (within d f n) (t ++ code "|" ∷ (u ++ code ")" ∷ v)) v x e
two_body μ d k f n t u v g i x e some b w =
    let s = t ++ code "|" ∷ (u ++ code ")" ∷ v) in
    let o = others w.derives in
    let rest = o.first ∷ o.others in
    let other = choice (list_of (trees_of rest)) in
    let same : other ≡ w.tree = ap choice (listed_trees rest) ∙ o.is in
    record {
      end_flags = i;
      one = b.tree;
      other = other;
      derives =
          subst (Body d k (st f s))
          (closed_body k (choice (b.tree ∷ rest)) (bytes s) i v b.tree other (bar_left t u (code ")" ∷ v)) refl)
          (the_body (alternation (more b.derives refl o.derives)));
      one_becomes = b.becomes;
      other_becomes =
          in_longer μ (u ++ code ")" ∷ v) s (
            t ++ codes "|",
            sym
                (append_assoc t (codes "|") (u ++ code ")" ∷ v)),
          ) _ other e
          (subst (λ r. Becomes μ (u ++ code ")" ∷ v) (n + group_count x) r e) (sym same) w.becomes);
      solid = one_solid (is_empty x) (is_empty e) (is_empty b.tree) (is_empty other)
          (stays_solid μ s n b.tree x b.becomes)
          (λ q. ap is_empty same ∙ stays_solid μ _ _ w.tree e w.becomes q) some;
    }

one_body : (μ : GroupInfo) (d : ℕ) (k : Tree) (f : Flags) (n : ℕ) (t v : Text) (g : Flags) (x : Tree) (c : ℕ) (u : Text) →
    t ≡ c ∷ u → is_alt x ≡ false →
    (b : BranchAt μ (within d f n) (t ++ code ")" ∷ v) g (code ")" ∷ v) x) → is_empty b.tree ≡ false →
    BodyAt μ d k (within d f n) (t ++ code ")" ∷ v) v x (leaf label.empty)
one_body μ d k f n t v g x c u e a b solid = record {
  end_flags = g;
  one = b.tree;
  other = empty;
  derives =
      subst (Body d k (st f (t ++ code ")" ∷ v)))
      (closed_body k b.tree (bytes (t ++ code ")" ∷ v)) g v b.tree empty (some_left t (code ")" ∷ v) c u e)
      (alone b.tree (stays_one μ _ n b.tree x b.becomes a)))
      (the_body (alternation (last b.derives refl)));
  one_becomes = b.becomes;
  other_becomes = record { is = λ n u e. refl; count = refl; groups = tt };
  solid = ap (λ q. q && true) solid;
}

-- two Empties, the first in a group without a number
nothing_body : (μ : GroupInfo) (d : ℕ) (k : Tree) (f : Flags) (n : ℕ) (v : Text) →
    d + 1 + 1 < max_depth → μ.numbered_groups_ignored ≡ true →
    BodyAt μ d k (within d f n) (codes "()" ++ code ")" ∷ v) v (leaf label.empty) (leaf label.empty)
nothing_body μ d k f n v l ignored =
    let i = within d f n in
    let b = bare_branch μ i (codes "()" ++ code ")" ∷ v) (code ")" ∷ v) empty
    (begins_nothing f.ignore_space (code ")" ∷ v)) (ends_close f.ignore_space v).stops
    (reads_nothing μ i (code ")" ∷ v) l ignored) in
    one_body μ d k f n (codes "()") v f empty (code "(") (codes ")") refl refl b.branch b.solid

-- ---- the text of a body

begun : (x : Bool) (t : Text) → Begins x (t ++ []) → (c : ℕ) × (u : Text) × (t ≡ c ∷ u)
begun x [] b = absurd (false≢true (sym b.goes))
begun x (c ∷ t) b = (c, t, refl)

empty_is : (x : Tree) → is_empty x ≡ true → leaf label.empty ≡ x
empty_is (leaf label.empty) e = refl
empty_is _ e = absurd cc

module _ (μ : GroupInfo) (d : ℕ) (k : Tree) (f : Flags) (c : ℕ) (t e : Tree) (v : Text)
    (solid : (is_empty t && is_empty e) ≡ false) (r : ReadsTree μ t (within d f c))
    (q : ReadsTree μ e (after t BranchAlone (within d f c))) (first_fits : Fits t BranchAlone (within d f c))
    (second_fits : Fits e Whole (after t BranchAlone (within d f c))) where
  abbrev first_text : Text
  first_text = written μ t BranchAlone (within d f c)

  abbrev second_text : Text
  second_text = written μ e Whole (after t BranchAlone (within d f c))

  abbrev text_if : Bool → Text
  text_if b = first_text ++ (if b then codes "|" ++ second_text else [])

  body_if : (b : Bool) → (not (is_empty e) || is_alt t) ≡ b →
      BodyAt μ d k (within d f c) (text_if b ++ code ")" ∷ v) v t e
  body_if true h =
      let u = second_text ++ code ")" ∷ v in
      subst (λ s. BodyAt μ d k (within d f c) s v t e) (sym (append_assoc first_text (codes "|" ++ second_text)
      (code ")" ∷ v)))
      (two_body μ d k f c first_text second_text v _ _ t e solid
      (r.branch first_fits (code "|" ∷ u) (stops_bar f.ignore_space u))
      (q.whole second_fits (code ")" ∷ v) (ends_close _ v)))
  body_if false h =
      let (a, b) = or_parts (not (is_empty e)) (is_alt t) h in
      let none : is_empty e ≡ true = sym (not-not (is_empty e)) ∙ ap not a in
      let some : is_empty t ≡ false = sym (and-true (is_empty t)) ∙ (ap (λ y. is_empty t && y) (sym none) ∙ solid) in
      let (z, u, is) = begun f.ignore_space first_text (r.branch_begins first_fits some []) in
      subst (λ s. BodyAt μ d k (within d f c) (s ++ code ")" ∷ v) v t e) (sym (append-nil first_text))
      (subst (BodyAt μ d k (within d f c) (first_text ++ code ")" ∷ v) v t) (empty_is e none)
      (let a = r.branch first_fits (code ")" ∷ v) (ends_close f.ignore_space v).stops in
      one_body μ d k f c first_text v _ t z u is b a (stays_solid μ _ c a.tree t a.becomes some)))

  solid_body : BodyAt μ d k (within d f c) (branches_text t e first_text second_text ++ code ")" ∷ v) v t e
  solid_body =
      subst (λ s. BodyAt μ d k (within d f c) (s ++ code ")" ∷ v) v t e) (sym (cond-false _ _ _ solid))
      (body_if (not (is_empty e) || is_alt t) refl)

module _ (μ : GroupInfo) (d : ℕ) (k : Tree) (f : Flags) (c : ℕ) (t e : Tree) (v : Text)
    (left : μ.numbered_groups_ignored ≡ false → (is_empty t && is_empty e) ≡ false)
    (fits : MayOpenIf (is_empty t && is_empty e) (within d f c)) (r : ReadsTree μ t (within d f c))
    (q : ReadsTree μ e (after t BranchAlone (within d f c))) (first_fits : Fits t BranchAlone (within d f c))
    (second_fits : Fits e Whole (after t BranchAlone (within d f c))) where
  abbrev both_text : Text
  both_text =
      branches_text t e (written μ t BranchAlone (within d f c))
      (written μ e Whole (after t BranchAlone (within d f c)))

  body_at : BodyAt μ d k (within d f c) (both_text ++ code ")" ∷ v) v t e
  body_at = by_test (is_empty t && is_empty e) refl
    where
      by_test : (b : Bool) → (is_empty t && is_empty e) ≡ b →
          BodyAt μ d k (within d f c) (both_text ++ code ")" ∷ v) v t e
      by_test false h = solid_body μ d k f c t e v h r q first_fits second_fits
      by_test true h =
          let (a, b) = and_parts (is_empty t) (is_empty e) h in
          let ignored = by_left μ.numbered_groups_ignored (λ n. sym h ∙ left n) in
          subst (λ s. BodyAt μ d k (within d f c) (s ++ code ")" ∷ v) v t e) (sym (cond-true _ _ _ h))
          (subst (λ x. BodyAt μ d k (within d f c) (codes "()" ++ code ")" ∷ v) v x e) (empty_is t a)
          (subst (BodyAt μ d k (within d f c) (codes "()" ++ code ")" ∷ v) v empty) (empty_is e b)
          (nothing_body μ d k f c v (fits h) ignored)))

-- ---- a condition before a body

-- after `(?(`, the text and a closing parenthesis are read as the condition, and these flags hold after it
pub record Before (μ : GroupInfo) (i : Context) (s : Text) (g : Flags) (c : Tree) : Type 0 where
  pub node : Text → Tree
  pub becomes : (z : Text) → Becomes μ (s ++ code ")" ∷ z) i.opened (node z) c
  pub leads : (z v : Text) (r : Tree) (f : Flags) → Body i.depth (node z) (st g z) (done r (st f v)) →
      Atom i.depth (st i.flags (codes "(?(" ++ (s ++ code ")" ∷ z))) (done r (st i.flags v))

regroup : (c b r : Text) → ((code "(" ∷ (c ++ code ")" ∷ [])) ++ b) ++ r ≡ code "(" ∷ (c ++ code ")" ∷ (b ++ r))
regroup c b r =
    append_assoc (code "(" ∷ (c ++ code ")" ∷ [])) b r
    ∙ ap (λ z. code "(" ∷ z) (append_assoc c (code ")" ∷ []) (b ++ r))

module _ (μ : GroupInfo) where
  with_body : (i : Context) (s z v : Text) (g : Flags) (c t e : Tree) → (b : Before μ i s g c) →
      BodyAt μ i.depth (b.node z) (within i.depth g (i.opened + group_count c)) z v t e →
      AtomAt μ i (codes "(?(" ++ (s ++ code ")" ∷ z)) v (conditional c t e)
  with_body i s z v g c t e b y =
      let is : conditional_of (b.node z) y.one y.other ≡ conditional (b.node z) y.one y.other
      = cond-false _ _ _ y.solid in
      let all = codes "(?(" ++ (s ++ code ")" ∷ z) in
      let inner : EndsWith all z
      = (codes "(?(" ++ (s ++ codes ")"), sym (ap (λ w. codes "(?(" ++ w) (append_assoc s (codes ")") z))) in
      record {
        tree = conditional_of (b.node z) y.one y.other;
        derives = b.leads z v _ y.end_flags y.derives;
        becomes =
            subst (λ r. Becomes μ all i.opened r (conditional c t e)) (sym is)
            (row_becomes μ _ label.conditional (b.node z ∷ y.one ∷ y.other ∷ []) (c ∷ t ∷ e ∷ []) i.opened (
              in_longer μ (s ++ code ")" ∷ z) _ (codes "(?(", refl) _ (b.node z) c (b.becomes z),
              (
                in_longer μ z _ inner _ y.one t y.one_becomes,
                (in_longer μ z _ inner _ y.other e y.other_becomes, tt),
              ),
            ));
      }

  pub conditional_reads : (h : Context) (c t e : Tree) →
      (μ.numbered_groups_ignored ≡ false → (is_empty t && is_empty e) ≡ false) →
      let j = under (settled h.flags (conditional c t e)) h in let i = deeper j in
      (MayOpen j → FitsAsCondition c (Fits c Whole i) →
      Before μ j (condition_text μ c (written μ c Whole i)) (flags_after c Whole j.flags) c) →
      ReadsTree μ t (after c Whole i) → ReadsTree μ e (after t BranchAlone (after c Whole i)) →
      ReadsTree μ (conditional c t e) h
  conditional_reads h c t e left before q u =
      let x = conditional c t e in
      let i = under (settled h.flags x) h in
      let j = after c Whole (deeper i) in
      let text = λ (k : Context).
      parenthesized (condition_text μ c (written μ c Whole k))
      ++ branches_text t e (written μ t BranchAlone (after c Whole k))
      (written μ e Whole (after t BranchAlone (after c Whole k))) in
      let s = condition_text μ c (written μ c Whole (deeper i)) in
      let all = in_parens (codes "?") text i in
      let same = parens_text (codes "?") text i in
      let b = branches_text t e (written μ t BranchAlone j) (written μ e Whole (after t BranchAlone j)) in
      let whole_text = λ (v : Text). same v ∙ ap (λ z. codes "(?" ++ z) (regroup s b (code ")" ∷ v)) in
      by_atom μ x h refl (Fits x Whole h) (Fits x Whole h) all _ (λ d. d.0)
      (λ _ v. subst (Begins h.flags.ignore_space) (sym (same v))
      (begins_by h.flags.ignore_space (code "(") _ refl refl refl refl))
      (λ d v y _. let a = before d.1.0 d.1.1.0 in let z = b ++ code ")" ∷ v in
      subst (λ z. AtomAt μ i z v x) (sym (whole_text v))
      (with_body i s z v _ c t e a
      (body_at μ i.depth (a.node z) j.flags j.opened t e v left d.1.1.1 q u d.1.1.2 d.1.1.3)))
      refl (λ e. ((λ d. d), refl)) (λ _ e. absurd (true≢false e))
