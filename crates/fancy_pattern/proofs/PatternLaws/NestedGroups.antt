-- A group nests in its text no deeper than in the pattern, if its contents do.
use Rattle.std.proofs.Common.{◌≡◌, ℕ, ◌+◌, ◌<◌, Bool, true, false, ◌&&◌, List, Option}
use Rattle.std.proofs.Common.{refl, sym, ap, ◌∙◌, subst, arith}
use Rattle.std.proofs.lemmas.Bool.{cond_both, false≢true, and_parts}
use Rattle.std.specs.List.{AllByRecursion}
use Rattle.std.specs.Prelude.{ℤ}
use Rattle.fancy_lex.specs.Target.{Target}
use Rattle.fancy_lex.specs.Text.{Text, position_at}
use Rattle.fancy_lex.specs.declared.flags.Flags.{Flags}
use Rattle.fancy_grammar.specs.Meaning.{Meaning, number, refers_to}
use Rattle.fancy_grammar.specs.Ranks.{is_counted}
use Rattle.fancy_grammar.specs.Depth.{max_depth}
use Rattle.fancy_grammar.specs.Grammar.{branches_of, conditional_of, clear_or_stopper}
use Rattle.fancy_grammar.specs.GroupKind.{GroupKind, capture, flag_group, look, atomic, define, repeater, group_node}
use Rattle.fancy_grammar.specs.Items.{role_of, target_of}
use Rattle.fancy_grammar.specs.Join.{is_empty, choice}
use Rattle.fancy_grammar.specs.Label as label
use Rattle.fancy_grammar.specs.Label.{ast_condition}
use Rattle.fancy_grammar.specs.Resolved.{resolved_in, resolved_all, reference_node}
use Rattle.fancy_grammar.specs.State.{State}
use Rattle.fancy_grammar.specs.Tree.{Tree, leaf, over, row, Trees, no_trees, more_trees, list_of}
use Rattle.fancy_grammar.specs.declared.kinds.LookAround.{LookAround}
use Rattle.fancy_grammar.specs.declared.precedence.Precedence.{Precedence}
use Rattle.fancy_grammar.specs.declared.precedence.Precedence.TheVariants.{Whole, Branch}
use Rattle.fancy_grammar.proofs.PatternDepth.{FitsAsCondition}
use Rattle.fancy_pattern.proofs.NeedsLemmas.{listed}
use Rattle.fancy_pattern.proofs.PatternLaws.AtomStart.{IsLast, IsTarget}
use Rattle.fancy_pattern.proofs.PatternLaws.Fitting.{Fit, IsLow, fit_alone, alone_fit, SuitsLast, enclosed_fit}
use Rattle.fancy_pattern.proofs.PatternLaws.Fitting.{group_fit, look_fit, atomic_fit}
use Rattle.fancy_pattern.proofs.PatternLaws.Fitting.{define_fit, repeater_fit, stopper_fit, expression_fit, FitsOrTarget}
use Rattle.fancy_pattern.proofs.PatternLaws.Fitting.{conditional_fit, leaf_fit}
use Rattle.fancy_pattern.proofs.PatternLaws.Nested.{never_operand, Fitted, EachFitted, BranchesFitted, Part}
use Rattle.fancy_pattern.proofs.PatternLaws.Nested.{Grouped, fewer, counted_in, open_leaf, empty_fitted}
use Rattle.fancy_pattern.proofs.PatternLaws.Nested.{choice_fitted}
use Rattle.fancy_pattern.proofs.PatternLaws.Suited.{none_met, Suits, SuitAll}

pub as_condition : (c : Tree) (F : Type 0) → F → FitsAsCondition c F
as_condition (leaf (label.backref_exists n level)) F k = tt
as_condition (leaf (label.verb v)) F k = tt
as_condition c F k = k

module _ (in_mode : Bool) (z : ℕ) (named : Bool) (numbers_of : Text → List ℕ) where
  abbrev R : ℕ → Tree → Tree
  R = resolved_in z named numbers_of

  -- ---- at a smaller depth

  less : (k d : ℕ) (r : Tree) → d + 1 < max_depth → Fitted in_mode R k (d + 1) r → Fitted in_mode R k d r
  less k d r b h = record {
    fits = λ c p u i o l q. h.fits c p u i o (omega (arith, l)) q;
    alone = λ c p i o l a q. h.alone c p i o (omega (arith, l)) a q;
    hollow = λ c e n. b;
  }

  less_each : (k d : ℕ) (ts : Trees) → d + 1 < max_depth → EachFitted in_mode R k (d + 1) ts →
      EachFitted in_mode R k d ts
  less_each k d no_trees b h = tt
  less_each k d (more_trees t ts) b h = (less k d t b h.0, less_each k d ts b h.1)

  less_branches : (d : ℕ) (r : Tree) → d + 1 < max_depth → BranchesFitted in_mode R (d + 1) r →
      BranchesFitted in_mode R d r
  less_branches d (row label.alt (more_trees t ts)) b h = less_each 1 d (more_trees t ts) b h
  less_branches d (row label.alt no_trees) b h = less 1 d _ b h
  less_branches d r b h = less 1 d r b h

  -- what fits wherever it is written
  grouped_as : (d : ℕ) → d + 1 < max_depth → (x : Tree) → ((c : ℕ) (p : Precedence) → Fit in_mode d p (R c x)) →
      (Fitted in_mode R 1 d x → BranchesFitted in_mode R d x) → Grouped in_mode R d x
  grouped_as d b x k j =
      let all : Fitted in_mode R 3 d x = record {
        fits = λ c p u. k c p;
        alone = λ c p. fit_alone in_mode d p (R c x) (k c p);
        hollow = λ c e n. b;
      } in
      record { opens = b; fitted = all; branches = j (fewer in_mode R 1 3 d x (omega arith) all) }

  -- ---- the contents of a group, which are read from s

  module _ (d : ℕ) (b : d + 1 < max_depth) (s : State) (o : s.flags.oniguruma_mode ≡ in_mode) (r : Tree) (t : State)
      (h : Part in_mode R 0 (d + 1) s r t) where
    abbrev f : Flags
    f = s.flags

    suits_last : (c : ℕ) → SuitsLast in_mode d b f o (R c r)
    suits_last c x = h.suits x c

    inside : (c : ℕ) → Fit in_mode (d + 1) Whole (R c r)
    inside c = h.fitted.fits c Whole tt

    alone : (c : ℕ) (p : Precedence) → Fit in_mode d p (R c r)
    alone c p = enclosed_fit in_mode d b f o (R c r) (inside c) (suits_last c) p (h.fitted.alone c p)

    look_grouped : (a : LookAround) → Grouped in_mode R d (over (label.look_around a) r)
    look_grouped a =
        let x = over (label.look_around a) r in
        let fit = λ (c : ℕ) (p : Precedence) (u : IsLow p).
        look_fit in_mode d b f o (R c r) (inside c) (suits_last c) a p u in
        let all : Fitted in_mode R 3 d x = record {
          fits = λ c p u. fit c p (never_operand in_mode 3 x p f o refl u);
          alone = λ c p. alone_fit in_mode d p (R c x) tt (fit c Whole tt);
          hollow = λ c e n. b;
        } in
        record { opens = b; fitted = all; branches = fewer in_mode R 1 3 d x (omega arith) all }

    pub group_grouped : (g : GroupKind) (position : ℕ) → Grouped in_mode R d (group_node g position r)
    group_grouped (capture name) position =
        grouped_as d b (over (label.ast_group name position) r)
        (λ c p. cond_both (is_counted named name) _ _ (Fit in_mode d p)
        (λ _. group_fit in_mode d b f o (R (c + 1) r) (inside (c + 1)) (suits_last (c + 1)) p)
        (λ _. alone c p)) (λ k. k)
    group_grouped flag_group position = grouped_as d b r alone (λ _. less_branches d r b h.branches)
    group_grouped (look a) position = look_grouped a
    group_grouped atomic position =
        grouped_as d b (over label.atomic_group r)
        (λ c p. atomic_fit in_mode d b f o (R c r) (inside c) (suits_last c) p (h.fitted.alone c p)) (λ k. k)
    group_grouped define position =
        grouped_as d b (over label.define_group r)
        (λ c p. define_fit in_mode d b f o (R c r) (inside c) (suits_last c) p) (λ k. k)
    group_grouped repeater position =
        grouped_as d b (over label.repeater r)
        (λ c p. repeater_fit in_mode d b f o (R c r) (inside c) (suits_last c) p) (λ k. k)

    -- a condition that is an alternation
    pub condition_fitted : (c : ℕ) → FitsOrTarget in_mode d b f o (R c r)
    condition_fitted c = as_condition (R c r) (Fit in_mode (d + 1) Whole (R c r)) (h.fitted.fits c Whole tt)

    pub condition_alone : Grouped in_mode R d r
    condition_alone = grouped_as d b r alone (λ _. less_branches d r b h.branches)

  -- ---- absent expressions

  module _ (d : ℕ) (b : d + 1 < max_depth) (f : Flags) (o : f.oniguruma_mode ≡ in_mode) where
    pub expression_grouped : (a e : Tree) → Fitted in_mode R 1 (d + 1) a → Fitted in_mode R 1 (d + 1) e →
        (IsLast (d + 1) → (c : ℕ) → Suits f (R c a)) → (IsLast (d + 1) → (c : ℕ) → Suits f (R c e)) →
        Grouped in_mode R d (row label.expression (more_trees a (more_trees e no_trees)))
    expression_grouped a e h k s q =
        grouped_as d b (row label.expression (more_trees a (more_trees e no_trees)))
        (λ c p. let n = c + counted_in named a in
        expression_fit in_mode d b f o (R c a) (R n e) (h.fits c Branch (omega arith)) (k.fits n Branch (omega arith))
        (λ x. (s x c, (q x n, tt))) p) (λ k. k)

    pub stopper_grouped : (a : Tree) → Fitted in_mode R 1 (d + 1) a → (IsLast (d + 1) → (c : ℕ) → Suits f (R c a)) →
        Grouped in_mode R d (clear_or_stopper a)
    stopper_grouped a h s =
        cond_both (is_empty a) _ _ (Grouped in_mode R d) (λ _. open_leaf in_mode z named numbers_of d label.clear b)
        (λ e. grouped_as d b (over label.stopper a)
        (λ c p. stopper_fit in_mode d b f o (R c a) (h.fits c Branch (omega arith)) (λ x. s x c)
        (λ x. h.hollow c x e) p)
        (λ k. k))

    -- ---- conditionals

    each_listed : (ts : Trees) → EachFitted in_mode R 1 (d + 1) ts →
        AllByRecursion (Fitted in_mode R 1 (d + 1)) (list_of ts)
    each_listed no_trees h = tt
    each_listed (more_trees t ts) h = (h.0, each_listed ts h.1)

    -- for the body of a conditional
    branches_are : (r : Tree) → BranchesFitted in_mode R (d + 1) r →
        Fitted in_mode R 1 (d + 1) (branches_of r).0 × Fitted in_mode R 0 (d + 1) (branches_of r).1
    branches_are (row label.alt (more_trees t ts)) h =
        (h.0, choice_fitted in_mode z named numbers_of (d + 1) (list_of ts) (each_listed ts h.1))
    branches_are (row label.alt no_trees) h = (h, empty_fitted in_mode z named numbers_of 0 (d + 1))
    branches_are r h = (h, empty_fitted in_mode z named numbers_of 0 (d + 1))

    others_suit : (ts : Trees) (c : ℕ) → SuitAll f (resolved_all z named numbers_of c ts) →
        Suits f (R c (choice (list_of ts)))
    others_suit no_trees c h = none_met f
    others_suit (more_trees t no_trees) c h = h.0
    others_suit (more_trees t (more_trees u us)) c h =
        subst (λ ts. SuitAll f (resolved_all z named numbers_of c ts)) (sym (listed (more_trees t (more_trees u us)))) h

    branches_suit : (r : Tree) (c : ℕ) → Suits f (R c r) →
        Suits f (R c (branches_of r).0)
        × Suits f (R (c + counted_in named (branches_of r).0) (branches_of r).1)
    branches_suit (row label.alt (more_trees t ts)) c h = (h.0, others_suit ts _ h.1)
    branches_suit (row label.alt no_trees) c h = (h, none_met f)
    branches_suit r c h = (h, none_met f)

    -- if a branch is not Empty, it does not resolve to an Empty either, or a group may open in the conditional
    not_hollow : (t e : Tree) (c n : ℕ) → Fitted in_mode R 1 (d + 1) t → Fitted in_mode R 0 (d + 1) e →
        (is_empty t && is_empty e) ≡ false → (is_empty (R c t) && is_empty (R n e)) ≡ true → d + 1 + 1 < max_depth
    not_hollow t e c n h k x y = by_test (is_empty t) refl
      where
        by_test : (a : Bool) → is_empty t ≡ a → d + 1 + 1 < max_depth
        by_test false i = h.hollow c (and_parts _ _ y).0 i
        by_test true i = k.hollow n (and_parts _ _ y).1 (sym (ap (λ a. a && is_empty e) i) ∙ x)

    pub conditional_grouped : (c r : Tree) → Grouped in_mode R d c → ((n : ℕ) → FitsOrTarget in_mode d b f o (R n c)) →
        (IsLast (d + 1) → (n : ℕ) → Suits f (R n c)) → BranchesFitted in_mode R (d + 1) r →
        (IsLast (d + 1) → (n : ℕ) → Suits f (R n r)) →
        Grouped in_mode R d (conditional_of c (branches_of r).0 (branches_of r).1)
    conditional_grouped c r single k s h q =
        let t = (branches_of r).0 in
        let e = (branches_of r).1 in
        let both = branches_are r h in
        cond_both (is_empty t && is_empty e) _ _ (Grouped in_mode R d) (λ _. single)
        (λ x. grouped_as d b (row label.conditional (more_trees c (more_trees t (more_trees e no_trees))))
        (λ n p. let i = n + counted_in named c in
        let j = i + counted_in named t in
        conditional_fit in_mode d b f o (R n c) (R i t) (R j e) (k n) (both.0.fits i Branch (omega arith))
        (both.1.fits j Whole tt)
        (not_hollow t e i j both.0 both.1 x)
        (λ y. let w = branches_suit r i (q y i) in (s y n, (w.0, (w.1, tt)))) p) (λ k. k))

    -- a condition that is a target or a verb
    pub target_grouped : (c : Tree) → IsTarget c → Grouped in_mode R d c
    target_grouped (leaf l) h = open_leaf in_mode z named numbers_of d l b
    target_grouped (over w c) h = absurd h
    target_grouped (row w cs) h = absurd h

    reference_fitted : (m : Meaning) (t : Target) (level : Option ℤ) (position : ℕ) →
        FitsOrTarget in_mode d b f o (reference_node z m (ast_condition t level) position)
    reference_fitted (number k) t level position = tt
    reference_fitted m t level position =
        leaf_fit in_mode (label.ast_node (ast_condition t level) (position_at z position)) (d + 1) Whole refl
        (λ _ g o. refl)
        (λ e. absurd (false≢true e))

    target_needs : (m : Meaning) (t : Target) (level : Option ℤ) (position : ℕ) →
        Suits f (reference_node z m (ast_condition t level) position)
    target_needs (number k) t level position = none_met f
    target_needs m t level position = none_met f

    pub target_fitted : (c : Tree) → IsTarget c → (n : ℕ) → FitsOrTarget in_mode d b f o (R n c)
    target_fitted (leaf (label.verb v)) h n = tt
    target_fitted (leaf (label.ast_node (ast_condition t level) position)) h n =
        reference_fitted (refers_to numbers_of n (role_of (ast_condition t level)) (target_of (ast_condition t level))) t
        level position
    target_fitted _ h n = absurd h

    pub target_suits : (c : Tree) → IsTarget c → (n : ℕ) → Suits f (R n c)
    target_suits (leaf (label.verb v)) h n = none_met f
    target_suits (leaf (label.ast_node (ast_condition t level) position)) h n =
        target_needs (refers_to numbers_of n (role_of (ast_condition t level)) (target_of (ast_condition t level))) t
        level position
    target_suits _ h n = absurd h
