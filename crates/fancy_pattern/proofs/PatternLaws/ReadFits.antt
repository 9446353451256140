-- What is read nests in its text no deeper than in the pattern, so the text of every parsed tree fits. By one induction
-- on the derivation.
use Rattle.std.proofs.Common.{◌≡◌, ℕ, ◌+◌, ◌<◌, Bool, not, ◌&&◌, ◌==◌, List, [], ◌∷◌, refl, sym, length}
use Rattle.std.proofs.Common.{◌∙◌, subst, arith, inl}
use Rattle.std.proofs.lemmas.Bool.{cond_both}
use Rattle.std.specs.List.{AllByRecursion}
use Prim.Native.Char.{code}
use Rattle.fancy_lex.specs.Text.{Text, bytes, reach_of, strip}
use Rattle.fancy_lex.specs.declared.flags.Flags.{Flags}
use Rattle.fancy_grammar.specs.Ranks.{only_named}
use Rattle.fancy_grammar.specs.AtomStart.{AtomStart, nothing, read, of_kind, condition, body, absent_branch}
use Rattle.fancy_grammar.specs.ParseResult.{IsTreeOf}
use Rattle.fancy_grammar.specs.Depth.{max_depth}
use Rattle.fancy_grammar.specs.Grammar.{Alternation, alternation, Branches, last, more, branch_error, Branch, branch}
use Rattle.fancy_grammar.specs.Grammar.{Pieces, stop, next, piece_error, Piece, piece, layout_error, Atom, atom, AtomOf}
use Rattle.fancy_grammar.specs.Grammar.{a_nothing, a_read, a_group, a_condition, condition_error, a_body, two_branches}
use Rattle.fancy_grammar.specs.Grammar.{one_branch, absent_error, Inside, inside, Body, the_body, Whole, whole, start}
use Rattle.fancy_grammar.specs.Grammar.{closed, ended, branches_of, conditional_of, after_atom}
use Rattle.fancy_grammar.specs.Grammar.{restored}
use Rattle.fancy_grammar.specs.Grammar.{is_condition, clear_or_stopper}
use Rattle.fancy_grammar.specs.Items.{openings, numbers_in}
use Rattle.fancy_grammar.specs.Join.{join, choice}
use Rattle.fancy_grammar.specs.GroupInfo.{GroupInfo}
use Rattle.fancy_grammar.specs.PatternNeeds.{agreed}
use Rattle.fancy_grammar.specs.Resolved.{resolved_in, resolved}
use Rattle.fancy_grammar.specs.State.{State, at, Outcome, done, failed}
use Rattle.fancy_grammar.specs.Tree.{Tree, expression}
use Rattle.fancy_grammar.specs.declared.precedence.Precedence.TheVariants.{Whole as AsWhole}
use Rattle.fancy_grammar.proofs.PatternDepth.{Fits}
use Rattle.fancy_grammar.proofs.AtomStartLaws.{OpensBelow, start_below}
use Rattle.fancy_grammar.proofs.OutcomeLemmas.{Holds, then_holds}
use Rattle.fancy_pattern.proofs.PatternLaws.AtomStart.{IsLast, StartMode, start_mode, LeafRead}
use Rattle.fancy_pattern.proofs.PatternLaws.Fitting.{FitsOrTarget}
use Rattle.fancy_pattern.proofs.PatternLaws.Nested.{Part, Parts, Grouped}
use Rattle.fancy_pattern.proofs.PatternLaws.Nested.{leaf_part, empty_part, join_fitted, choice_is_fitted}
use Rattle.fancy_pattern.proofs.PatternLaws.Nested.{join_suits, choice_suits}
use Rattle.fancy_pattern.proofs.PatternLaws.NestedQuantifiers.{quants_part}
use Rattle.fancy_pattern.proofs.PatternLaws.NestedGroups.{group_grouped, condition_fitted, condition_alone}
use Rattle.fancy_pattern.proofs.PatternLaws.NestedGroups.{expression_grouped, stopper_grouped, conditional_grouped}
use Rattle.fancy_pattern.proofs.PatternLaws.NestedGroups.{target_grouped, target_fitted, target_suits}
use Rattle.fancy_pattern.proofs.PatternLaws.Suited.{Suits}
use Rattle.fancy_lex.proofs.ReadingLemmas.{choose_both}

closed_holds : (P : Tree → State → Type 0) (r : Tree) (s : State) → ((u : Text) → P r (at s u)) → Holds P (closed r s)
closed_holds P r s h = choose_both (Holds P) (strip (code ")") s.rest) _ _ (λ t e. h t) tt

ended_holds : (P : Tree → State → Type 0) (r : Tree) (s : State) → P r s → Holds P (ended r s)
ended_holds P r s h = cond_both (length s.rest == 0) _ _ (Holds P) (λ _. h) (λ _. tt)

each_flags : (R : ℕ → Tree → Tree) (f g : Flags) (l : List Tree) → f ≡ g →
    AllByRecursion (λ r. (c : ℕ) → Suits f (R c r)) l → AllByRecursion (λ r. (c : ℕ) → Suits g (R c r)) l
each_flags R f g l e h = subst (λ k. AllByRecursion (λ r. (c : ℕ) → Suits k (R c r)) l) e h

module _ (in_mode : Bool) (z : ℕ) (named : Bool) (numbers_of : Text → List ℕ) where
  abbrev R : ℕ → Tree → Tree
  R = resolved_in z named numbers_of

  -- an atom, by its start: after a group the flags from before it hold again
  abbrev AtomHolds : AtomStart → ℕ → State → Outcome Tree → Type 0
  AtomHolds nothing d s q = Holds (Part in_mode R 3 d s) q
  AtomHolds (read o) d s q = Holds (Part in_mode R 3 d s) q
  AtomHolds _ d s q = Holds (λ r t. Grouped in_mode R d r) q

  restored_part : (d : ℕ) (s : State) → s.flags.oniguruma_mode ≡ in_mode → (r : Tree) (t : State) →
      Grouped in_mode R d r → Part in_mode R 3 d s r (record t { flags = s.flags })
  restored_part d s o r t h = record {
    fitted = h.fitted;
    branches = h.branches;
    suits = λ x. absurd (omega (arith, x, h.opens));
    stays = λ x. refl;
    mode = o;
  }

  group_part : (d : ℕ) (s : State) → s.flags.oniguruma_mode ≡ in_mode → (q : Outcome Tree) →
      Holds (λ r t. Grouped in_mode R d r) q → Holds (Part in_mode R 3 d s) (restored s.flags q)
  group_part d s o (done r t) h = restored_part d s o r t h
  group_part d s o (failed e) h = tt

  after_part : (e : AtomStart) (d : ℕ) (s : State) → s.flags.oniguruma_mode ≡ in_mode → (q : Outcome Tree) →
      AtomHolds e d s q → Holds (Part in_mode R 3 d s) (after_atom e s.flags q)
  after_part nothing d s o q h = h
  after_part (read p) d s o q h = h
  after_part (of_kind a t) d s o q h = group_part d s o q h
  after_part (condition t) d s o q h = group_part d s o q h
  after_part (body c t) d s o q h = group_part d s o q h
  after_part (absent_branch t) d s o q h = group_part d s o q h

  leaf_holds : (d : ℕ) (s : State) (q : Outcome Tree) → Holds (LeafRead in_mode d s) q → Holds (Part in_mode R 3 d s) q
  leaf_holds d s (done r t) h = leaf_part in_mode z named numbers_of d s r t h
  leaf_holds d s (failed e) h = tt

  joined : (d : ℕ) (s : State) (l : List Tree) (t : State) → Parts in_mode R 2 d s l t → Part in_mode R 1 d s (join l) t
  joined d s l t h =
      let both = join_fitted in_mode z named numbers_of d l h.each in record {
        fitted = both.0;
        branches = both.1;
        suits = λ x. join_suits in_mode z named numbers_of s.flags l (h.suits x);
        stays = h.stays;
        mode = h.mode;
      }

  chosen : (d : ℕ) (s : State) (l : List Tree) (t : State) → Parts in_mode R 1 d s l t →
      Part in_mode R 0 d s (choice l) t
  chosen d s l t h =
      let both = choice_is_fitted in_mode z named numbers_of d l h.each in record {
        fitted = both.0;
        branches = both.1;
        suits = λ x. choice_suits in_mode z named numbers_of s.flags l (h.suits x);
        stays = h.stays;
        mode = h.mode;
      }

  one_part : (k d : ℕ) (s : State) (r : Tree) (t : State) → Part in_mode R k d s r t → Parts in_mode R k d s (r ∷ []) t
  one_part k d s r t h = record {
    each = ((h.fitted, h.branches), tt);
    suits = λ x. (h.suits x, tt);
    stays = h.stays;
    mode = h.mode;
  }

  -- one part, and the others after it, which begin at u
  more_parts : (k d : ℕ) (s : State) (r : Tree) (t u : State) (l : List Tree) (v : State) → u.flags ≡ t.flags →
      Part in_mode R k d s r t → Parts in_mode R k d u l v → Parts in_mode R k d s (r ∷ l) v
  more_parts k d s r t u l v e h i = record {
    each = ((h.fitted, h.branches), i.each);
    suits = λ x. (h.suits x, each_flags R u.flags s.flags l (e ∙ h.stays x) (i.suits x));
    stays = λ x. i.stays x ∙ e ∙ h.stays x;
    mode = i.mode;
  }

  -- a part that is written where it was read, with its closing parenthesis
  closed_part : (k d : ℕ) (s : State) (r : Tree) (t : State) → Part in_mode R k d s r t →
      Holds (Part in_mode R k d s) (closed r t)
  closed_part k d s r t h =
      closed_holds (Part in_mode R k d s) r t (λ u. record {
        fitted = h.fitted;
        branches = h.branches;
        suits = h.suits;
        stays = h.stays;
        mode = h.mode;
      })

  -- ---- the grammar

  mutual
    pub alternation_fits : {d : ℕ} {s : State} {q : Outcome Tree} → Alternation d s q → d < max_depth →
        s.flags.oniguruma_mode ≡ in_mode → Holds (Part in_mode R 0 d s) q
    alternation_fits (alternation {d} {s} {q} b) l o =
        then_holds (Parts in_mode R 1 d s) (Part in_mode R 0 d s) q _ (branches_fit b l o) (chosen d s)

    branches_fit : {d : ℕ} {s : State} {q : Outcome (List Tree)} → Branches d s q → d < max_depth →
        s.flags.oniguruma_mode ≡ in_mode → Holds (Parts in_mode R 1 d s) q
    branches_fit (last {d} {s} {t} {r} b e) l o = one_part 1 d s r t (branch_fits b l o)
    branches_fit (more {d} {s} {t} {u} {r} {q} b e m) l o =
        let h = branch_fits b l o in
        then_holds (Parts in_mode R 1 d (at t u)) (Parts in_mode R 1 d s) q _ (branches_fit m l h.mode)
        (λ rs v i. more_parts 1 d s r t (at t u) rs v refl h i)
    branches_fit (branch_error b) l o = branch_fits b l o

    branch_fits : {d : ℕ} {s : State} {q : Outcome Tree} → Branch d s q → d < max_depth →
        s.flags.oniguruma_mode ≡ in_mode → Holds (Part in_mode R 1 d s) q
    branch_fits (branch {d} {s} {q} b) l o =
        then_holds (Parts in_mode R 2 d s) (Part in_mode R 1 d s) q _ (pieces_fit b l o) (joined d s)

    pieces_fit : {d : ℕ} {s : State} {q : Outcome (List Tree)} → Pieces d s q → d < max_depth →
        s.flags.oniguruma_mode ≡ in_mode → Holds (Parts in_mode R 2 d s) q
    pieces_fit (stop e) l o = record { each = tt; suits = λ x. tt; stays = λ x. refl; mode = o }
    pieces_fit (next {d} {t} {r} {q} {s} e a m) l o =
        let h = piece_fits a l o in
        then_holds (Parts in_mode R 2 d t) (Parts in_mode R 2 d s) q _ (pieces_fit m l h.mode)
        (λ rs v i. more_parts 2 d s r t t rs v refl h i)
    pieces_fit (piece_error e a) l o = piece_fits a l o

    piece_fits : {d : ℕ} {s : State} {q : Outcome Tree} → Piece d s q → d < max_depth →
        s.flags.oniguruma_mode ≡ in_mode → Holds (Part in_mode R 2 d s) q
    piece_fits (piece {d} {s} {u} {q} e x) l o =
        then_holds (Part in_mode R 3 d (at s u)) (Part in_mode R 2 d s) q _ (atom_fits x l o)
        (λ a t h. quants_part in_mode z named numbers_of d (bytes s.rest) l s a t (record {
          fitted = h.fitted;
          branches = h.branches;
          suits = h.suits;
          stays = h.stays;
          mode = h.mode;
        }))
    piece_fits (layout_error e) l o = tt

    atom_fits : {d : ℕ} {s : State} {q : Outcome Tree} → Atom d s q → d < max_depth →
        s.flags.oniguruma_mode ≡ in_mode → Holds (Part in_mode R 3 d s) q
    atom_fits (atom {d} {s} {k = e} {q} is a) l o =
        after_part e d s o q
        (of_fits a l o (subst (StartMode in_mode d s) is (start_mode in_mode d s o))
        (subst (OpensBelow d) is (start_below d s)))

    of_fits : {k : AtomStart} {d : ℕ} {s : State} {q : Outcome Tree} → AtomOf k d s q → d < max_depth →
        s.flags.oniguruma_mode ≡ in_mode → StartMode in_mode d s k → OpensBelow d k → AtomHolds k d s q
    of_fits (a_nothing {d} {s}) l o h b = empty_part in_mode z named numbers_of d s o
    of_fits (a_read {d} {s} {o = q}) l o h b = leaf_holds d s q h
    of_fits (a_group {d} {s} {t} {h = kind} {q} i) l o h b =
        then_holds (Part in_mode R 0 (d + 1) t) (λ r v. Grouped in_mode R d r) q _ (inside_fits i b h)
        (λ r v k. group_grouped in_mode z named numbers_of d b t h r v k kind (reach_of s.rest))
    of_fits (a_condition {d} {s} {t} {v} {c} i m) l o h b =
        let k = inside_fits i b h in
        body_fits m k.mode b t.flags h k.stays (condition_alone in_mode z named numbers_of d b t h c v k)
        (condition_fitted in_mode z named numbers_of d b t h c v k) k.suits
    of_fits (condition_error i) l o h b = inside_fits i b h
    of_fits (a_body {d} {s} {t} {c} m) l o h b =
        body_fits m h.1 b t.flags h.1 (λ _. refl)
        (target_grouped in_mode z named numbers_of d b t.flags h.1 c h.0)
        (target_fitted in_mode z named numbers_of d b t.flags h.1 c h.0)
        (λ _. target_suits in_mode z named numbers_of d b t.flags h.1 c h.0)
    of_fits (two_branches {d} {s} {t} {v} {u} {a} {q} m e n) l o h b =
        let k = branch_fits m b h in
        then_holds (Part in_mode R 1 (d + 1) (at v u)) (λ r w. Grouped in_mode R d r) q _ (branch_fits n b k.mode)
        (λ r w i. closed_holds (λ r w. Grouped in_mode R d r) (expression a r) w
        (λ _. expression_grouped in_mode z named numbers_of d b t.flags h a r k.fitted i.fitted k.suits
        (λ x c. subst (λ f. Suits f (R c r)) (k.stays x) (i.suits x c))))
    of_fits (one_branch {d} {s} {t} {v} {a} m e) l o h b =
        let k = branch_fits m b h in
        closed_holds (λ r w. Grouped in_mode R d r) (clear_or_stopper a) v
        (λ _. stopper_grouped in_mode z named numbers_of d b t.flags h a k.fitted k.suits)
    of_fits (absent_error m) l o h b = branch_fits m b h

    inside_fits : {d : ℕ} {s : State} {q : Outcome Tree} → Inside d s q → d + 1 < max_depth →
        s.flags.oniguruma_mode ≡ in_mode → Holds (Part in_mode R 0 (d + 1) s) q
    inside_fits (inside {d} {s} {q} a) l o =
        then_holds (Part in_mode R 0 (d + 1) s) (Part in_mode R 0 (d + 1) s) q _ (alternation_fits a l o)
        (closed_part 0 (d + 1) s)

    -- the body of a conditional; if no group may open in it, its condition suits the flags f
    body_fits : {d : ℕ} {c : Tree} {s : State} {q : Outcome Tree} → Body d c s q → s.flags.oniguruma_mode ≡ in_mode →
        (b : d + 1 < max_depth) (f : Flags) (g : f.oniguruma_mode ≡ in_mode) → (IsLast (d + 1) → s.flags ≡ f) →
        Grouped in_mode R d c →
        ((n : ℕ) → FitsOrTarget in_mode d b f g (R n c)) → (IsLast (d + 1) → (n : ℕ) → Suits f (R n c)) →
        Holds (λ r t. Grouped in_mode R d r) q
    body_fits (the_body {d} {c} {s} {q} a) o b f g e single k y =
        then_holds (Part in_mode R 0 (d + 1) s) (λ r t. Grouped in_mode R d r) q _ (alternation_fits a b o)
        (λ r v i. cond_both (bytes v.rest == bytes s.rest && not (is_condition c)) _ _
        (Holds (λ r t. Grouped in_mode R d r))
        (λ _. tt)
        (λ _. closed_holds (λ r t. Grouped in_mode R d r) (conditional_of c (branches_of r).0 (branches_of r).1) v
        (λ _. conditional_grouped in_mode z named numbers_of d b f g c r single k y i.branches
        (λ x n. subst (λ j. Suits j (R n r)) (e x) (i.suits x n)))))

  pub whole_fits : {f : Flags} {text : Text} {q : Outcome Tree} → Whole f text q → f.oniguruma_mode ≡ in_mode →
      Holds (Part in_mode R 0 0 (start f text)) q
  whole_fits (whole {f} {text} {q} a) o =
      then_holds (Part in_mode R 0 0 (start f text)) (Part in_mode R 0 0 (start f text)) q _
      (alternation_fits a (omega arith) o)
      (ended_holds (Part in_mode R 0 0 (start f text)))

-- the text of each parsed tree fits
pub parsed_fits : (f : Flags) (text : Text) (t : Tree) (m : GroupInfo) → IsTreeOf f text t m →
    Fits t AsWhole (record { flags = agreed f t; opened = 0; depth = 0 })
parsed_fits f text t m h =
    let part = whole_fits f.oniguruma_mode (bytes text) (only_named f (openings h.0)) (numbers_in f h.0) (h.1).1 refl in
    subst (λ u. Fits u AsWhole (record { flags = agreed f u; opened = 0; depth = 0 })) (sym h.3)
    (part.fitted.fits 0 AsWhole tt
    (record { flags = agreed f (resolved f (bytes text) h.0); opened = 0; depth = 0 }) refl (omega arith)
    (inl (omega arith)))
