-- The text of a writable tree of fewer than 64 levels fits.
use Rattle.std.proofs.Common.{◌≡◌, ℕ, ◌+◌, ◌<◌, Bool, true, false, not, ◌&&◌, refl, arith}
use Rattle.std.proofs.lemmas.Bool.{false≢true}
use Rattle.fancy_lex.specs.declared.flags.Flags.{Flags}
use Rattle.fancy_grammar.specs.Depth.{max_depth}
use Rattle.fancy_grammar.specs.Label as label
use Rattle.fancy_grammar.specs.GroupInfo.{GroupInfo}
use Rattle.fancy_grammar.specs.Pattern.{Context, under, past_groups, deeper, takes_pieces, takes_branches, is_operand}
use Rattle.fancy_grammar.specs.Pattern.{is_last_operand, allowed, after}
use Rattle.fancy_grammar.specs.PatternNeeds.{settled, agreed}
use Rattle.fancy_grammar.specs.Quantified.{is_repeatable}
use Rattle.fancy_grammar.specs.Tree.{Tree, leaf, over, row, Trees, no_trees, more_trees, levels, levels_all}
use Rattle.fancy_grammar.specs.Tree.{atomic_repeat}
use Rattle.fancy_grammar.specs.declared.precedence.Precedence.{Precedence}
use Rattle.fancy_grammar.specs.declared.precedence.Precedence.TheVariants.{Whole, Branch, Piece, Operand}
use Rattle.fancy_grammar.proofs.PatternDepth.{MayOpen, FitsInParensIf, FitsAsAtom, Fits, FitAll}
use Rattle.fancy_grammar.proofs.Writable.{AreNodesWritable, AreAllWritable, ArePieces, IsLike}
use Rattle.fancy_pattern.proofs.PatternLaws.Fitting.{flag_group_fits}
use Rattle.fancy_pattern.proofs.PatternLaws.Needed.{like_after}
use Rattle.fancy_pattern.proofs.PatternLaws.NestedGroups.{as_condition}

-- ---- what a quantifier follows, in parentheses

atom_fits_if : (t : Tree) (p : Precedence) (inside : Context → Type 0) (h : Context) →
    (is_operand p ≡ true → MayOpen h × inside (deeper h)) → inside h → FitsAsAtom t p inside h
atom_fits_if t p inside h s x = by (is_operand p) (is_repeatable h.flags t) s
  where
    by : (a b : Bool) → (a ≡ true → MayOpen h × inside (deeper h)) → FitsInParensIf (a && not b) (λ q. inside) p h
    by true true s = x
    by true false s = s refl
    by false b s = x

parens_fit_if : (b : Bool) (inside : Precedence → Context → Type 0) (p : Precedence) (h : Context) →
    (b ≡ true → MayOpen h × inside Whole (deeper h)) → inside p h → FitsInParensIf b inside p h
parens_fit_if true inside p h x y = x refl
parens_fit_if false inside p h x y = y

last_is_operand : (p : Precedence) → is_last_operand p ≡ true → is_operand p ≡ true
last_is_operand (Operand k) e = refl
last_is_operand Whole e = absurd (false≢true e)
last_is_operand Branch e = absurd (false≢true e)
last_is_operand Piece e = absurd (false≢true e)

-- ---- the tree

some_level : (t : Tree) → 0 < levels t
some_level (leaf l) = omega arith
some_level (over w t) = omega arith
some_level (row w ts) = omega arith

module _ (f : Flags) (μ : GroupInfo) where
  -- under a quantifier, one more group may open
  abbrev MayNest : Tree → Precedence → Context → Type 0
  MayNest t p h = is_operand p ≡ true → h.depth + levels t + 1 < max_depth

  mutual
    pub levels_fit : (t : Tree) (p : Precedence) (h : Context) (c : ℕ) → AreNodesWritable f μ c t → IsLike f h.flags →
        MayNest t p h → h.depth + levels t < max_depth → Fits t p h
    levels_fit (leaf label.empty) p h c k e s d = λ _. d
    levels_fit (leaf l) p h c k e s d = (
      λ _. d,
      atom_fits_if (leaf l) p _ (under (settled h.flags (leaf l)) h) (λ q. (d, λ _. omega (arith, s q))) (λ _. d),
    )
    levels_fit (row label.concat (more_trees t (more_trees u us))) p h c k e s d =
        let ts = more_trees t (more_trees u us) in
        flag_group_fits (takes_pieces p) (row label.concat ts) (FitAll ts Piece) h (omega arith)
        (pieces_fit (more_trees t (more_trees u us)) h c k e (omega arith))
        (pieces_fit (more_trees t (more_trees u us)) (deeper (under (settled h.flags (row label.concat ts)) h)) c k e
        (omega arith))
    levels_fit (row label.alt (more_trees t (more_trees u us))) p h c k e s d =
        let ts = more_trees t (more_trees u us) in
        flag_group_fits (takes_branches p) (row label.alt ts) (FitAll ts Branch) h (omega arith)
        (branches_fit (more_trees t (more_trees u us)) h c k e (omega arith))
        (branches_fit (more_trees t (more_trees u us)) (deeper (under (settled h.flags (row label.alt ts)) h)) c k e
        (omega arith))
    levels_fit (over label.group t) p h c k e s d = (
      λ _. omega arith,
      (
        omega arith,
        levels_fit t Whole (deeper (past_groups 1 (under (settled h.flags t) h))) _ k.1 e (λ x. absurd (false≢true x))
            (omega arith),
      ),
    )
    levels_fit (over (label.look_around l) t) p h c k e s d =
        let i = under (settled h.flags t) h in (
          λ _. omega arith,
          atom_fits_if (over (label.look_around l) t) p _ i
              (λ q. (
                omega arith,
                (
                  omega (arith, s q),
                  levels_fit t Whole (deeper (deeper i)) c k e (λ x. absurd (false≢true x)) (omega (arith, s q)),
                ),
              ))
              (omega arith, levels_fit t Whole (deeper i) c k e (λ x. absurd (false≢true x)) (omega arith)),
        )
    levels_fit (over (label.repeat lo hi greedy) t) p h c k e s d =
        let i = under (settled h.flags t) h in (
          λ _. omega arith,
          parens_fit_if (is_last_operand p) (λ q j. Fits t (Operand (allowed q j)) j) p i
              (λ q. (
                omega arith,
                levels_fit t (Operand (allowed Whole (deeper i))) (deeper i) c k.0 e
                    (λ _. omega (arith, s (last_is_operand p q))) (omega arith),
              ))
              (levels_fit t (Operand (allowed p i)) i c k.0 e (λ _. omega arith) (omega arith)),
        )
    levels_fit (atomic_repeat t lo hi greedy) p h c k e s d =
        let i = under (settled h.flags t) h in (
          λ _. omega arith,
          parens_fit_if _ (λ q j. Fits t (Operand (allowed q j)) j) p i
              (λ _. (
                omega arith,
                levels_fit t (Operand (allowed Whole (deeper i))) (deeper i) c k.0 e (λ _. omega arith) (omega arith),
              ))
              (levels_fit t (Operand (allowed p i)) i c k.0 e (λ _. omega arith) (omega arith)),
        )
    levels_fit (over label.stopper t) p h c k e s d = (
      λ _. omega arith,
      (
        omega arith,
        (
          λ x. omega (arith, some_level t),
          levels_fit t Branch (deeper (under (settled h.flags t) h)) c k.0 e (λ x. absurd (false≢true x)) (omega arith),
        ),
      ),
    )
    levels_fit (over (label.ast_group name position) t) p h c k e s d = absurd k
    levels_fit (over w t) p h c k e s d = (
      λ _. omega arith,
      (
        omega arith,
        levels_fit t Whole (deeper (under (settled h.flags t) h)) c k e (λ x. absurd (false≢true x)) (omega arith),
      ),
    )
    levels_fit (row label.expression (more_trees a (more_trees b no_trees))) p h c k e s d =
        let i = deeper (under (settled h.flags (row label.expression (more_trees a (more_trees b no_trees)))) h) in (
          λ _. omega arith,
          (
            omega arith,
            (
              levels_fit a Branch i c k.0 e (λ x. absurd (false≢true x)) (omega arith),
              levels_fit b Branch (after a Branch i) _ k.1 (like_after a Branch f i.flags e)
                  (λ x. absurd (false≢true x)) (omega arith),
            ),
          ),
        )
    levels_fit (row label.conditional (more_trees a (more_trees t (more_trees b no_trees)))) p h c k e s d =
        let x = row label.conditional (more_trees a (more_trees t (more_trees b no_trees))) in
        let i = deeper (under (settled h.flags x) h) in
        let j = after a Whole i in
        let next = like_after a Whole f i.flags e in (
          λ _. omega arith,
          (
            omega arith,
            (
              as_condition a (Fits a Whole i)
                  (levels_fit a Whole i c k.0 e (λ y. absurd (false≢true y)) (omega arith)),
              λ y. omega (arith, some_level t),
              levels_fit t Branch j _ k.1 next (λ y. absurd (false≢true y)) (omega arith),
              levels_fit b Whole (after t Branch j) _ k.2 (like_after t Branch f j.flags next)
                  (λ y. absurd (false≢true y)) (omega arith),
            ),
          ),
        )
    levels_fit _ p h c k e s d = absurd k

    pieces_fit : (ts : Trees) (h : Context) (c : ℕ) → ArePieces f μ c ts → IsLike f h.flags →
        h.depth + levels_all ts < max_depth → FitAll ts Piece h
    pieces_fit no_trees h c k e d = tt
    pieces_fit (more_trees t ts) h c k e d = (
      levels_fit t Piece h c k.0 e (λ x. absurd (false≢true x)) (omega arith),
      pieces_fit ts (after t Piece h) _ k.2 (like_after t Piece f h.flags e) (omega arith),
    )

    branches_fit : (ts : Trees) (h : Context) (c : ℕ) → AreAllWritable f μ c ts → IsLike f h.flags →
        h.depth + levels_all ts < max_depth → FitAll ts Branch h
    branches_fit no_trees h c k e d = tt
    branches_fit (more_trees t ts) h c k e d = (
      levels_fit t Branch h c k.0 e (λ x. absurd (false≢true x)) (omega arith),
      branches_fit ts (after t Branch h) _ k.1 (like_after t Branch f h.flags e) (omega arith),
    )

  -- the text of a whole tree
  pub few_levels_fit : (t : Tree) → AreNodesWritable f μ 0 t → levels t < max_depth →
      Fits t Whole (record { flags = agreed f t; opened = 0; depth = 0 })
  few_levels_fit t k d =
      levels_fit t Whole (record { flags = agreed f t; opened = 0; depth = 0 }) 0 k refl (λ x. absurd (false≢true x))
      (omega (arith, d))
