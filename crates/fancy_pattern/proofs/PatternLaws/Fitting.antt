-- Where a tree fits if its parts do: wherever the flags suit it, or another group may open.
use Rattle.std.proofs.Common.{◌≡◌, ℕ, ◌+◌, ◌<◌, ◌≤◌, Bool, true, false, not, ◌&&◌, ◌||◌, refl, sym, ap, ◌∙◌}
use Rattle.std.proofs.Common.{subst, arith, ◌⊎◌, inl, inr, nat_lt, ltb-true}
use Rattle.std.proofs.lemmas.Bool.{false≢true, ltb-false}
use Rattle.fancy_lex.specs.declared.flags.Flags.{Flags}
use Rattle.fancy_grammar.specs.Depth.{max_depth}
use Rattle.fancy_grammar.specs.Join.{is_empty}
use Rattle.fancy_grammar.specs.Label as label
use Rattle.fancy_grammar.specs.Label.{Leaf}
use Rattle.fancy_grammar.specs.Pattern.{Context, under, past_groups, deeper, takes_pieces, takes_branches, is_operand}
use Rattle.fancy_grammar.specs.Pattern.{is_last_operand, allowed, after}
use Rattle.fancy_grammar.specs.PatternNeeds.{settled}
use Rattle.fancy_grammar.specs.Quantified.{is_repeatable}
use Rattle.fancy_grammar.specs.Tree.{Tree, leaf, over, row, Trees, no_trees, more_trees, atomic_repeat}
use Rattle.fancy_grammar.specs.declared.kinds.LookAround.{LookAround}
use Rattle.fancy_grammar.specs.declared.precedence.Precedence.{Precedence}
use Rattle.fancy_grammar.specs.declared.precedence.Precedence.TheVariants.{Whole, Branch, Piece, Operand}
use Rattle.fancy_grammar.proofs.PatternDepth.{MayOpen, MayOpenIf, MaySet, FitsInParens, FitsInParensIf, is_in_parens}
use Rattle.fancy_grammar.proofs.PatternDepth.{FitsAsCondition, FitsAsAtom, FitsInFlagGroupUnless, Fits, FitAll}
use Rattle.fancy_pattern.proofs.PatternLaws.Needed.{like_after, settled_again, turns_none}
use Rattle.fancy_pattern.proofs.PatternLaws.Suited.{Suits, SuitAll, suited_settled, settled_suits, suited_after}

-- ---- what fits without parentheses and within them fits either way

atom_fits : (t : Tree) (p : Precedence) (inside : Context → Type 0) (h : Context) →
    (is_operand p ≡ true → is_repeatable h.flags t ≡ true) → inside h → FitsAsAtom t p inside h
atom_fits t p inside h s x = by (is_operand p) (is_repeatable h.flags t) s
  where
    by : (a b : Bool) → (a ≡ true → b ≡ true) → FitsInParensIf (a && not b) (λ q. inside) p h
    by true true s = x
    by true false s = absurd (false≢true (s refl))
    by false b s = x

parens_fit : (b : Bool) (inside : Precedence → Context → Type 0) (p : Precedence) (h : Context) → MayOpen h →
    inside Whole (deeper h) → inside p h → FitsInParensIf b inside p h
parens_fit true inside p h d x y = (d, x)
parens_fit false inside p h d x y = y

pub flag_group_fits : (b : Bool) (t : Tree) (inside : Context → Type 0) (h : Context) → MayOpen h → inside h →
    inside (deeper (under (settled h.flags t) h)) → FitsInFlagGroupUnless b t inside h
flag_group_fits true t inside h d x y = x
flag_group_fits false t inside h d x y = (d, y)

-- ---- where flags suit a tree, or may be set

abbrev pub Ready : Tree → Context → Type 0
Ready t h = MayOpen h ⊎ Suits h.flags t

abbrev pub AllReady : Trees → Context → Type 0
AllReady ts h = MayOpen h ⊎ SuitAll h.flags ts

-- the tree fits if at most d groups are open, in this mode, and it is ready
abbrev pub Fit : Bool → ℕ → Precedence → Tree → Type 0
Fit in_mode d p t = (h : Context) → h.flags.oniguruma_mode ≡ in_mode → h.depth ≤ d → Ready t h → Fits t p h

abbrev pub EachFit : Bool → ℕ → Precedence → Trees → Type 0
EachFit in_mode d p no_trees = Unit {0}
EachFit in_mode d p (more_trees t ts) = Fit in_mode d p t × EachFit in_mode d p ts

may_stay : (h : Context) → MaySet h.flags h
may_stay h e = absurd (false≢true (sym (ap (λ b. b || b) (turns_none h.flags)) ∙ e))

pub may_set : (t : Tree) (h : Context) → Ready t h → MaySet (settled h.flags t) h
may_set t h (inl d) = λ _. d
may_set t h (inr s) = subst (λ g. MaySet g h) (sym (suited_settled h.flags t s)) (may_stay h)

pub ready_settled : (t : Tree) (h : Context) → Ready t h → Ready t (under (settled h.flags t) h)
ready_settled t h (inl d) = inl d
ready_settled t h (inr s) = inr (subst (λ g. Suits g t) (sym (suited_settled h.flags t s)) s)

pub after_mode : (in_mode : Bool) (t : Tree) (p : Precedence) (h : Context) → h.flags.oniguruma_mode ≡ in_mode →
    (after t p h).flags.oniguruma_mode ≡ in_mode
after_mode in_mode t p h o = ap (λ k. k.oniguruma_mode) (like_after t p h.flags h.flags refl) ∙ o

first_ready : (t : Tree) (ts : Trees) (h : Context) → AllReady (more_trees t ts) h → Ready t h
first_ready t ts h (inl d) = inl d
first_ready t ts h (inr s) = inr s.0

others_ready : (t : Tree) (ts : Trees) (p : Precedence) (h : Context) → AllReady (more_trees t ts) h →
    AllReady ts (after t p h)
others_ready t ts p h (inl d) = inl d
others_ready t ts p h (inr s) = inr (subst (λ g. SuitAll g ts) (sym (suited_after t p h.flags s.0)) s.1)

pub all_fit : (in_mode : Bool) (d : ℕ) (p : Precedence) (ts : Trees) (h : Context) → EachFit in_mode d p ts →
    h.flags.oniguruma_mode ≡ in_mode → h.depth ≤ d → AllReady ts h → FitAll ts p h
all_fit in_mode d p no_trees h k o l r = tt
all_fit in_mode d p (more_trees t ts) h k o l r = (
  k.0 h o l (first_ready t ts h r),
  all_fit in_mode d p ts (after t p h) k.1 (after_mode in_mode t p h o) l (others_ready t ts p h r),
)

-- ---- a leaf

pub leaf_fit : (in_mode : Bool) (l : Leaf) (d : ℕ) (p : Precedence) → is_empty (leaf l) ≡ false →
    (is_operand p ≡ true → (f : Flags) → f.oniguruma_mode ≡ in_mode → is_repeatable f (leaf l) ≡ true) →
    (is_in_parens l ≡ true → d + 1 < max_depth) → Fit in_mode d p (leaf l)
leaf_fit in_mode label.empty d p e s b h o m r = absurd (false≢true (sym e))
leaf_fit in_mode l d p e s b h o m r =
    let i = under (settled h.flags (leaf l)) h in (
      may_set (leaf l) h r,
      atom_fits (leaf l) p (MayOpenIf (is_in_parens l)) i (λ x. s x i.flags o) (λ x. omega (arith, b x, m)),
    )

-- ---- in a group: a tree that fits by itself, here and in parentheses, fits in any group, unless the tree is one of a
-- quantifier

abbrev pub IsUnquantified : Tree → Type 0
IsUnquantified (over (label.repeat lo hi greedy) t) = ⊥
IsUnquantified (atomic_repeat t lo hi greedy) = ⊥
IsUnquantified t = Unit {0}

pub enclosed : (t : Tree) (p : Precedence) → IsUnquantified t → (h : Context) → MayOpen h → Fits t Whole h →
    Fits t Whole (deeper (under (settled h.flags t) h)) → Fits t p h
enclosed (leaf label.empty) p u h d x y = λ _. d
enclosed (leaf l) p u h d x y =
    let i = under (settled h.flags (leaf l)) h in
    (x.0, parens_fit _ (λ q. MayOpenIf (is_in_parens l)) p i d y.1 x.1)
enclosed (row label.concat ts) p u h d x y =
    flag_group_fits (takes_pieces p) (row label.concat ts) (FitAll ts Piece) h d x y
enclosed (row label.alt ts) p u h d x y =
    flag_group_fits (takes_branches p) (row label.alt ts) (FitAll ts Branch) h d x y
enclosed (over (label.look_around l) t) p u h d x y =
    let i = under (settled h.flags t) h in
    let again = subst (λ g. FitsInParens (Fits t Whole) (under g (deeper i))) (settled_again h.flags t) y.1 in
    (x.0, parens_fit _ (λ q. FitsInParens (Fits t Whole)) p i d again x.1)
enclosed (over (label.repeat lo hi greedy) t) p u h d x y = absurd u
enclosed (atomic_repeat t lo hi greedy) p u h d x y = absurd u
enclosed (row label.expression no_trees) p u h d x y = x
enclosed (row label.expression (more_trees a no_trees)) p u h d x y = x
enclosed (row label.expression (more_trees a (more_trees e no_trees))) p u h d x y = x
enclosed (row label.expression (more_trees a (more_trees e (more_trees t ts)))) p u h d x y = x
enclosed (row label.conditional no_trees) p u h d x y = x
enclosed (row label.conditional (more_trees c no_trees)) p u h d x y = x
enclosed (row label.conditional (more_trees c (more_trees t no_trees))) p u h d x y = x
enclosed (row label.conditional (more_trees c (more_trees t (more_trees e no_trees)))) p u h d x y = x
enclosed (row label.conditional (more_trees c (more_trees t (more_trees e (more_trees v ts))))) p u h d x y = x
enclosed t p u h d x y = x

-- the tree fits if fewer than d groups are open, another may open, and the tree is ready in it
abbrev pub FitAlone : Bool → ℕ → Precedence → Tree → Type 0
FitAlone in_mode d p t =
    (h : Context) → h.flags.oniguruma_mode ≡ in_mode → h.depth < d → MayOpen h →
    Ready t (deeper (under (settled h.flags t) h)) → Fits t p h

pub alone_fit : (in_mode : Bool) (d : ℕ) (p : Precedence) (t : Tree) → IsUnquantified t → Fit in_mode d Whole t →
    FitAlone in_mode d p t
alone_fit in_mode d p t u k h o l b r =
    enclosed t p u h b (k h o (omega (arith, l)) (inl b))
    (k (deeper (under (settled h.flags t) h)) o (omega (arith, l)) r)

pub fit_alone : (in_mode : Bool) (d : ℕ) (p : Precedence) (t : Tree) → Fit in_mode d p t → FitAlone in_mode d p t
fit_alone in_mode d p t k h o l b r = k h o (omega (arith, l)) (inl b)

-- an atomic group of the tree
more_parens : (a b : Bool) (inside : Precedence → Context → Type 0) (p : Precedence) (i : Context) → MayOpen i →
    inside Whole (deeper i) → FitsInParensIf a inside p i → FitsInParensIf (a || b) inside p i
more_parens true b inside p i d y x = x
more_parens false true inside p i d y x = (d, y)
more_parens false false inside p i d y x = x

pub atomic_fits : (t : Tree) (p : Precedence) (h : Context) → MayOpen h → Fits t p h →
    Fits t Whole (deeper (under (settled h.flags t) h)) → Fits (over label.atomic_group t) p h
atomic_fits (over (label.repeat lo hi greedy) t) p h d x y =
    let i = under (settled h.flags t) h in
    let again = subst (λ g. Fits t (Operand (allowed Whole (under g (deeper i)))) (under g (deeper i)))
    (settled_again h.flags t) y.1 in
    (x.0, more_parens (is_last_operand p) _ (λ q j. Fits t (Operand (allowed q j)) j) p i d again x.1)
atomic_fits t p h d x y = (λ _. d, (d, y))

-- ---- the precedences of trees that no quantifier follows

abbrev pub IsLow : Precedence → Type 0
IsLow (Operand k) = ⊥
IsLow _ = Unit {0}

no_operand : (p : Precedence) → IsLow p → is_operand p ≡ true → ⊥
no_operand Whole u e = false≢true e
no_operand Branch u e = false≢true e
no_operand Piece u e = false≢true e
no_operand (Operand k) u e = u

-- ---- the contents of a group, with at most d groups open around it; some flags suit the tree if no group may open in
-- it

module _ (in_mode : Bool) (d : ℕ) (b : d + 1 < max_depth) (f : Flags) (n : f.oniguruma_mode ≡ in_mode) where
  abbrev pub SuitsLast : Tree → Type 0
  SuitsLast t = max_depth ≤ d + 1 + 1 → Suits f t

  pub inner_ready : (t : Tree) → SuitsLast t → (h : Context) → h.flags.oniguruma_mode ≡ in_mode → h.depth ≤ d →
      Ready t (deeper (under (settled h.flags t) h))
  inner_ready t s h o l = by_test (nat_lt (h.depth + 1 + 1) max_depth) refl
    where
      by_test : (c : Bool) → nat_lt (h.depth + 1 + 1) max_depth ≡ c → Ready t (deeper (under (settled h.flags t) h))
      by_test true e = inl (ltb-true _ _ e)
      by_test false e = inr (settled_suits f h.flags t (n ∙ sym o) (s (omega (arith, l, ltb-false _ _ e))))

  module _ (t : Tree) (k : Fit in_mode (d + 1) Whole t) (s : SuitsLast t) where
    inner : (h : Context) → h.flags.oniguruma_mode ≡ in_mode → h.depth ≤ d →
        Fits t Whole (deeper (under (settled h.flags t) h))
    inner h o l = k (deeper (under (settled h.flags t) h)) o (omega (arith, l)) (inner_ready t s h o l)

    -- in a group that is not written, or only if needed
    pub enclosed_fit : (p : Precedence) → FitAlone in_mode (d + 1) p t → Fit in_mode d p t
    enclosed_fit p y h o l r = y h o (omega (arith, l)) (omega (arith, l, b)) (inner_ready t s h o l)

    pub group_fit : (p : Precedence) → Fit in_mode d p (over label.group t)
    group_fit p h o l r = (
      λ _. omega (arith, l, b),
      (
        omega (arith, l, b),
        k (deeper (past_groups 1 (under (settled h.flags t) h))) o (omega (arith, l)) (inner_ready t s h o l),
      ),
    )

    pub look_fit : (a : LookAround) (p : Precedence) → IsLow p → Fit in_mode d p (over (label.look_around a) t)
    look_fit a p u h o l r = (
      λ _. omega (arith, l, b),
      atom_fits (over (label.look_around a) t) p (FitsInParens (Fits t Whole)) (under (settled h.flags t) h)
          (λ x. absurd (no_operand p u x)) (omega (arith, l, b), inner h o l),
    )

    pub atomic_fit : (p : Precedence) → FitAlone in_mode (d + 1) p t → Fit in_mode d p (over label.atomic_group t)
    atomic_fit p y h o l r =
        atomic_fits t p h (omega (arith, l, b)) (enclosed_fit p y h o l r) (inner h o l)

    pub define_fit : (p : Precedence) → Fit in_mode d p (over label.define_group t)
    define_fit p h o l r = (λ _. omega (arith, l, b), (omega (arith, l, b), inner h o l))

    pub repeater_fit : (p : Precedence) → Fit in_mode d p (over label.repeater t)
    repeater_fit p h o l r = (λ _. omega (arith, l, b), (omega (arith, l, b), inner h o l))

  pub stopper_fit : (t : Tree) → Fit in_mode (d + 1) Branch t → SuitsLast t →
      (is_empty t ≡ true → d + 1 + 1 < max_depth) → (p : Precedence) → Fit in_mode d p (over label.stopper t)
  stopper_fit t k s e p h o l r = (
    λ _. omega (arith, l, b),
    (
      omega (arith, l, b),
      (
        λ x. omega (arith, l, e x),
        k (deeper (under (settled h.flags t) h)) o (omega (arith, l)) (inner_ready t s h o l),
      ),
    ),
  )

  pub expression_fit : (a e : Tree) → Fit in_mode (d + 1) Branch a → Fit in_mode (d + 1) Branch e →
      SuitsLast (row label.expression (more_trees a (more_trees e no_trees))) → (p : Precedence) →
      Fit in_mode d p (row label.expression (more_trees a (more_trees e no_trees)))
  expression_fit a e k j s p h o l r =
      let x = row label.expression (more_trees a (more_trees e no_trees)) in
      let i = deeper (under (settled h.flags x) h) in
      let y = all_fit in_mode (d + 1) Branch (more_trees a (more_trees e no_trees)) i (k, (j, tt)) o (omega (arith, l))
      (inner_ready x s h o l) in
      (λ _. omega (arith, l, b), (omega (arith, l, b), (y.0, y.1.0)))

  -- the condition is a target or a verb, or fits as an alternation
  abbrev pub FitsOrTarget : Tree → Type 0
  FitsOrTarget c = FitsAsCondition c (Fit in_mode (d + 1) Whole c)

  condition_fits : (c : Tree) → FitsOrTarget c → (i : Context) → i.flags.oniguruma_mode ≡ in_mode → i.depth ≤ d + 1 →
      Ready c i → FitsAsCondition c (Fits c Whole i)
  condition_fits (leaf (label.backref_exists n level)) k i o l r = tt
  condition_fits (leaf (label.verb v)) k i o l r = tt
  condition_fits c k i o l r = k i o l r

  pub conditional_fit : (c t e : Tree) → FitsOrTarget c → Fit in_mode (d + 1) Branch t → Fit in_mode (d + 1) Whole e →
      (is_empty t && is_empty e ≡ true → d + 1 + 1 < max_depth) →
      SuitsLast (row label.conditional (more_trees c (more_trees t (more_trees e no_trees)))) → (p : Precedence) →
      Fit in_mode d p (row label.conditional (more_trees c (more_trees t (more_trees e no_trees))))
  conditional_fit c t e k0 k1 k2 z s p h o l r =
      let x = row label.conditional (more_trees c (more_trees t (more_trees e no_trees))) in
      let i = deeper (under (settled h.flags x) h) in
      let r0 = inner_ready x s h o l in
      let j = after c Whole i in
      let o1 = after_mode in_mode c Whole i o in
      let r1 = others_ready c (more_trees t (more_trees e no_trees)) Whole i r0 in
      let r2 = others_ready t (more_trees e no_trees) Branch j r1 in (
        λ _. omega (arith, l, b),
        (
          omega (arith, l, b),
          (
            condition_fits c k0 i o (omega (arith, l)) (first_ready c (more_trees t (more_trees e no_trees)) i r0),
            λ y. omega (arith, l, z y),
            k1 j o1 (omega (arith, l)) (first_ready t (more_trees e no_trees) j r1),
            k2 (after t Branch j) (after_mode in_mode t Branch j o1) (omega (arith, l))
                (first_ready e no_trees (after t Branch j) r2),
          ),
        ),
      )
