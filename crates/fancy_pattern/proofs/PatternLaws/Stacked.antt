-- Quantifiers that follow one another directly, as Oniguruma mode allows, after one atom.
use Rattle.std.proofs.Common.{◌≡◌, ℕ, zero, suc, ◌+◌, ◌-◌, ◌<◌, ◌≤◌, Bool, true, false, not, ◌&&◌, ◌==◌, nat_lt}
use Rattle.std.proofs.Common.{List, ◌∷◌, ◌++◌, refl, sym, ap, ap₂, ◌∙◌, subst, arith, min, lt-ltb, if◌then◌else◌}
use Rattle.std.proofs.Math.Nat.{min-le_left, min-le_right}
use Rattle.std.proofs.lemmas.Bool.{cond-true, cond-false, and_from}
use Rattle.std.proofs.lemmas.Bool.Decides.{nat_tests}
use Rattle.fancy_lex.specs.ErrorTable.{quantifier_too_deep}
use Rattle.fancy_lex.specs.Text.{Text, bytes}
use Rattle.fancy_lex.specs.declared.flags.Flags.{Flags}
use Rattle.fancy_grammar.specs.Depth.{max_depth}
use Rattle.fancy_grammar.specs.Grammar.{Atom}
use Rattle.fancy_grammar.specs.Join.{is_empty}
use Rattle.fancy_grammar.specs.Label as label
use Rattle.fancy_grammar.specs.GroupInfo.{GroupInfo}
use Rattle.fancy_grammar.specs.Pattern.{Context, under, past_groups, group_count, written}
use Rattle.fancy_grammar.specs.PatternNeeds.{settled}
use Rattle.fancy_grammar.specs.PatternQuantifier.{is_quantified, most_quantifiers}
use Rattle.fancy_grammar.specs.Quantified.{is_repeatable, is_unmoved, quant, quants, adjacent, max_adjacent}
use Rattle.fancy_grammar.specs.State.{done, failed, and_then}
use Rattle.fancy_grammar.specs.Tree.{Tree, leaf, over, row, no_trees, more_trees, atomic_repeat}
use Rattle.fancy_grammar.specs.declared.precedence.Precedence.{Precedence}
use Rattle.fancy_grammar.specs.declared.precedence.Precedence.TheVariants.{Operand}
use Rattle.fancy_grammar.proofs.PatternDepth.{Fits, FitsInParensIf, MayOpenIf, is_in_parens}
use Rattle.fancy_grammar.proofs.OutcomeLemmas.{piece_as}
use Rattle.fancy_pattern.proofs.PatternLaws.Becomes.{Becomes, stays_repeatable}
use Rattle.fancy_pattern.proofs.PatternLaws.Cases.{ReadsTree}
use Rattle.fancy_pattern.proofs.PatternLaws.Induction.{by_left}
use Rattle.fancy_pattern.proofs.PatternLaws.Quantifiers.{Apart, NoName, QuantifierAt, quantified_tree, over_quantified}
use Rattle.fancy_pattern.proofs.PatternLaws.Rules.{Clear, Begins, AtomAt, Rest, Follows, adjacent_none, quants_one}
use Rattle.fancy_pattern.proofs.PatternLaws.Rules.{quant_none, lead_piece}
use Rattle.fancy_grammar.proofs.ReadBack.RuleLemmas.{st}

-- ---- this many quantifiers from one text to another

-- with the tree a before q, this many quantifiers give the tree c before v
abbrev pub IsStack : Flags → ℕ → Tree → Text → Tree → Text → Type 0
IsStack f zero a q c v = (a ≡ c) × (q ≡ v)
IsStack f (suc n) a q c v =
    (b : Tree) × (w : Text) × IsStack f n a q b w × ((left : ℕ) → quant left b (st f w) ≡ done c (st f v))
    × (bytes v < bytes w)

moved : (m n : ℕ) → m < n → (m == n) ≡ false
moved m n h = grind (arith, nat_tests)

-- one more adjacent quantifier
adjacent_step : (k d : ℕ) (f : Flags) (b c : Tree) (w v : Text) → quant (bytes w) b (st f w) ≡ done c (st f v) →
    bytes v < bytes w → d + 1 < max_depth → adjacent (suc k) d b (st f w) ≡ adjacent k (d + 1) c (st f v)
unfolding adjacent
adjacent_step k d f b c w v e less deep =
    ap (λ q. and_then q (λ b t. if is_unmoved (st f w) t then done b t
    else if nat_lt (d + 1) max_depth then adjacent k (d + 1) b t else failed (quantifier_too_deep t.rest))) e
    ∙ (cond-false _ _ _ (moved (bytes v) (bytes w) less) ∙ cond-true _ _ _ (lt-ltb (d + 1) max_depth deep))

-- in Oniguruma mode the first quantifier, and the ones adjacent to it
stacked : (m k d left : ℕ) (f : Flags) (a c : Tree) (q v : Text) → f.oniguruma_mode ≡ true → m + k ≡ max_adjacent →
    (0 < m → d + m < max_depth) → IsStack f (suc m) a q c v →
    quants d left a (st f q) ≡ adjacent k (d + m) c (st f v)
stacked zero k d left f a c q v o e deep (b, w, (same, here), step, less) =
    let all : max_adjacent ≡ k = omega (arith, e) in
    ap₂ (λ x y. quants d left x (st f y)) same here
    ∙ (ap (λ q. and_then q (λ b t. if t.flags.oniguruma_mode then adjacent max_adjacent d b t else done b t))
    (step left)
    ∙ (cond-true _ _ _ o
    ∙ (ap (λ n. adjacent n d c (st f v)) all ∙ ap (λ n. adjacent k n c (st f v)) (omega arith))))
stacked (suc m) k d left f a c q v o e deep (b, w, before, step, less) =
    stacked m (suc k) d left f a b q w o (omega (arith, e)) (λ _. omega (arith, deep (omega arith))) before
    ∙ (adjacent_step k (d + m) f b c w v (step (bytes w)) less (omega (arith, deep (omega arith)))
    ∙ ap (λ n. adjacent k n c (st f v)) (omega arith))

-- as many as are allowed there are all read, if no other follows
stack_quants : (n d left : ℕ) (f : Flags) (a c : Tree) (q v : Text) → IsStack f n a q c v →
    n ≤ (most_quantifiers f d - 1) + 1 → Clear f.ignore_space v → quants d left a (st f q) ≡ done c (st f v)
stack_quants zero d left f a c q v (same, here) few k =
    ap₂ (λ x y. quants d left x (st f y)) same here ∙ quants_one d left f c c v v k (quant_none left f c v k)
stack_quants (suc m) d left f a c q v s few k = by_mode f.oniguruma_mode refl m few s
  where
    by_mode : (o : Bool) → f.oniguruma_mode ≡ o → (m : ℕ) → suc m ≤ (most_quantifiers f d - 1) + 1 →
        IsStack f (suc m) a q c v → quants d left a (st f q) ≡ done c (st f v)
    by_mode true o m few s =
        let most : most_quantifiers f d ≡ min (max_adjacent + 1) (max_depth - d) = cond-true _ _ _ o in
        let one = min-le_left (max_adjacent + 1) (max_depth - d) in
        let other = min-le_right (max_adjacent + 1) (max_depth - d) in
        stacked m (max_adjacent - m) d left f a c q v o (omega (arith, few, most, one))
        (λ some. omega (arith, few, most, other, some)) s
        ∙ adjacent_none (max_adjacent - m) (d + m) f c v k
    by_mode false o zero few (b, w, (same, here), step, less) =
        ap₂ (λ x y. quants d left x (st f y)) same here ∙ quants_one d left f b c w v k (step left)
    by_mode false o (suc m) few s =
        let most : most_quantifiers f d ≡ 1 = cond-false _ _ _ o in absurd (omega (arith, few, most))

-- ---- an atom under this many quantifiers

-- the text from s to v is read as an atom and at most this many quantifiers after it, which become x
pub record OperandAt (μ : GroupInfo) (h : Context) (most : ℕ) (s v : Text) (x : Tree) : Type 0 where
  pub first : Tree
  pub after_first : Text
  pub tree : Tree
  pub used : ℕ
  pub few : used ≤ most
  pub derives : Atom h.depth (st h.flags s) (done first (st h.flags after_first))
  pub stack : IsStack h.flags used first after_first tree v
  pub becomes : Becomes μ s h.opened tree x

pub operand_atom : (μ : GroupInfo) (h : Context) (most : ℕ) (s v : Text) (x : Tree) → AtomAt μ h s v x →
    OperandAt μ h most s v x
operand_atom μ h most s v x a = record {
  first = a.tree;
  after_first = v;
  tree = a.tree;
  used = 0;
  few = omega arith;
  derives = a.derives;
  stack = (refl, refl);
  becomes = a.becomes;
}

-- and one more quantifier may follow the tree so far
abbrev pub UnderAt : (μ : GroupInfo) (h : Context) (most : ℕ) (s v : Text) (x : Tree) → Type 0
UnderAt μ h most s v x = (a : OperandAt μ h most s v x) × (is_repeatable h.flags a.tree ≡ true)

pub under_repeatable : (μ : GroupInfo) (h : Context) (most : ℕ) (s v : Text) (x : Tree) → is_repeatable h.flags x ≡ true →
    OperandAt μ h most s v x → UnderAt μ h most s v x
under_repeatable μ h most s v x rep a = (a, stays_repeatable μ s h.flags h.opened a.tree x a.becomes rep)

-- under one more quantifier
pub operand_under : (μ : GroupInfo) (h : Context) (most : ℕ) (s q v : Text) (x : Tree) (possessive : Bool) (lo hi : ℕ)
    (greedy : Bool) → QuantifierAt h.flags possessive lo hi greedy v q → (a : UnderAt μ h most s q x) →
    OperandAt μ h (suc most) s v (quantified_tree possessive x lo hi greedy)
operand_under μ h most s q v x possessive lo hi greedy m (a, rep) = record {
  first = a.first;
  after_first = a.after_first;
  tree = quantified_tree possessive a.tree lo hi greedy;
  used = suc a.used;
  few = omega (arith, a.few);
  derives = a.derives;
  stack = (
    a.tree,
    q,
    a.stack,
    (λ left. m.reads left a.tree rep),
    m.longer,
  );
  becomes = over_quantified μ s possessive h.opened a.tree x lo hi greedy a.becomes;
}

-- before the pieces that follow
pub lead_operand : (μ : GroupInfo) (h : Context) (most : ℕ) (s v w : Text) (g : Flags) (x : Tree) (ys : List Tree) →
    most ≤ (most_quantifiers h.flags h.depth - 1) + 1 → Begins h.flags.ignore_space s → Clear h.flags.ignore_space v →
    is_empty x ≡ false → OperandAt μ h most s v x → Rest μ (past_groups (group_count x) h) v g w ys →
    Rest μ h s g w (x ∷ ys)
lead_operand μ h most s v w g x ys allowed b c solid a k =
    lead_piece μ h s v w g a.tree x ys b solid a.becomes
    (piece_as b.clear.no_layout a.derives
    (stack_quants a.used h.depth (bytes s) h.flags a.first a.tree a.after_first v a.stack
    (omega (arith, a.few, allowed)) c)) k

-- ---- a tree under a quantifier

-- the tree's text ends with a quantifier, and more may follow it
abbrev pub ends_quantified : Flags → ℕ → Tree → Bool
ends_quantified f r t = nat_lt 0 r && is_quantified f t

pub ends_after : (f : Flags) (k : ℕ) (t : Tree) → is_quantified f t ≡ true → ends_quantified f (suc k) t ≡ true
ends_after f k t e = and_from _ _ (lt-ltb 0 (suc k) (omega arith)) e

-- the tree can be repeated, unless groups without a number, which are replaced by their contents, may be around it
abbrev pub MayBeUnder : GroupInfo → Flags → Tree → Type 0
MayBeUnder μ f t = μ.numbered_groups_ignored ≡ false → is_repeatable f t ≡ true

-- if this many quantifiers may come before the one that follows
pub record ReadsOperand (μ : GroupInfo) (t : Tree) (h : Context) (r : ℕ) (k : Text) : Type 0 where
  pub begins : MayBeUnder μ h.flags t → (v : Text) → Begins h.flags.ignore_space (k ++ v)
  pub reads : MayBeUnder μ h.flags t → settled h.flags t ≡ h.flags → (v : Text) → NoName h.flags.ignore_space v →
      Follows μ t v → (ends_quantified h.flags r t ≡ true → Apart h.flags.ignore_space v) →
      UnderAt μ h r (k ++ v) v t

-- and the same for each number of them for which the tree fits
abbrev pub ReadsOperands : GroupInfo → Tree → Context → Type 0
ReadsOperands μ t h = (r : ℕ) → Fits t (Operand r) h → ReadsOperand μ t h r (written μ t (Operand r) h)

pub as_operand : (μ : GroupInfo) (t : Tree) (h : Context) (r : ℕ) → ReadsTree μ t h → Fits t (Operand zero) h →
    ReadsOperand μ t h r (written μ t (Operand zero) h)
unfolding operand_atom
as_operand μ t h r a d = at (is_repeatable h.flags t) refl
  where
    ignored : MayBeUnder μ h.flags t → is_repeatable h.flags t ≡ false → μ.numbered_groups_ignored ≡ true
    ignored rep e = by_left μ.numbered_groups_ignored (λ n. sym (rep n) ∙ e)

    at : (b : Bool) → is_repeatable h.flags t ≡ b → ReadsOperand μ t h r (written μ t (Operand zero) h)
    at true e = record {
      begins = λ _. a.atom_begins d e;
      reads =
          λ _ none v m y _. let s = written μ t (Operand zero) h ++ v in
          under_repeatable μ h r s v t e (operand_atom μ h r s v t (a.atom d e none v m y));
    }
    at false e = record {
      begins = λ rep. (a.bare d e (ignored rep e)).0;
      reads =
          λ rep none v m y _. let b = (a.bare d e (ignored rep e)).1 none v in
          (operand_atom μ h r (written μ t (Operand zero) h ++ v) v t b.atom, b.repeatable);
    }

-- the text of the tree depends on how many quantifiers may come before the one that follows
abbrev pub is_stacking : Tree → Bool
is_stacking (over (label.repeat lo hi greedy) t) = true
is_stacking (atomic_repeat t lo hi greedy) = true
is_stacking _ = false

-- the text, and where it fits, do not depend on the number
pub record IsAlike (μ : GroupInfo) (t : Tree) (h : Context) (r : ℕ) : Type 0 where
  pub text : written μ t (Operand r) h ≡ written μ t (Operand zero) h
  pub fits : Fits t (Operand r) h → Fits t (Operand zero) h

same_fit : (b : Bool) (fits : Context → Type 0) (p q : Precedence) (h : Context) →
    FitsInParensIf b (λ _. fits) p h → FitsInParensIf b (λ _. fits) q h
same_fit true fits p q h d = d
same_fit false fits p q h d = d

module _ (μ : GroupInfo) (h : Context) (r : ℕ) where
  pub alike : (t : Tree) → is_stacking t ≡ false → IsAlike μ t h r
  alike (leaf label.empty) e = record { text = refl; fits = λ d. d }
  alike (leaf (label.assertion a)) e =
      let t = leaf (label.assertion a) in
      let i = under (settled h.flags t) h in
      record {
        text = refl;
        fits =
            λ d. (
              d.0,
              same_fit (not (is_repeatable i.flags t)) (MayOpenIf (is_in_parens (label.assertion a))) (Operand r)
                  (Operand zero) i d.1,
            );
      }
  alike (leaf l) e = record { text = refl; fits = λ d. d }
  alike (row label.concat ts) e = record { text = refl; fits = λ d. d }
  alike (row label.alt ts) e = record { text = refl; fits = λ d. d }
  alike (over (label.repeat lo hi greedy) t) e = absurd cc
  alike (atomic_repeat t lo hi greedy) e = absurd cc
  alike (over w t) e = record { text = refl; fits = λ d. d }
  alike (row label.expression no_trees) e = record { text = refl; fits = λ d. d }
  alike (row label.expression (more_trees a no_trees)) e = record { text = refl; fits = λ d. d }
  alike (row label.expression (more_trees a (more_trees b no_trees))) e = record { text = refl; fits = λ d. d }
  alike (row label.expression (more_trees a (more_trees b (more_trees c ts)))) e =
      record { text = refl; fits = λ d. d }
  alike (row label.conditional no_trees) e = record { text = refl; fits = λ d. d }
  alike (row label.conditional (more_trees a no_trees)) e = record { text = refl; fits = λ d. d }
  alike (row label.conditional (more_trees a (more_trees b no_trees))) e = record { text = refl; fits = λ d. d }
  alike (row label.conditional (more_trees a (more_trees b (more_trees c no_trees)))) e =
      record { text = refl; fits = λ d. d }
  alike (row label.conditional (more_trees a (more_trees b (more_trees c (more_trees u ts))))) e =
      record { text = refl; fits = λ d. d }

-- what the tree is read as wherever it is written, under any number of quantifiers
pub record ReadsAll (μ : GroupInfo) (t : Tree) (h : Context) : Type 0 where
  pub tree : ReadsTree μ t h
  pub operands : ReadsOperands μ t h

pub reads_all : (μ : GroupInfo) (t : Tree) (h : Context) → is_stacking t ≡ false → ReadsTree μ t h → ReadsAll μ t h
reads_all μ t h e a = record {
  tree = a;
  operands =
      λ r d. let same = alike μ h r t e in
      subst (ReadsOperand μ t h r) (sym same.text) (as_operand μ t h r a (same.fits d));
}
