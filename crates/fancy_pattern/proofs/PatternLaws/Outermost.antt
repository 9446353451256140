-- Where a tree under quantifiers fits: as many of the outermost quantifiers as the depth allows are written one after
-- another, and the others are in a group. So the atom is no deeper than where it was read.
use Rattle.std.proofs.Common.{◌≡◌, ℕ, zero, suc, ◌+◌, ◌-◌, ◌≤◌, min, Bool, true, false, not, ◌||◌, sym, ap}
use Rattle.std.proofs.Common.{◌∙◌, subst, arith, inl, nat_lt, if◌then◌else◌}
use Rattle.std.proofs.Math.Bool.{or-false}
use Rattle.std.proofs.Math.Nat.{le-min}
use Rattle.fancy_lex.specs.declared.flags.Flags.{Flags}
use Rattle.fancy_grammar.specs.Depth.{max_depth}
use Rattle.fancy_grammar.specs.Label as label
use Rattle.fancy_grammar.specs.Pattern.{Context, under, deeper, is_last_operand, allowed}
use Rattle.fancy_grammar.specs.PatternNeeds.{settled}
use Rattle.fancy_grammar.specs.PatternQuantifier.{is_possessive, most_quantifiers}
use Rattle.fancy_grammar.specs.Quantified.{max_adjacent}
use Rattle.fancy_grammar.specs.Tree.{Tree, over, atomic_repeat}
use Rattle.fancy_grammar.specs.declared.precedence.Precedence.{Precedence}
use Rattle.fancy_grammar.specs.declared.precedence.Precedence.TheVariants.{Whole, Branch, Piece, Operand}
use Rattle.fancy_grammar.proofs.PatternDepth.{FitsInParensIf, Fits}
use Rattle.fancy_pattern.proofs.PatternLaws.Fitting.{Fit, FitAlone, IsLow, Ready, may_set, ready_settled}
use Rattle.fancy_pattern.proofs.PatternLaws.Needed.{settled_again}

-- ---- how many may follow one another

-- j quantifiers may follow one another in this mode, with d groups open
abbrev pub MayFollow : Bool → ℕ → ℕ → Type 0
MayFollow true d j = (j ≤ max_adjacent + 1) × (j + d ≤ max_depth)
MayFollow false d j = j ≤ 1

-- the same holds if no more groups are open: one quantifier, and the others before it
still_allowed : (in_mode : Bool) (f : Flags) (d e j : ℕ) → f.oniguruma_mode ≡ in_mode → e ≤ d →
    MayFollow in_mode d (suc j) → j ≤ most_quantifiers f e - 1
still_allowed true f d e j o l k =
    let less : suc j ≤ min (max_adjacent + 1) (max_depth - e) = le-min k.0 (omega (arith, k.1, l)) in
    let most : most_quantifiers f e ≡ min (max_adjacent + 1) (max_depth - e)
    = ap (λ b. if b then min (max_adjacent + 1) (max_depth - e) else 1) o in
    subst (λ n. j ≤ n - 1) (sym most) (one_less (min (max_adjacent + 1) (max_depth - e)) less)
  where
    one_less : (n : ℕ) → suc j ≤ n → j ≤ n - 1
    one_less n h = omega (arith, h)
still_allowed false f d e j o l k = let none : j ≤ 0 = omega (arith, k) in omega (arith, none)

-- ---- a quantifier

-- the tree fits as an operand if at least this many quantifiers are still allowed
abbrev pub FitOperands : Bool → ℕ → ℕ → Tree → Type 0
FitOperands in_mode d j t = (n : ℕ) → j ≤ n → Fit in_mode d (Operand n) t

-- its operand fits
abbrev Under : Tree → Precedence → Context → Type 0
Under t q j = Fits t (Operand (allowed q j)) j

module _ (in_mode : Bool) (t : Tree) (lo hi : ℕ) (greedy : Bool) (d j : ℕ) where
  abbrev one_more : Tree
  one_more = over (label.repeat lo hi greedy) t

  module _ (k : FitOperands in_mode d j t) where
    pub repeat_operands : FitOperands in_mode d (suc j) one_more
    repeat_operands zero l = absurd (omega (arith, l))
    repeat_operands (suc n) l =
        λ h o m r. let i = under (settled h.flags t) h in
        (may_set t h r, k n (omega (arith, l)) i o m (ready_settled t h r))

    module _ (c : MayFollow in_mode d (suc j)) where
      when_allowed : (i : Context) → i.flags.oniguruma_mode ≡ in_mode → i.depth ≤ d → Ready t i → Under t Whole i
      when_allowed i o m r =
          let n = most_quantifiers i.flags i.depth - 1 in
          k n (still_allowed in_mode i.flags d i.depth j o m c) i o m r

      pub repeat_fit : (p : Precedence) → IsLow p → Fit in_mode d p one_more
      repeat_fit Whole u h o m r =
          let i = under (settled h.flags t) h in (may_set t h r, when_allowed i o m (ready_settled t h r))
      repeat_fit Branch u h o m r =
          let i = under (settled h.flags t) h in (may_set t h r, when_allowed i o m (ready_settled t h r))
      repeat_fit Piece u h o m r =
          let i = under (settled h.flags t) h in (may_set t h r, when_allowed i o m (ready_settled t h r))
      repeat_fit (Operand n) u h o m r = absurd u

      pub repeat_alone : ((p : Precedence) → FitAlone in_mode d p t) → (p : Precedence) → FitAlone in_mode d p one_more
      repeat_alone a (Operand zero) h o m b r =
          let i = under (settled h.flags t) h in (λ _. b, (b, when_allowed (deeper i) o (omega (arith, m)) r))
      repeat_alone a (Operand (suc n)) h o m b r =
          let i = under (settled h.flags t) h in
          let again = subst (λ g. Ready t (under g (deeper i))) (sym (settled_again h.flags t)) r in
          (λ _. b, a (Operand n) i o m b again)
      repeat_alone a Whole h o m b r = repeat_fit Whole tt h o (omega (arith, m)) (inl b)
      repeat_alone a Branch h o m b r = repeat_fit Branch tt h o (omega (arith, m)) (inl b)
      repeat_alone a Piece h o m b r = repeat_fit Piece tt h o (omega (arith, m)) (inl b)

-- ---- a possessive one

-- an atomic group of it is written as a quantifier in this mode
abbrev pub CanBePossessive : Bool → ℕ → ℕ → Type 0
CanBePossessive in_mode lo hi = (not in_mode || nat_lt lo hi) ≡ true

-- it fits as a quantifier that is not possessive does
pub as_possessive : (in_mode : Bool) (t : Tree) (lo hi : ℕ) (greedy : Bool) → CanBePossessive in_mode lo hi →
    (p : Precedence) (h : Context) → h.flags.oniguruma_mode ≡ in_mode → Fits (over (label.repeat lo hi greedy) t) p h →
    Fits (atomic_repeat t lo hi greedy) p h
as_possessive in_mode t lo hi greedy e p h o x =
    let i = under (settled h.flags t) h in
    let can_be_possessive : is_possessive i.flags lo hi ≡ true = ap (λ b. not b || nat_lt lo hi) o ∙ e in
    let same : (is_last_operand p || not (is_possessive i.flags lo hi)) ≡ is_last_operand p
    = ap (λ b. is_last_operand p || not b) can_be_possessive ∙ or-false (is_last_operand p) in
    (x.0, subst (λ b. FitsInParensIf b (Under t) p i) (sym same) x.1)
