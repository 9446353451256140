-- A tree that is no Empty is none under its quantifiers either.
use Rattle.std.proofs.Common.{◌≡◌, ℕ, zero, suc, ◌+◌, nat_lt, false, Option, Some, None, refl}
use Rattle.std.proofs.lemmas.Bool.{cond_both}
use Rattle.fancy_lex.specs.Text.{Text, bytes}
use Rattle.fancy_lex.specs.declared.flags.Flags.{Flags}
use Rattle.fancy_lex.specs.Quantifier.{counts}
use Rattle.fancy_lex.specs.declared.counts.Counts.{Counts}
use Rattle.fancy_grammar.specs.Depth.{max_depth}
use Rattle.fancy_grammar.specs.Join.{is_empty}
use Rattle.fancy_grammar.specs.Quantified.{Suffix, quantified, is_swapped, is_repeatable, is_dropped, suffix, with_counts}
use Rattle.fancy_grammar.specs.Quantified.{quant, quants, adjacent, max_adjacent, is_unmoved}
use Rattle.fancy_grammar.specs.State.{State, at, skipped, Outcome, done, failed, mapped}
use Rattle.fancy_grammar.specs.Tree.{Tree}
use Rattle.fancy_grammar.proofs.OutcomeLemmas.{Holds, then_holds, skipped_both}

-- what was read is no Empty
abbrev pub IsSolid : Tree → State → Type 0
IsSolid a s = is_empty a ≡ false

mapped_solid : {A : Type 0} (f : A → Tree) (o : Outcome A) → ((x : A) → is_empty (f x) ≡ false) →
    Holds IsSolid (mapped f o)
mapped_solid f (done x s) h = h x
mapped_solid f (failed e) h = tt

quantified_solid : (f : Flags) (c : Counts) (m : Suffix) (a : Tree) → is_empty (quantified f c m a) ≡ false
quantified_solid f c m a =
    cond_both (is_swapped f c) _ _ (λ b. is_empty b ≡ false) (λ _. refl)
    (λ _. cond_both m.possessive _ _ (λ b. is_empty b ≡ false) (λ _. refl) (λ _. refl))

quant_solid : (left : ℕ) (a : Tree) (s : State) → is_empty a ≡ false → Holds IsSolid (quant left a s)
unfolding quant
quant_solid left a s h =
    skipped_both (Holds IsSolid) (skipped s) _ _ (λ v e. by_counts v (counts s.flags.ignore_space v)) (λ p e. tt)
  where
    by_counts : (v : Text) (o : Option (Counts × Text)) → Holds IsSolid (with_counts left a (at s v) o)
    by_counts v None = h
    by_counts v (Some (c, u)) =
        cond_both (is_repeatable s.flags a) _ _ (Holds IsSolid)
        (λ _. mapped_solid _ (suffix (at s u) c) (λ m. quantified_solid s.flags c m a))
        (λ _. cond_both (is_dropped s.flags left a u) _ _ (Holds IsSolid)
        (λ _. mapped_solid _ (suffix (at s u) c) (λ _. h)) (λ _. tt))

adjacent_solid : (k d : ℕ) (a : Tree) (s : State) → is_empty a ≡ false → Holds IsSolid (adjacent k d a s)
unfolding adjacent
adjacent_solid zero d a s h =
    then_holds IsSolid IsSolid (quant (bytes s.rest) a s) _ (quant_solid (bytes s.rest) a s h) (λ b t i.
    cond_both (is_unmoved s t) _ _ (Holds IsSolid) (λ _. i) (λ _. tt))
adjacent_solid (suc k) d a s h =
    then_holds IsSolid IsSolid (quant (bytes s.rest) a s) _ (quant_solid (bytes s.rest) a s h) (λ b t i.
    cond_both (is_unmoved s t) _ _ (Holds IsSolid) (λ _. i) (λ _.
    cond_both (nat_lt (d + 1) max_depth) _ _ (Holds IsSolid) (λ _. adjacent_solid k (d + 1) b t i) (λ _. tt)))

pub quants_solid : (d left : ℕ) (a : Tree) (s : State) → is_empty a ≡ false → Holds IsSolid (quants d left a s)
quants_solid d left a s h =
    then_holds IsSolid IsSolid (quant left a s) _ (quant_solid left a s h) (λ b t i.
    cond_both t.flags.oniguruma_mode _ _ (Holds IsSolid) (λ _. adjacent_solid max_adjacent d b t i) (λ _. i))
