-- Levels that are given to all rules, one after another.
use Rattle.std.proofs.Common.{◌≡◌, refl, ap, sym, subst, ◌∙◌, ℕ, ◌<◌, ◌⊎◌, inl, inr, ⊎_elim, Bool, true, false, List, [], ◌∷◌, length, slice_index_or, arith}
use Rattle.std.proofs.lemmas.List.{get_or_default}
use denote.Enum.Bare.{sameb, same_true, same_false}
use Rattle.lint_rules.specs.contracts.rule.Rule.{the_type}
use Rattle.lint_rules.specs.declared.chosen.Level.{Level}
use Rattle.lint_rules.specs.declared.rule.Rule.{Rule}
use Rattle.lint_rules.specs.declared.rule.RuleRow.{RuleRow}
use Rattle.lint_rules.specs.Chosen.{number, level_of}

decided : (a b : Rule) (is_same : Bool) → sameb the_type a b ≡ is_same → (a ≡ b) ⊎ (a ≡ b → ⊥)
decided a b true e = inl (same_true the_type tt a b e)
decided a b false e = inr (same_false the_type a b e)

-- a rule has the level that is wanted if it is the one that is given it, or had it before
pub given_level : (wanted : Rule → Level) (old new : List Level) (rule given : Rule) → level_of new given ≡ wanted given →
    ((other : Rule) → (other ≡ given → ⊥) → level_of new other ≡ level_of old other) →
    (level_of old rule ≡ wanted rule) ⊎ (rule ≡ given) → level_of new rule ≡ wanted rule
given_level wanted old new rule given is others (inr e) = subst (λ r. level_of new r ≡ wanted r) (sym e) is
given_level wanted old new rule given is others (inl had) =
    ⊎_elim (λ e. subst (λ r. level_of new r ≡ wanted r) (sym e) is) (λ n. others rule n ∙ had) (decided rule given (sameb the_type rule given) refl)

pub same_row : (rows : List RuleRow) (k i : ℕ) (d e : RuleRow) → k ≡ i → i < length rows → (slice_index_or rows k d).rule ≡ (slice_index_or rows i e).rule
same_row rows k i d e is within = ap (λ n. (slice_index_or rows n d).rule) is ∙ ap (λ r. r.rule) (get_or_default rows i d e within)

-- what holds of the rule of each row holds of each rule
pub each_rule : (P : Rule → Type 0) (rows : List RuleRow) → ((rule : Rule) → number rule < length rows) →
    ((rule : Rule) (d : RuleRow) → (slice_index_or rows (number rule) d).rule ≡ rule) →
    ((k : ℕ) (d : RuleRow) → k < length rows → P (slice_index_or rows k d).rule) → (rule : Rule) → P rule
each_rule P [] within is each rule = absurd (omega (arith, within rule))
each_rule P (row ∷ rows) within is each rule = subst P (is rule row) (each (number rule) row (within rule))
