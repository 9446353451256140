-- Levels of which some become silent.
use Rattle.std.proofs.Common.{◌≡◌, refl, sym, subst, ◌∙◌, ◌⊎◌, inl, inr, ⊎_elim, Bool, true, false, List}
use denote.Enum.Bare.{sameb, same_true, same_false}
use Rattle.lint_rules.specs.contracts.rule.Rule.{the_type}
use Rattle.lint_rules.specs.declared.chosen.Level.{Level}
use Rattle.lint_rules.specs.declared.chosen.Level.TheVariants.{Allow}
use Rattle.lint_rules.specs.declared.rule.Rule.{Rule}
use Rattle.lint_rules.specs.Chosen.{level_of}
use Rattle.patterns_lint.specs.Silenced.{IsSameOrSilent}

decided : (a b : Rule) (is_same : Bool) → sameb the_type a b ≡ is_same → (a ≡ b) ⊎ (a ≡ b → ⊥)
decided a b true e = inl (same_true the_type tt a b e)
decided a b false e = inr (same_false the_type a b e)

pub silent_after : {start between after : Level} → IsSameOrSilent start between → IsSameOrSilent between after → IsSameOrSilent start after
silent_after before (inr silent) = inr silent
silent_after (inl same) (inl kept) = inl (kept ∙ same)
silent_after (inr silent) (inl kept) = inr (kept ∙ silent)

-- one rule becomes silent, and the others are as before
pub silent_one : (old new : List Level) (rule given : Rule) → level_of new given ≡ Allow →
    ((other : Rule) → (other ≡ given → ⊥) → level_of new other ≡ level_of old other) →
    IsSameOrSilent (level_of old rule) (level_of new rule)
silent_one old new rule given is others =
    ⊎_elim (λ e. inr (subst (λ r. level_of new r ≡ Allow) (sym e) is)) (λ n. inl (others rule n))
    (decided rule given (sameb the_type rule given) refl)
