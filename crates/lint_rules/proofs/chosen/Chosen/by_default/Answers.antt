use Rattle.std.proofs.Common.{◌≡◌, ◌∙◌, inl, inr, ⊎_elim, arith}
use Rattle.std.proofs.Math.Nat.{eq-or-lt_of_le}
use Rattle.lint_rules.specs.Chosen.{level_of, default_level}
use Rattle.lint_rules.proofs.LevelLemmas.{given_level, same_row, each_rule}
use Rattle.lint_rules.proofs.chosen.Chosen.by_default.Goals as goal

pub loop-row-preserved : goal.loop-row-preserved
loop-row-preserved c k d less =
    given_level (default_level c.args.is_json) _ c.set.new.self.levels _ _ (c.set.ensures.given ∙ c.default_level.ensures) c.set.ensures.others
    (⊎_elim (λ e. inr (same_row _ k _ d _ e (omega (arith, c.loop-row-test.true)))) (λ l. inl (c.loop-row.invariant k d l)) (eq-or-lt_of_le (omega (arith, less))))

pub returns : goal.returns
returns c = each_rule (λ rule. level_of c.loop-row.chosen.levels rule ≡ default_level c.args.is_json rule) _ c.all_rules-row-items.ensures.within
    c.all_rules-row-items.ensures.rows (λ k d less. c.loop-row.invariant k d (omega (arith, less, c.loop-row-test.false)))
