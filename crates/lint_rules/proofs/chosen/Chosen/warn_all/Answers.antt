use Rattle.std.proofs.Common.{rules, ◌≡◌, ◌∙◌, false, inl, inr, ⊎_elim, arith}
use Rattle.std.proofs.Math.Nat.{eq-or-lt_of_le}
use Rattle.lint_rules.specs.Chosen.{level_of, default_level, warned}
use Rattle.lint_rules.proofs.LevelLemmas.{given_level, same_row, each_rule}
use Rattle.lint_rules.proofs.chosen.Chosen.warn_all.Goals as goal

pub loop-row-preserved : goal.loop-row-preserved
loop-row-preserved c k d less =
    given_level (λ rule. warned (default_level false rule) (level_of c.args.self.now.levels rule)) _ c.set.new.self.levels _ _ (search rules) c.set.ensures.others
    (⊎_elim (λ e. inr (same_row _ k _ d _ e (omega (arith, c.loop-row-test.true)))) (λ l. inl (c.loop-row.invariant k d l)) (eq-or-lt_of_le (omega (arith, less))))

pub returns : goal.returns
returns c = each_rule (λ rule. level_of c.loop-row.self.levels rule ≡ warned (default_level false rule) (level_of c.args.self.now.levels rule)) _ c.all_rules-row-items.ensures.within
    c.all_rules-row-items.ensures.rows (λ k d less. c.loop-row.invariant k d (omega (arith, less, c.loop-row-test.false)))
