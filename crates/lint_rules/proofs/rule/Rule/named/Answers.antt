use Rattle.std.proofs.Common.{◌≢◌, ◌∙◌, ap, sym, ⊎_elim, arith}
use Rattle.std.proofs.Math.Nat.{eq-or-lt_of_le}
use Rattle.std.specs.Cmp.Lexicographic.{other_text}
use Rattle.lint_rules.specs.Rules.{rule_name}
use Rattle.lint_rules.proofs.LevelLemmas.{same_row, each_rule}
use Rattle.lint_rules.proofs.rule.Rule.named.Goals as goal

pub loop-row-preserved : goal.loop-row-preserved
loop-row-preserved c k d less =
    ⊎_elim (λ e same. other_text _ _ c.if-eq.ensures
    (c.name.ensures ∙ ap rule_name (sym (same_row _ k _ d _ e (omega (arith, c.loop-row-test.true)))) ∙ same))
    (c.loop-row.invariant k d) (eq-or-lt_of_le (omega (arith, less)))

pub returns : goal.returns
returns c = each_rule (λ rule. rule_name rule ≢ c.args.name.now) _ c.all_rules-row-items.ensures.within
    c.all_rules-row-items.ensures.rows (λ k d less. c.loop-row.invariant k d (omega (arith, less, c.loop-row-test.false)))
