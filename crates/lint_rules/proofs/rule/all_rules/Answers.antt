use Rattle.std.proofs.Common.{rules, refl}
use Rattle.lint_rules.specs.declared.rule.Rule.TheVariants as rule
use Rattle.lint_rules.proofs.rule.all_rules.Goals as goal

pub returns-clause-within : goal.returns-clause-within
returns-clause-within c rule = search rules

-- by the cases of the rule: the table computes to its row
pub returns-clause-rows : goal.returns-clause-rows
returns-clause-rows c rule.MissingGroup d = refl
returns-clause-rows c _ d = refl
