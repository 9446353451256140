use Rattle.std.proofs.Common.{rules}
use Rattle.pattern_files.proofs.values.keys.is_of_rule.Goals as goal

pub returns-in-match-3 : goal.returns-in-match-3
returns-in-match-3 c = ((λ _. (2, search rules, search rules)), (λ _. search rules))
