use Rattle.std.proofs.Common.{rules}
use Rattle.pattern_files.proofs.values.keys.is_of_grammar.Goals as goal

pub returns-in-firstLineMatch-3 : goal.returns-in-firstLineMatch-3
returns-in-firstLineMatch-3 c = ((λ _. (2, search rules, search rules)), (λ _. search rules))
