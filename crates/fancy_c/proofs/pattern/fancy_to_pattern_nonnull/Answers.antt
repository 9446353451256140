use Rattle.std.proofs.Common.{arith}
use Rattle.fancy_c.proofs.TextLemmas.{of_pattern}
use Rattle.fancy_c.proofs.pattern.fancy_to_pattern_nonnull.Goals as goal

pub returns-in-Ok-clause-never : goal.returns-in-Ok-clause-never
returns-in-Ok-clause-never c = λ is.
    c.put_pattern.ensures.no_pattern is (of_pattern _ _ _ _ c.in-Ok.ensures.tree (omega arith))
