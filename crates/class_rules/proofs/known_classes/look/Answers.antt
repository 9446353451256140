use Rattle.std.proofs.Common.{refl}
use Rattle.class_rules.proofs.ProblemLemmas.{only_problem}
use Rattle.class_rules.proofs.known_classes.look.Goals as goal

pub returns-then-is_empty : goal.returns-then-is_empty
returns-then-is_empty c =
    only_problem _ _ _ _ _ _ c.in_ok-found-in-Characters.ensures (
      (refl, refl),
      c.in-Characters.set,
      rw c.in-Characters.is at c.in_ok-set.ensures.meaning,
      c.is_empty.ensures.0 c.if-is_empty.true,
    )
