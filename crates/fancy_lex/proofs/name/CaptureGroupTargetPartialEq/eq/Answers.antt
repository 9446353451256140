use Rattle.std.proofs.lemmas.Bool.Decides.{Decides-at}
use Rattle.fancy_lex.specs.Target.{same_target-Decides}
use Rattle.fancy_lex.proofs.name.CaptureGroupTargetPartialEq.eq.Goals as goal

pub returns-clause-decides : goal.returns-clause-decides
returns-clause-decides c = Decides-at _ _ c.is_same_target.ensures (same_target-Decides _ _)
