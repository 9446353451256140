use Rattle.std.proofs.Common.{◌∙◌}
use Rattle.std.proofs.lemmas.Bool.Decides.{Decides-at}
use Rattle.fancy_grammar.proofs.SameLaws.{same-Decides}
use Rattle.fancy_syntax.specs.View.{view_absent}
use Rattle.fancy_syntax.proofs.SameLemmas.{same_with_positions}
use Rattle.fancy_syntax.proofs.expr.equality.AbsentPartialEq.eq.Goals as goal

pub returns-clause-value : goal.returns-clause-value
returns-clause-value c = c.is_same_absent.ensures ∙ same_with_positions (view_absent c.args.self.now)
    (view_absent c.args.other.now)

pub returns-clause-decides : goal.returns-clause-decides
returns-clause-decides c = Decides-at _ _ (returns-clause-value c) (same-Decides _ _)
