use Rattle.std.proofs.Common.{sym, ap, ◌∙◌}
use Rattle.std.proofs.lemmas.Bool.{false≢true}
use Rattle.fancy_syntax.specs.View.{view}
use Rattle.patterns_lint.specs.Empty.{matches_everywhere}
use Rattle.patterns_lint.proofs.EmptyLemmas.{decided_look}
use Rattle.patterns_lint.proofs.NodeLemmas.{view_look_around}
use Rattle.patterns_lint.proofs.empty.is_useless_look_around.Goals.{then-matches_everywhere, else-matches_everywhere}
use Rattle.patterns_lint.proofs.empty.is_useless_look_around.Goals as goal

pub returns-then-not-has_group-clause-matches : goal.returns-then-not-has_group-clause-matches
returns-then-not-has_group-clause-matches c = λ u h d.
    let child = c.in-LookAround.child in
    let kind = c.in-LookAround.field-1 in
    let is = ap view c.in-LookAround.is ∙ view_look_around child kind in
    elim c.if-matches_everywhere.branch [
      | then-matches_everywhere w ↦ decided_look u kind (view child.value) (view c.args.tree.now) is
          (ap (λ x. matches_everywhere (view x)) (sym c.deref.ensures) ∙ sym c.matches_everywhere.ensures ∙ w.if-matches_everywhere.true)
          d
      | else-matches_everywhere w ↦ absurd
          (false≢true (sym w.if-matches_everywhere.false ∙ sym w.value-is ∙ c.if-not-has_group.true))
    ]
