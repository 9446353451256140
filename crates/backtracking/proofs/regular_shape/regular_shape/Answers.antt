use Rattle.std.proofs.Common.{◌≡◌, ◌∙◌, sym}
use Rattle.std.proofs.lemmas.Bool.{false≢true}
use Rattle.fancy_syntax.specs.declared.expr.Expr.{Empty}
use Rattle.backtracking.proofs.RegularShapeLemmas.{empty_leaf, other_leaf}
use Rattle.backtracking.proofs.regular_shape.regular_shape.Goals.{in-Empty, in_default}
use Rattle.backtracking.proofs.regular_shape.regular_shape.Goals as goal

pub returns-then-matches : goal.returns-then-matches
returns-then-matches c = elim c.match-matches.branch [
  | in-Empty w ↦ empty_leaf c.args.tree.now w.in-Empty.is
  | in_default w ↦ absurd (false≢true (sym w.matches-is ∙ c.if-matches.true))
]

pub returns-else-may_be_passed : goal.returns-else-may_be_passed
returns-else-may_be_passed c =
    let not_empty : c.args.tree.now ≡ Empty → ⊥ = elim c.match-matches.branch [
      | in-Empty w ↦ absurd (false≢true (sym c.if-matches.false ∙ w.matches-is))
      | in_default w ↦ w.in_default.not-Empty
    ] in
    other_leaf c.args.tree.now c.in-Leaf.ensures.node not_empty (sym c.is_one_character.ensures ∙ c.if-is_one_character.false)
    (sym c.may_be_passed.ensures ∙ c.if-may_be_passed.false)
