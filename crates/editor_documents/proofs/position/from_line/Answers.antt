use Rattle.std.proofs.Common.{rules, ◌≡◌, ◌≤◌, [], Some, ap, sym, ◌∙◌, ◌-◌, arith}
use Rattle.std.specs.Prelude.{option_and_then, unwrap_or}
use Rattle.std.proofs.lemmas.Str.{chars-nil}
use Rattle.editor_documents.specs.Position as spec
use Rattle.editor_documents.proofs.PositionLemmas.{first_line, one_line, next_lines}
use Rattle.editor_documents.proofs.position.from_line.Goals as goal

pub returns-in_err-rest : goal.returns-in_err-rest
returns-in_err-rest c =
    rw c.from_residual.ensures
    (c.loop-above.invariant.same ∙ next_lines _ _ c.loop-above-test.true
    ∙ ap (option_and_then (spec.from_line (c.loop-above.above - 1))) c.in_err-rest.ensures)

pub loop-above-preserved : goal.loop-above-preserved
loop-above-preserved c = record {
  text = search rules;
  same = c.loop-above.invariant.same ∙ next_lines _ _ c.loop-above-test.true
      ∙ ap (option_and_then (spec.from_line (c.loop-above.above - 1))) c.in_ok-rest.ensures;
}

pub returns-then-above-eq0 : goal.returns-then-above-eq0
returns-then-above-eq0 c =
    let none : c.loop-above.above ≤ 0 = grind (arith, c.if-above-eq0.true) in
    c.loop-above.invariant.same ∙ first_line _ _ none

pub returns-in-Some : goal.returns-in-Some
returns-in-Some c =
    let one : c.loop-above.above ≡ 1 = grind (arith, c.loop-above-test.false, c.if-above-eq0.false) in
    c.loop-above.invariant.same ∙ one_line _ _ one ∙ ap (λ o. Some (unwrap_or o [])) c.in-Some.ensures

pub returns-in-None : goal.returns-in-None
returns-in-None c =
    let one : c.loop-above.above ≡ 1 = grind (arith, c.loop-above-test.false, c.if-above-eq0.false) in
    c.loop-above.invariant.same ∙ one_line _ _ one ∙ ap (λ o. Some (unwrap_or o [])) c.in-None.ensures
    ∙ ap Some (sym chars-nil)
