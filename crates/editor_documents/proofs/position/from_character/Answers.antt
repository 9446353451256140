use Rattle.std.proofs.Common.{rules, ◌<◌, chars, ap, arith, sym, ◌∙◌}
use Rattle.editor_documents.specs.Position as spec
use Rattle.editor_documents.proofs.PositionLemmas.{at_start, at_end, at_line_end, past_character, inside_character}
use Rattle.editor_documents.proofs.position.from_character.Goals as goal

pub returns-in_default : goal.returns-in_default
returns-in_default c = c.loop-before.invariant.same ∙ at_end _ _ _ c.in_default.ensures.value

pub returns-then-ends_line : goal.returns-then-ends_line
returns-then-ends_line c =
    c.loop-before.invariant.same ∙ at_line_end _ _ _ _ _ c.in-Some.ensures.value (sym c.if-ends_line.ensures)

pub returns-in_err-before : goal.returns-in_err-before
returns-in_err-before c =
    let short : c.loop-before.before < spec.units c.args.encoding c.in-Some.c =
    omega (arith, c.units.ensures, c.in_err-before.ensures) in
    rw c.from_residual.ensures
    (c.loop-before.invariant.same
    ∙ inside_character _ _ _ _ _ c.in-Some.ensures.value c.loop-before-test.true (sym c.if-ends_line.ensures) short)

pub loop-before-preserved : goal.loop-before-preserved
loop-before-preserved c = record {
  text = search rules;
  same = c.loop-before.invariant.same
      ∙ past_character _ _ _ _ _ c.in-Some.ensures.value c.loop-before-test.true (sym c.if-ends_line.ensures)
      (omega (arith, c.units.ensures, c.in_ok-before.ensures.0))
      ∙ ap (λ n. spec.from_character c.args.encoding n (chars c.in-Some.after.now)) (omega (arith, c.units.ensures, c.in_ok-before.ensures.1));
}

pub returns : goal.returns
returns c = c.loop-before.invariant.same ∙ at_start _ _ _ c.loop-before-test.false
