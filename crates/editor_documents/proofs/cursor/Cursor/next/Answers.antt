use Rattle.std.proofs.Common.{rules, Some, ap, arith, sym, ◌∙◌}
use Rattle.editor_documents.proofs.CursorLemmas.{after_line, after_character, units_within}
use Rattle.editor_documents.proofs.CutLemmas.{after_is, first_cut, first_length, line_is, line_near}
use Rattle.editor_documents.proofs.cursor.Cursor.next.Goals as goal

pub overflow_add-character : goal.overflow_add-character
overflow_add-character c =
    let long = first_length c.args.self.rest.now c.in_ok-c.after.now c.in_ok-c.c (search rules) (search rules) c.in_ok-c.ensures.value in
    omega (arith, long, c.args.self.units_fit, c.units.ensures, units_within c.args.self.encoding c.in_ok-c.c)

pub invariant_of-result-2-clause-units_fit : goal.invariant_of-result-2-clause-units_fit
invariant_of-result-2-clause-units_fit c =
    let long = first_length c.args.self.rest.now c.in_ok-c.after.now c.in_ok-c.c (search rules) (search rules) c.in_ok-c.ensures.value in
    omega (arith, long, c.args.self.units_fit, c.units.ensures, units_within c.args.self.encoding c.in_ok-c.c)

pub returns-then-ends_line-clause-within : goal.returns-then-ends_line-clause-within
returns-then-ends_line-clause-within c t within =
    after_line c.args.self.encoding c.args.self.position _ _ t (within ∙ ap Some c.in_ok-c.ensures.value) _
    c.after_line_end.ensures.value

pub returns-then-ends_line-clause-rest : goal.returns-then-ends_line-clause-rest
returns-then-ends_line-clause-rest c =
    line_is c.args.self.rest.now c.in_ok-c.after.now c.after_line_end.result.now c.in_ok-c.c (search rules) (search rules)
    c.after_line_end.utf8 c.in_ok-c.ensures.value (sym c.if-ends_line.ensures) c.after_line_end.ensures.value

pub returns-then-ends_line-clause-near : goal.returns-then-ends_line-clause-near
returns-then-ends_line-clause-near c =
    line_near c.args.self.rest.now c.in_ok-c.after.now c.after_line_end.result.now c.in_ok-c.c (search rules) (search rules)
    c.after_line_end.utf8 c.in_ok-c.ensures.value (sym c.if-ends_line.ensures) c.after_line_end.ensures.value

pub returns-clause-within : goal.returns-clause-within
returns-clause-within c t within =
    rw c.units.ensures
    (after_character c.args.self.encoding c.args.self.position _ _ t (within ∙ ap Some c.in_ok-c.ensures.value)
    (sym c.if-ends_line.ensures))

pub returns-clause-rest : goal.returns-clause-rest
returns-clause-rest c =
    after_is c.args.self.rest.now c.in_ok-c.after.now c.in_ok-c.c (search rules) (search rules) c.in_ok-c.ensures.value

pub returns-clause-near : goal.returns-clause-near
returns-clause-near c n cut =
    first_cut c.args.self.rest.now c.in_ok-c.after.now c.in_ok-c.c (search rules) (search rules) c.in_ok-c.ensures.value n cut.0
