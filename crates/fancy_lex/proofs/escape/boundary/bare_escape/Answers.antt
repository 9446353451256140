use Rattle.std.proofs.Common.{suc, pred, length, chars, refl, ◌∙◌, arith, ap, sym, rules, subst}
use Rattle.std.proofs.lemmas.Result.{err_from_is_err_and}
use Rattle.fancy_lex.specs.Reading.{Reports}
use Rattle.fancy_lex.proofs.BoundaryLemmas.{name_error_from, name_error_close, name_error_step, step_length}
use Rattle.fancy_lex.proofs.escape.boundary.bare_escape.Goals as goal

pub returns-in-Err : goal.returns-in-Err
returns-in-Err c = record {
  value = subst (Reports c.not_closed_error.result) (sym (c.in-Err.ensures.error c.args.reach c.args.negated))
      c.not_closed_error.ensures;
}

pub returns-in_err-out : goal.returns-in_err-out
returns-in_err-out c =
    let p = err_from_is_err_and c.from_residual.result c.from_residual.ensures.1 in
    record { value = rw (p.1, p.2) (c.in_default.ensures.found c.args.reach c.args.negated) }

pub returns-in-Err-next_in_name : goal.returns-in-Err-next_in_name
returns-in-Err-next_in_name c =
    let (k, m, same) = c.loop-read.invariant.same in
    record {
      value = subst (Reports c.not_closed_error-in-Err-next_in_name.result)
          (sym (same ∙ c.in-Err-next_in_name.ensures.value c.args.reach k _ (omega arith))) c.not_closed_error-in-Err-next_in_name.ensures;
    }

pub returns-in_err-push : goal.returns-in_err-push
returns-in_err-push c =
    let p = err_from_is_err_and c.from_residual-in_err-push.result c.from_residual-in_err-push.ensures.1 in
    record { value = rw (p.1, p.2) (c.in_default.ensures.found c.args.reach c.args.negated) }

pub loop-read-init : goal.loop-read-init
loop-read-init c = record {
  text = search rules;
  same = (
    suc (length (chars c.args.text.now)),
    omega arith,
    name_error_from _ _ _ _ _ (ap chars c.in_ok-out.ensures.ok ∙ c.boundary_start.ensures),
  );
}

pub returns-then-c-eq125 : goal.returns-then-c-eq125
returns-then-c-eq125 c =
    let (k, m, same) = c.loop-read.invariant.same in
    record {
      value = same ∙ name_error_close _ _ _ _ _ c.in-Ok.ensures.value _ _ refl k _ (omega arith) c.if-c-eq125.true
          c.in_ok-push.ensures;
    }

pub loop-read-preserved : goal.loop-read-preserved
loop-read-preserved c =
    let (k, m, same) = c.loop-read.invariant.same in
    record {
      text = search rules;
      same = (
        pred k,
        step_length _ _ _ _ _ k c.in-Ok.ensures.value refl m,
        same ∙ name_error_step _ _ _ _ _ c.in-Ok.ensures.value _ _ refl k _ (omega arith) c.if-c-eq125.false
            c.in_ok-push.ensures,
      );
    }
