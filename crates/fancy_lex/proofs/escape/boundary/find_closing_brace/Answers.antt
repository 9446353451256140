use Rattle.std.proofs.Common.{suc, pred, length, chars, refl, ◌∙◌, ◌++◌, ◌∷◌, [], arith, rules}
use Rattle.std.proofs.lemmas.Result.{err_from_is_err_and}
use Rattle.fancy_lex.specs.ErrorTable.{boundary_start}
use Rattle.fancy_lex.proofs.BoundaryLemmas.{name_error_from, name_error_close, name_error_step, step_length}
use Rattle.fancy_lex.proofs.escape.boundary.find_closing_brace.Goals as goal

pub returns-in_err-c : goal.returns-in_err-c
returns-in_err-c c =
    let p = err_from_is_err_and c.from_residual.result c.from_residual.ensures.1 in
    record {
      found = search (rules, p);
      error = rw (p.1, p.2) (λ reach negated. let (k, m, out, same) = c.loop-c.invariant.same reach negated in
          same ∙ c.in_err-c.ensures.value reach k out (omega arith));
    }

pub returns-then-c-eq125 : goal.returns-then-c-eq125
returns-then-c-eq125 c = record {
  found = λ reach negated. let (k, m, out, same) = c.loop-c.invariant.same reach negated in
      rw (same ∙ name_error_close _ _ _ _ _ c.in_ok-c.ensures.value _ _ refl k (out ++ c.in_ok-c.c ∷ []) (omega arith)
      c.if-c-eq125.true refl) refl;
  error = search rules;
}

pub loop-c-init : goal.loop-c-init
loop-c-init c = record {
  text = search rules;
  same = λ reach negated. (
    suc (length (chars c.args.text.now)),
    omega arith,
    boundary_start negated,
    name_error_from _ _ _ _ _ refl,
  );
}

pub loop-c-preserved : goal.loop-c-preserved
loop-c-preserved c = record {
  text = search rules;
  same = λ reach negated. let (k, m, out, same) = c.loop-c.invariant.same reach negated in (
    pred k,
    step_length _ _ _ _ _ k c.in_ok-c.ensures.value refl m,
    out ++ c.in_ok-c.c ∷ [],
    same ∙ name_error_step _ _ _ _ _ c.in_ok-c.ensures.value _ _ refl k _ (omega arith) c.if-c-eq125.false refl,
  );
}
