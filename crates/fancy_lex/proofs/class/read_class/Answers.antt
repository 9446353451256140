use Rattle.std.proofs.Common.{◌∙◌, pred, suc, arith, rules, ap, chars}
use Rattle.std.proofs.lemmas.Result.{err_from_is_err_and}
use Rattle.std.proofs.lemmas.Str.{chars-nil}
use Rattle.fancy_lex.specs.Text.{bytes}
use Rattle.fancy_lex.proofs.TextLemmas.{bytes_chars}
use Rattle.fancy_lex.proofs.ClassLemmas.{items_end, class_init, pred_lt, open_step, plain_step, close_step, last_step}
use Rattle.fancy_lex.proofs.ClassLemmas.{escape_step, items_error}
use Rattle.fancy_lex.proofs.class.read_class.Goals as goal

pub loop-c-init : goal.loop-c-init
loop-c-init c = record {
  text = search rules;
  same = (
    suc (bytes (chars c.args.text.now)),
    omega (arith, bytes_chars c.args.text.now c.utf8.text, c.in_ok-rest.ensures.within),
    class_init _ _ _ _ _ (ap chars c.in_ok-out.ensures.bytes ∙ chars-nil) c.in_ok-rest.ensures.value,
  );
  within = omega (arith, c.in_ok-rest.ensures.within);
}

pub returns-in_err-escaped-clause-value : goal.returns-in_err-escaped-clause-value
returns-in_err-escaped-clause-value c =
    let p = err_from_is_err_and c.from_residual-in_err-escaped.result c.from_residual-in_err-escaped.ensures.1 in
    let (k, m, same) = c.loop-c.invariant.same in
    rw (p.1, p.2, same) (items_error _ _ _ _ _ _ _ c.in-Some.ensures.value k _ (omega arith) c.if-c-eq92.true
    c.in_err-escaped.ensures.value)

pub loop-c-preserved-then-c-eq92 : goal.loop-c-preserved-then-c-eq92
loop-c-preserved-then-c-eq92 c =
    let (k, m, same) = c.loop-c.invariant.same in
    record {
      text = search rules;
      same = (
        pred k,
        pred_lt _ _ k (omega (arith, c.in-Some.ensures.shorter, c.in_ok-escaped.ensures.shorter)) m,
        same ∙ escape_step _ _ _ _ _ _ _ c.in-Some.ensures.value k (omega arith) _ _ _ _ c.if-c-eq92.true
            c.in_ok-escaped.ensures.value c.in_ok-seen.ensures.grown c.in_ok-seen.ensures.seen,
      );
      within = omega (arith, c.in-Some.ensures.shorter, c.in_ok-escaped.ensures.shorter);
    }

pub loop-c-preserved-then-c-eq91 : goal.loop-c-preserved-then-c-eq91
loop-c-preserved-then-c-eq91 c =
    let (k, m, same) = c.loop-c.invariant.same in
    record {
      text = search rules;
      same = (
        pred k,
        pred_lt _ _ k (omega (arith, c.in-Some.ensures.shorter, c.in_ok-rest-2.ensures.within)) m,
        same ∙ open_step _ _ _ _ _ _ _ c.in-Some.ensures.value k (omega arith) _ _ c.if-c-eq91.true
            c.in_ok-rest-2.ensures.value,
      );
      within = omega (arith, c.in-Some.ensures.shorter, c.in_ok-rest-2.ensures.within);
    }

pub returns-then-outer-eq0-clause-value : goal.returns-then-outer-eq0-clause-value
returns-then-outer-eq0-clause-value c =
    let (k, m, same) = c.loop-c.invariant.same in
    same ∙ last_step _ _ _ _ _ _ _ c.in-Some.ensures.value k (omega arith) _ c.in_ok-push.ensures c.if-c-eq93.true
    c.if-outer-eq0.true

pub loop-c-preserved-then-c-eq93 : goal.loop-c-preserved-then-c-eq93
loop-c-preserved-then-c-eq93 c =
    let (k, m, same) = c.loop-c.invariant.same in
    record {
      text = search rules;
      same = (
        pred k,
        pred_lt _ _ k (omega (arith, c.in-Some.ensures.shorter)) m,
        same ∙ close_step _ _ _ _ _ _ _ c.in-Some.ensures.value k (omega arith) _ c.in_ok-push.ensures
            c.if-c-eq93.true c.if-outer-eq0.false,
      );
      within = omega (arith, c.in-Some.ensures.shorter);
    }

pub loop-c-preserved : goal.loop-c-preserved
loop-c-preserved c =
    let (k, m, same) = c.loop-c.invariant.same in
    record {
      text = search rules;
      same = (
        pred k,
        pred_lt _ _ k (omega (arith, c.in-Some.ensures.shorter)) m,
        same ∙ plain_step _ _ _ _ _ _ _ c.in-Some.ensures.value k (omega arith) _ c.in_ok-push.ensures
            c.if-c-eq92.false c.if-c-eq91.false c.if-c-eq93.false,
      );
      within = omega (arith, c.in-Some.ensures.shorter);
    }

pub returns-clause-value : goal.returns-clause-value
returns-clause-value c =
    let (k, m, same) = c.loop-c.invariant.same in
    same ∙ items_end _ k _ _ _ _ c.in_default.ensures.value
