use Rattle.std.proofs.Common.{arith, rules, ◌∙◌}
use Rattle.fancy_lex.proofs.ClassCommentLemmas.{after_backslash, after_plain, after_too_far, at_end, at_text_end}
use Rattle.fancy_lex.proofs.ClassCommentLemmas.{no_escape}
use Rattle.fancy_lex.proofs.ReadingLemmas.{reports_no_value}
use Rattle.fancy_lex.proofs.class.next_escape.Goals as goal

pub returns-in_default-clause-value : goal.returns-in_default-clause-value
returns-in_default-clause-value c = c.loop-rest.invariant.same ∙ at_text_end _ _ _ c.in_default.ensures.value

pub returns-in_default-escape-clause-value : goal.returns-in_default-escape-clause-value
returns-in_default-escape-clause-value c =
    c.loop-rest.invariant.same
    ∙ no_escape _ _ _ _ _ c.in-Some.ensures.value c.if-c-eq92.true
    (reports_no_value c.in_default-escape.field-0 _ c.in_default-escape.ensures.value)

pub returns-then-reach-end-clause-value : goal.returns-then-reach-end-clause-value
returns-then-reach-end-clause-value c =
    c.loop-rest.invariant.same
    ∙ after_too_far _ _ _ _ _ c.in-Some.ensures.value (omega (arith, c.loop-rest-test.true, c.reach.ensures)) _ _
    c.if-c-eq92.true c.in-Ok.ensures.value
    (omega (arith, c.if-reach-end.true, c.reach-then-c-eq92.ensures))

pub returns-then-c-eq92-clause-value : goal.returns-then-c-eq92-clause-value
returns-then-c-eq92-clause-value c =
    c.loop-rest.invariant.same
    ∙ after_backslash _ _ _ _ _ c.in-Some.ensures.value (omega (arith, c.loop-rest-test.true, c.reach.ensures)) _ _
    c.if-c-eq92.true c.in-Ok.ensures.value
    (omega (arith, c.if-reach-end.false, c.reach-then-c-eq92.ensures))

pub returns-clause-value : goal.returns-clause-value
returns-clause-value c =
    c.loop-rest.invariant.same ∙ at_end _ _ _ (omega (arith, c.loop-rest-test.false, c.reach.ensures))

pub loop-rest-preserved : goal.loop-rest-preserved
loop-rest-preserved c = record {
  text = search rules;
  same = c.loop-rest.invariant.same
      ∙ after_plain _ _ _ _ _ c.in-Some.ensures.value
      (omega (arith, c.loop-rest-test.true, c.reach.ensures)) c.if-c-eq92.false;
  within = omega (arith, c.loop-rest.invariant.within, c.in-Some.ensures.shorter);
}
