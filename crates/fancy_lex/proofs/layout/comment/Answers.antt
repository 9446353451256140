use Rattle.std.proofs.Common.{rules, arith, ◌∙◌}
use Rattle.fancy_lex.proofs.LayoutLemmas.{comment_escape, comment_plain, escaped_step, escaped_end}
use Rattle.fancy_lex.proofs.CommentLemmas.{comment_on, comment_pair, escaped_next, escaped_none}
use Rattle.fancy_lex.proofs.LeaveLaws.{ends_next}
use Rattle.fancy_lex.proofs.TokenCommentLemmas as token
use Rattle.fancy_lex.proofs.layout.comment.Goals as goal

pub returns-in_default-next-clause-value : goal.returns-in_default-next-clause-value
returns-in_default-next-clause-value c x =
    c.loop-c.invariant.same x
    ∙ comment_escape _ _ _ _ c.in-Some.ensures.value c.if-c-eq92.true
    ∙ escaped_end _ _ c.in_default-next.ensures.value

pub returns-in_default-next-clause-comments : goal.returns-in_default-next-clause-comments
returns-in_default-next-clause-comments c x start =
    c.loop-c.invariant.comments x start
    ∙ comment_pair _ _ _ _ _ c.in-Some.ensures.value c.if-c-eq92.true
    ∙ escaped_none _ _ _ c.in_default-next.ensures.value

pub returns-in_default-next-clause-in_token : goal.returns-in_default-next-clause-in_token
returns-in_default-next-clause-in_token c v start =
    c.loop-c.invariant.in_token v start
    ∙ token.comment_pair _ _ _ _ _ c.in-Some.ensures.value c.if-c-eq92.true
    ∙ token.escaped_none _ _ _ c.in_default-next.ensures.value

pub returns-then-c-eq41-clause-in_token : goal.returns-then-c-eq41-clause-in_token
returns-then-c-eq41-clause-in_token c v start =
    c.loop-c.invariant.in_token v start
    ∙ token.comment_closed _ _ _ _ _ c.in-Some.ensures.value c.if-c-eq41.true

pub returns-clause-in_token : goal.returns-clause-in_token
returns-clause-in_token c v start =
    c.loop-c.invariant.in_token v start ∙ token.comment_none _ _ _ c.in_default.ensures.value

pub loop-c-preserved-then-c-eq92 : goal.loop-c-preserved-then-c-eq92
loop-c-preserved-then-c-eq92 c = record {
  text = search rules;
  same = λ x.
      c.loop-c.invariant.same x
      ∙ comment_escape _ _ _ _ c.in-Some.ensures.value c.if-c-eq92.true
      ∙ escaped_step _ _ _ _ c.in-Some-next.ensures.value;
  comments = λ x start.
      c.loop-c.invariant.comments x start
      ∙ comment_pair _ _ _ _ _ c.in-Some.ensures.value c.if-c-eq92.true
      ∙ escaped_next _ _ _ _ _ c.in-Some-next.ensures.value;
  in_token = λ v start.
      c.loop-c.invariant.in_token v start
      ∙ token.comment_pair _ _ _ _ _ c.in-Some.ensures.value c.if-c-eq92.true
      ∙ token.escaped_next _ _ _ _ _ c.in-Some-next.ensures.value;
  cut = ends_next _ _ _ _ (ends_next _ _ _ _ c.loop-c.invariant.cut c.in-Some.ensures.value)
      c.in-Some-next.ensures.value;
  within = omega (arith, c.in-Some.ensures.shorter, c.in-Some-next.ensures.shorter);
}

pub returns-then-c-eq41-clause-cut : goal.returns-then-c-eq41-clause-cut
returns-then-c-eq41-clause-cut c = ends_next _ _ _ _ c.loop-c.invariant.cut c.in-Some.ensures.value

pub loop-c-preserved : goal.loop-c-preserved
loop-c-preserved c = record {
  text = search rules;
  same = λ x.
      c.loop-c.invariant.same x
      ∙ comment_plain _ _ _ _ c.in-Some.ensures.value c.if-c-eq41.false c.if-c-eq92.false;
  comments = λ x start.
      c.loop-c.invariant.comments x start
      ∙ comment_on _ _ _ _ _ c.in-Some.ensures.value c.if-c-eq41.false c.if-c-eq92.false;
  in_token = λ v start.
      c.loop-c.invariant.in_token v start
      ∙ token.comment_on _ _ _ _ _ c.in-Some.ensures.value c.if-c-eq41.false c.if-c-eq92.false;
  cut = ends_next _ _ _ _ c.loop-c.invariant.cut c.in-Some.ensures.value;
  within = omega (arith, c.loop-c.invariant.within, c.in-Some.ensures.shorter);
}
