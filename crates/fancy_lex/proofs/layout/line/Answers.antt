use Rattle.std.proofs.Common.{rules, arith, ap, sym, ◌∙◌, chars}
use Rattle.fancy_lex.specs.Comments.{line_before}
use Rattle.fancy_lex.specs.TokenComments.{if_inside}
use Rattle.fancy_lex.proofs.LayoutLemmas.{line_plain}
use Rattle.fancy_lex.proofs.CommentLemmas.{line_on}
use Rattle.fancy_lex.proofs.LeaveLaws.{ends_next}
use Rattle.fancy_lex.proofs.TokenCommentLemmas as token
use Rattle.fancy_lex.proofs.layout.line.Goals as goal

pub returns-then-c-eq10-clause-cut : goal.returns-then-c-eq10-clause-cut
returns-then-c-eq10-clause-cut c = ends_next _ _ _ _ c.loop-c.invariant.cut c.in-Some.ensures.value

pub returns-then-c-eq10-clause-in_token : goal.returns-then-c-eq10-clause-in_token
returns-then-c-eq10-clause-in_token c v start =
    c.loop-c.invariant.in_token v start
    ∙ token.line_closed _ _ _ _ _ c.in-Some.ensures.value c.if-c-eq10.true

pub returns-clause-in_token : goal.returns-clause-in_token
returns-clause-in_token c v start =
    c.loop-c.invariant.in_token v start ∙ token.line_ends _ _ _ c.in_default.ensures.value
    ∙ ap (if_inside v (line_before start (chars c.loop-c.rest.now)))
    (sym (token.at_text_end _ _ c.in_default.ensures.value))

pub loop-c-preserved : goal.loop-c-preserved
loop-c-preserved c = record {
  text = search rules;
  same = λ x. c.loop-c.invariant.same x ∙ line_plain _ _ _ _ c.in-Some.ensures.value c.if-c-eq10.false;
  comments = λ x start.
      c.loop-c.invariant.comments x start ∙ line_on _ _ _ _ _ c.in-Some.ensures.value c.if-c-eq10.false;
  in_token = λ v start.
      c.loop-c.invariant.in_token v start ∙ token.line_on _ _ _ _ _ c.in-Some.ensures.value c.if-c-eq10.false;
  cut = ends_next _ _ _ _ c.loop-c.invariant.cut c.in-Some.ensures.value;
  within = omega (arith, c.loop-c.invariant.within, c.in-Some.ensures.shorter);
}
