use Rattle.std.proofs.Common.{rules, ap, ◌∙◌}
use Rattle.editor_documents.proofs.PositionLemmas.{line_none, line_feed, line_return, line_goes_on}
use Rattle.std.proofs.Common.{Some}
use Rattle.editor_documents.proofs.position.next_line.Goals as goal

pub returns-then-c-eq10 : goal.returns-then-c-eq10
returns-then-c-eq10 c = c.loop-c.invariant.same ∙ line_feed _ _ _ c.in-Some.ensures.value c.if-c-eq10.true

pub returns-then-c-eq13 : goal.returns-then-c-eq13
returns-then-c-eq13 c =
    c.loop-c.invariant.same ∙ line_return _ _ _ c.in-Some.ensures.value c.if-c-eq10.false c.if-c-eq13.true
    ∙ ap Some c.after_line_feed.ensures.value

pub loop-c-preserved : goal.loop-c-preserved
loop-c-preserved c = record {
  text = search rules;
  same = c.loop-c.invariant.same
      ∙ line_goes_on _ _ _ c.in-Some.ensures.value c.if-c-eq10.false c.if-c-eq13.false;
}

pub returns : goal.returns
returns c = c.loop-c.invariant.same ∙ line_none _ c.in_default.ensures.value
