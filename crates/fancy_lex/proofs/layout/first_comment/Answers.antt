use Rattle.std.proofs.Common.{rules, arith, sym, ◌∙◌}
use Rattle.fancy_lex.proofs.CommentLemmas.{after_blank, opens, opens_line, none_other}
use Rattle.fancy_lex.proofs.LayoutLaws.{ends_opened}
use Rattle.fancy_lex.proofs.LeaveLaws.{ends_first, ends_next, ends_twice}
use Rattle.fancy_lex.proofs.layout.first_comment.Goals as goal

pub returns-in_default-comment-clause-value : goal.returns-in_default-comment-clause-value
returns-in_default-comment-clause-value c =
    c.loop-inside.invariant.same
    ∙ opens _ _ _ c.in-Some.ensures.value
    ∙ c.in_default-comment.ensures.comments _ _

pub returns-in-Some-clause-value : goal.returns-in-Some-clause-value
returns-in-Some-clause-value c =
    c.loop-inside.invariant.same ∙ opens _ _ _ c.in-Some.ensures.value ∙ c.in-Ok.ensures.comments _ _

pub returns-then-c-eq35-clause-value : goal.returns-then-c-eq35-clause-value
returns-then-c-eq35-clause-value c =
    c.loop-inside.invariant.same
    ∙ opens_line _ _ _ _ c.in-Some-next.ensures.value c.in_default.ensures.value c.if-not-ignore_space.false
    c.if-c-eq35.true
    ∙ c.line.ensures.comments _ _

pub returns-then-not-is_blank-clause-value : goal.returns-then-not-is_blank-clause-value
returns-then-not-is_blank-clause-value c =
    c.loop-inside.invariant.same
    ∙ none_other _ _ _ _ c.in-Some-next.ensures.value c.in_default.ensures.value c.if-not-ignore_space.false
    c.if-c-eq35.false (sym c.is_blank.ensures ∙ c.if-not-is_blank.true)

pub returns-in-Some-clause-cut : goal.returns-in-Some-clause-cut
returns-in-Some-clause-cut c = ends_twice _ _ _ (ends_opened _ _ c.in-Some.ensures.value) c.in-Ok.ensures.cut

pub returns-then-c-eq35-clause-cut : goal.returns-then-c-eq35-clause-cut
returns-then-c-eq35-clause-cut c = ends_twice _ _ _ (ends_first _ _ _ c.in-Some-next.ensures.value) c.line.ensures.cut

pub loop-inside-preserved : goal.loop-inside-preserved
loop-inside-preserved c = record {
  text = search rules;
  same = c.loop-inside.invariant.same
      ∙ after_blank _ _ _ _ c.in-Some-next.ensures.value c.in_default.ensures.value c.if-not-ignore_space.false
      c.if-c-eq35.false (sym c.is_blank.ensures ∙ c.if-not-is_blank.false);
  cut = ends_next _ _ _ _ c.loop-inside.invariant.cut c.in-Some-next.ensures.value;
  within = omega (arith, c.loop-inside.invariant.within, c.in-Some-next.ensures.shorter);
}
