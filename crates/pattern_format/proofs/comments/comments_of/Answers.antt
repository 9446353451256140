use Rattle.pattern_format.proofs.CommentLemmas.{one_more}
use Rattle.pattern_format.proofs.comments.comments_of.Goals as goal

pub loop-trivium-preserved : goal.loop-trivium-preserved
loop-trivium-preserved c =
    one_more c.args.style c.args.pattern.now c.args.trivia.now c.loop-trivium.trivium-index _ _ _ c.loop-trivium-test.true
    c.loop-trivium.invariant (c.in_ok-push_comment.ensures c.if-not-branch.false)
