use Rattle.pattern_fixes.proofs.CommentLemmas.{one_more}
use Rattle.pattern_fixes.proofs.comments.comments_of.Goals as goal

pub loop-trivium-preserved : goal.loop-trivium-preserved
loop-trivium-preserved c =
    one_more c.args.text.now c.args.trivia.now c.loop-trivium.trivium-index _ _ _ c.loop-trivium-test.true
    c.loop-trivium.invariant (c.in_ok-push_comment.ensures c.if-not-branch.false)
