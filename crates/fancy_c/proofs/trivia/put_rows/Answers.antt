use Rattle.fancy_c.proofs.TriviumLemmas.{trivium_put}
use Rattle.fancy_c.proofs.trivia.put_rows.Goals as goal

pub loop-i-preserved : goal.loop-i-preserved
loop-i-preserved c =
    trivium_put _ _ c.args.trivia.now c.loop-i.i _ _ c.row.ensures c.loop-i.invariant c.requires c.loop-i-test.true
