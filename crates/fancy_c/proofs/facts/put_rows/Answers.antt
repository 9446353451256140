use Rattle.fancy_c.specs.FactRows.{row}
use Rattle.fancy_c.proofs.BufferLemmas.{mapped_put}
use Rattle.fancy_c.proofs.facts.put_rows.Goals as goal

pub loop-i-preserved : goal.loop-i-preserved
loop-i-preserved c =
    mapped_put row _ _ c.args.facts.now c.loop-i.i _ _ c.row.ensures c.loop-i.invariant c.requires c.loop-i-test.true
