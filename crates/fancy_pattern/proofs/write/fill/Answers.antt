use Rattle.fancy_pattern.proofs.NodeLemmas.{filled_where}
use Rattle.fancy_pattern.proofs.write.fill.Goals as goal

pub returns-then-len-position : goal.returns-then-len-position
returns-then-len-position c =
    filled_where c.put_ascii.result c.args.out.now c.put_ascii.new.out c.len.result c.args.position
    c.len.ensures c.if-len-position.true c.put_ascii.ensures
