use Rattle.std.proofs.Common.{[]}
use Rattle.fancy_syntax.proofs.SinkLemmas.{nothing_counted}
use Rattle.fancy_syntax.proofs.print.tree_len.Goals as goal

pub put_tree-requires : goal.put_tree-requires
put_tree-requires c = record { within = tt }

pub returns : goal.returns
returns c = c.put_tree.ensures.follows [] nothing_counted
