use Rattle.pattern_facts.proofs.NodeLemmas.{no_bytes}
use Rattle.pattern_facts.proofs.node_facts.bytes_of_set.Goals as goal

pub returns-in-None : goal.returns-in-None
returns-in-None c = no_bytes c.args.set.now c.in-None.ensures
