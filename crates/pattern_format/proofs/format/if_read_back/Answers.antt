use Rattle.pattern_format.proofs.format.if_read_back.Goals as goal

pub returns : goal.returns
returns c = rw c.as_str.ensures.value at c.in_ok-reads_back_as.ensures c.if-not-branch.false
