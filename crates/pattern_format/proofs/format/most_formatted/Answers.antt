use Rattle.pattern_format.proofs.format.most_formatted.Goals as goal

pub returns-then-branch : goal.returns-then-branch
returns-then-branch c = rw c.as_str.ensures.value at c.in_ok-reads_back.ensures c.if-branch.true
