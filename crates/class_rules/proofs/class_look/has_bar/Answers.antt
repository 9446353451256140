use Rattle.class_rules.proofs.class_look.has_bar.Goals as goal

pub returns-in-loop-item : goal.returns-in-loop-item
returns-in-loop-item c _ = (_, rw c.if-c-eq124.true at c.in-Some.ensures)
