use Rattle.class_rules.proofs.class_walk.look_at.Goals as goal

pub returns-clause-problems : goal.returns-clause-problems
returns-clause-problems c tree k all =
    rw c.add_subsumed.ensures.flags at c.in_ok-add_of_class.ensures.problems tree k
    (c.in_ok-add_subsumed.ensures.problems tree k all)
