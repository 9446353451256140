use Rattle.class_rules.proofs.subsumed.is_subsumed.Goals as goal

pub returns : goal.returns
returns c within = (
  c.in-Some.set,
  c.in-Some-2.others,
  rw c.in-Some.is at c.in_ok-set.ensures,
  rw c.in-Some-2.is at c.in_ok-others.ensures,
  c.in_ok-within.ensures.0 within,
)
