use Rattle.std.proofs.Common.{string_bytes}
use Rattle.class_rules.proofs.SetLemmas.{same_if_each}
use Rattle.class_rules.proofs.needless.is_needless.Goals as goal

pub returns : goal.returns
returns c within = (
  string_bytes c.in-Some.kept,
  rw c.in-Some.is at c.in_ok-kept.ensures,
  (
    c.in-Some-2.set,
    c.in-Some-3.other,
    rw c.in-Some-2.is at c.in_ok-set.ensures,
    rw (c.in-Some-3.is, c.as_str.ensures.value) at c.in_ok-other.ensures,
    λ d. same_if_each _ _ (c.in_ok-is_subset_of.ensures.0 c.if-not-branch.false d)
        (c.in_ok-is_within.ensures.0 within d),
  ),
)
