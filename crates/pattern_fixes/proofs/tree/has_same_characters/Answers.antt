use Rattle.pattern_fixes.proofs.SetLemmas.{same_if_each}
use Rattle.pattern_fixes.proofs.tree.has_same_characters.Goals as goal

pub returns : goal.returns
returns c within = (
  c.in-Some.set,
  c.in-Some-2.other,
  rw c.in-Some.is at c.in_ok-set.ensures,
  rw c.in-Some-2.is at c.in_ok-other.ensures,
  λ d. same_if_each _ _ (c.in_ok-is_subset_of.ensures.0 c.if-not-branch.false d)
      (c.in_ok-is_within.ensures.0 within d),
)
