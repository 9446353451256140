use Rattle.std.proofs.Common.{string_bytes, sym, ◌∙◌}
use Rattle.class_rules.proofs.mixed_range.is_range_at.Goals as goal

pub returns : goal.returns
returns c only = (
  string_bytes c.in-Some.alone,
  rw c.in-Some.is at c.in_ok-alone.ensures,
  c.in-Some-2.set,
  rw (c.in-Some-2.is, c.as_str.ensures.value) at c.in_ok-set.ensures,
  sym c.ranges-2.ensures ∙ c.is_only.ensures only,
)
