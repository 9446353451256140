use Rattle.class_rules.proofs.CutLemmas.{text_at}
use Rattle.class_rules.proofs.mixed_range.is_wide.Goals as goal

pub returns-in-Some-plain_range : goal.returns-in-Some-plain_range
returns-in-Some-plain_range c wide = (
  c.in-Some.text.now,
  text_at _ _ _ c.in-Some.ensures.0 c.in-Some.ensures.1 c.in-Some.ensures.2,
  c.in-Some-plain_range.start,
  c.in-Some-plain_range.end,
  c.in-Some-plain_range.ensures,
  c.are_of_several_kinds.ensures wide,
)
