use Rattle.class_rules.proofs.CutLemmas.{text_at}
use Rattle.class_rules.proofs.misread.is_hyphen_range.Goals as goal

pub returns-in-Some-plain_range : goal.returns-in-Some-plain_range
returns-in-Some-plain_range c meant = (
  c.in-Some.text.now,
  text_at _ _ _ c.in-Some.ensures.0 c.in-Some.ensures.1 c.in-Some.ensures.2,
  c.in-Some-plain_range.start,
  c.in-Some-plain_range.end,
  c.in-Some-plain_range.ensures,
  c.is_meant_as_hyphen.ensures meant,
)
