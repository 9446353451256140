use Rattle.std.proofs.Common.{chars}
use Rattle.class_rules.proofs.CutLemmas.{text_at}
use Rattle.class_rules.proofs.class_look.begins_as_choice.Goals as goal

pub returns-in-Some-next : goal.returns-in-Some-next
returns-in-Some-next c is = (
  c.in-Some.text.now,
  chars c.in-Some-next.field-0-1.now,
  c.in-Some-next.c,
  text_at _ _ _ c.in-Some.ensures.0 c.in-Some.ensures.1 c.in-Some.ensures.2,
  c.in-Some-next.ensures.value,
  c.is_choice_character.ensures is,
)
