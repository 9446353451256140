use Rattle.std.proofs.Common.{◌∷◌, ◌∙◌, ap}
use Rattle.class_rules.proofs.CutLemmas.{text_at, empty_chars}
use Rattle.class_rules.proofs.class_look.plain_character.Goals as goal

pub returns-then-is_empty : goal.returns-then-is_empty
returns-then-is_empty c = (
  c.in_ok-text.field-0.now,
  text_at _ _ _ c.in_ok-text.ensures.0 c.in_ok-text.ensures.1 c.in_ok-text.ensures.2,
  c.in_ok-c.ensures.value ∙ ap (λ cs. c.in_ok-c.c ∷ cs) (empty_chars _ _ c.is_empty.ensures c.if-is_empty.true),
)
