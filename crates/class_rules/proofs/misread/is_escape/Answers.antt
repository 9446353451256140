use Rattle.std.proofs.Common.{◌∷◌, ◌∙◌, ap, chars}
use Rattle.std.proofs.lemmas.Bool.Decides.{Decides-eqb}
use Rattle.class_rules.proofs.CutLemmas.{text_at}
use Rattle.class_rules.proofs.misread.is_escape.Goals as goal

pub returns-in-Some-next : goal.returns-in-Some-next
returns-in-Some-next c is = (
  c.in-Some.text.now,
  chars c.in-Some-next.field-0-1.now,
  text_at _ _ _ c.in-Some.ensures.0 c.in-Some.ensures.1 c.in-Some.ensures.2,
  c.in-Some-next.ensures.value ∙ ap (λ x. x ∷ chars c.in-Some-next.field-0-1.now) ((Decides-eqb c.in-Some-next.c 92).0 is),
)
