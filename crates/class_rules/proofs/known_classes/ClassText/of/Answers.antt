use Rattle.std.proofs.Common.{sym, ◌∙◌}
use Rattle.class_rules.proofs.CutLemmas.{text_at}
use Rattle.class_rules.proofs.KnownLemmas.{delegates}
use Rattle.class_rules.proofs.known_classes.ClassText.of.Goals as goal

pub returns : goal.returns
returns c = (
  delegates _ _ _ _ (sym c.expr.ensures ∙ c.in-Delegate.is) c.as_str.ensures.value,
  text_at _ _ _ c.in_ok-text.ensures.0 c.in_ok-text.ensures.1 c.in_ok-text.ensures.2,
)
