use Rattle.std.proofs.Common.{sym, ◌∙◌}
use Rattle.fancy_lex.proofs.LayoutLemmas.{between_end, between_no_layout}
use Rattle.fancy_lex.proofs.layout.begins_layout.Goals as goal

pub returns-in_default : goal.returns-in_default
returns-in_default c h = between_end _ _ c.in_default.ensures.value

pub returns-else-c-eq40 : goal.returns-else-c-eq40
returns-else-c-eq40 c h =
    between_no_layout _ _ _ _ c.in-Some.ensures.value c.if-c-eq40.false (sym c.is_layout.ensures ∙ h)
