use Rattle.std.proofs.Common.{sym, ◌∙◌}
use Rattle.fancy_lex.proofs.LayoutLemmas.{between_other}
use Rattle.fancy_lex.proofs.layout.read_units.Goals as goal

pub returns-else-is_blank-clause-value : goal.returns-else-is_blank-clause-value
returns-else-is_blank-clause-value c =
    c.loop-inside.invariant.same
    ∙ between_other _ _ _ _ c.in-Some-next.ensures.value c.in_default.ensures.value c.if-not-ignore_space.false
    c.if-c-eq35.false (sym c.if-is_blank.ensures)
