use Rattle.std.proofs.Common.{rules, refl, ap, sym, Some, ◌∙◌}
use Rattle.fancy_syntax.specs.declared.expr.Expr.{Concat, Alt, the_lemmas}
use Rattle.fancy_syntax.proofs.WriteLemmas.{rewrites_Concat, rewrites_Alt, child_Concat, child_Alt}
use Rattle.fancy_syntax.proofs.expr.child_mut.ExprParent.list_mut.Goals as goal

pub returns-in-Concat : goal.returns-in-Concat
returns-in-Concat c = (
  (
    refl,
    (λ w. rewrites_Concat _ _ _ w (c.in-Concat.is ∙ ap Concat (sym c.in-Concat.children-is))
        (search (rules, the_lemmas))),
    refl,
  ),
  record {
    writes_back = tt;
    value = λ i. ap Some
        (child_Concat _ _ i (c.in-Concat.is ∙ ap Concat (sym c.in-Concat.children-is)));
  },
)

pub returns-in-Alt : goal.returns-in-Alt
returns-in-Alt c = (
  (
    refl,
    (λ w. rewrites_Alt _ _ _ w (c.in-Alt.is ∙ ap Alt (sym c.in-Alt.children-is)) (search (rules, the_lemmas))),
    refl,
  ),
  record { writes_back = tt; value = λ i. ap Some (child_Alt _ _ i (c.in-Alt.is ∙ ap Alt (sym c.in-Alt.children-is))) },
)
