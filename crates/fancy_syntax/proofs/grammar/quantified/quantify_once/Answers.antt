use Rattle.std.proofs.Common.{subst, OnOk}
use Rattle.fancy_syntax.proofs.PassedLemmas.{quant_counted}
use Rattle.fancy_syntax.proofs.grammar.quantified.quantify_once.Goals as goal

pub returns-clause-spans : goal.returns-clause-spans
returns-clause-spans g c l h =
    subst (λ m. OnOk c.repeat.result (g.S.Spanning.records c.repeat.new.spans m))
    (quant_counted _ _ _ _ _ l c.in_ok-rest.ensures.value c.in-Some.ensures.value)
    (c.repeat.ensures.spans _ (c.in_ok-pass_layout.ensures l h))
