use Rattle.std.proofs.Common.{◌≡◌, ◌∙◌, ap, sym, Ok}
use Rattle.patterns_program.proofs.run.FileRunVisitor.pattern.Goals as goal

pub returns-clause-check : goal.returns-clause-check
returns-clause-check g c = λ is_check good.
    c.in_ok-found.ensures.check is_check (ap Ok (c.and-self.ensures.good.0 (sym c.in_ok-put_unless_held.ensures.outcome ∙ good)).1)
