use Rattle.std.proofs.Common.{◌≡◌, ◌||◌, refl, sym, ap, ◌∙◌}
use Rattle.pattern_facts.proofs.FirstLemmas.{full_put, next_put, beside_put}
use Rattle.pattern_facts.proofs.first.Beginning.with.Goals as goal
use Rattle.pattern_facts.proofs.first.Beginning.with.Goals.{then-self, else-self}

pub returns-then-not-self : goal.returns-then-not-self
returns-then-not-self c = λ u all rest t h n.
    full_put u c.args.kind all rest t c.args.self c.args.next c.in-Concat.is c.if-not-self.true h n

pub returns-in-Concat : goal.returns-in-Concat
returns-in-Concat c = λ u all rest t h n.
    next_put u c.args.kind all rest t c.args.self c.args.next
    (record { characters = c.in_ok-union-in-Concat.field-0; can_be_empty = c.args.next.can_be_empty }) c.in-Concat.is
    c.if-not-self.false c.in_ok-union-in-Concat.ensures refl h n

pub returns : goal.returns
returns c = λ u all rest t h n.
    let next = c.args.next.can_be_empty in
    let flag : c.if-self.result ≡ (c.args.self.can_be_empty || c.args.next.can_be_empty) = elim c.if-self.branch [
      | then-self w ↦ w.result-is ∙ w.if-self.true ∙ sym (ap (λ x. x || next) w.if-self.true)
      | else-self w ↦ w.result-is ∙ sym (ap (λ x. x || next) w.if-self.false)
    ] in
    beside_put u c.args.kind all rest t c.args.self c.args.next
    (record { characters = c.in_ok-union-in-Alt.field-0; can_be_empty = c.if-self.result }) c.in-Alt.is
    c.in_ok-union-in-Alt.ensures flag h n
