use Rattle.std.proofs.Common.{◌≡◌, ◌||◌, ◌==◌, refl, sym, ap, ◌∙◌}
use Rattle.fancy_syntax.specs.Shape.{label_of}
use Rattle.pattern_facts.proofs.FirstLemmas.{around_repeat, not_zero}
use Rattle.pattern_facts.proofs.first.beginning_around.Goals as goal
use Rattle.pattern_facts.proofs.first.beginning_around.Goals.{then-lo-eq0, else-lo-eq0}

pub returns-after-lo-eq0 : goal.returns-after-lo-eq0
returns-after-lo-eq0 c = λ u t h.
    let lo = c.in-Repeat.lo in
    let empty = c.in-Some.child.can_be_empty in
    let flag : c.if-lo-eq0.result ≡ ((c.in-Repeat.lo == 0) || c.in-Some.child.can_be_empty) = elim c.if-lo-eq0.branch [
      | then-lo-eq0 w ↦ w.result-is ∙ ap (λ n. n == 0) w.if-lo-eq0.true
          ∙ sym (ap (λ n. (n == 0) || empty) w.if-lo-eq0.true)
      | else-lo-eq0 w ↦ w.result-is ∙ sym (ap (λ x. x || empty) (not_zero lo w.if-lo-eq0.false))
    ] in
    around_repeat u t (label_of c.args.wrap) c.in-Repeat.lo c.in-Repeat.hi c.in-Repeat.greedy c.args.child
    c.in-Some.child (record { characters = c.in-Some.child.characters; can_be_empty = c.if-lo-eq0.result })
    (ap label_of c.in-Repeat.is) c.in-Some.is c.if-lo-hi.true refl flag h
