use Rattle.std.proofs.Common.{◌≡◌, refl, subst, ◌∙◌, arith, length}
use Rattle.std.specs.Result.{OnOk}
use Rattle.fancy_syntax.specs.LogViews.{log_of}
use Rattle.fancy_syntax.proofs.PassedLemmas.{conditional_recorded}
use Rattle.fancy_syntax.proofs.grammar.spans.Spans.drop_conditional.Goals as goal

pub returns : goal.returns
returns c =
    let self = c.args.self.now in
    let many : self.passed.len ≡ length self.passed.items = omega (arith, self.passed.ok) in
    let before = rw (c.min.ensures, c.len.ensures) at c.in_ok-body.ensures.items in
    let after = c.deref.ensures.value ∙ (rw (c.min.ensures, c.len.ensures) at c.in_ok-body.ensures.tail) in
    let all = conditional_recorded (log_of self) _ self.passed.items _ _ c.in-Some.condition self.passed.len c.args.end
    refl c.in-Some.is many before after (rw c.truncate.ensures.items at c.in_ok-insert_dropped.ensures) in
    subst (λ m. OnOk c.fill.result (log_of c.fill.new.self ≡ m)) all c.fill.ensures
