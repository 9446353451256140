use Rattle.std.proofs.Common.{◌≡◌, refl, sym, subst, ◌∙◌}
use Rattle.std.specs.Result.{OnOk}
use Rattle.fancy_syntax.specs.LogViews.{log_of}
use Rattle.fancy_syntax.proofs.PassedLemmas.{filled_inner, filled_next, filled_end}
use Rattle.fancy_syntax.proofs.grammar.spans.Spans.fill.Goals as goal

pub loop-part-preserved-then-part-from : goal.loop-part-preserved-then-part-from
loop-part-preserved-then-part-from c =
    c.loop-part.invariant
    ∙ filled_inner c.args.parts.now c.loop-part.part-index _ c.loop-part.from c.args.end _ _
    c.loop-part-test.true c.if-part-from.true c.in_ok-pass.ensures

pub loop-part-preserved : goal.loop-part-preserved
loop-part-preserved c =
    c.loop-part.invariant
    ∙ filled_next c.args.parts.now c.loop-part.part-index _ c.loop-part.from c.args.end _ _ _
    c.loop-part-test.true c.if-part-from.false (c.in_ok-drop_text.ensures _ refl)
    c.in_ok-pass-2.ensures

pub returns : goal.returns
returns c =
    let all = filled_end c.args.parts.now c.loop-part.part-index c.loop-part.from c.args.end _ c.loop-part-test.false in
    subst (λ l. OnOk c.drop_text-2.result (log_of c.drop_text-2.new.self ≡ l)) (sym (c.loop-part.invariant ∙ all))
    (c.drop_text-2.ensures _ refl)
