use Rattle.std.proofs.Common.{rules, ◌<◌, ◌∙◌, ap, sym, arith, map}
use Rattle.fancy_syntax.specs.Spanned.{remaining_spanned, spanned_of}
use Rattle.fancy_syntax.specs.Tree.{levels}
use Rattle.fancy_syntax.specs.View.{view, views}
use Rattle.fancy_syntax.proofs.Descents.{within_start, within_first, within_next, levels_of_child}
use Rattle.patterns_listing.proofs.drawing.+draw.Goals as goal

pub loop-child-init : goal.loop-child-init
loop-child-init t c =
    within_start (spanned_of c.args.node).expr _
    (ap (λ i. map (λ p. p.expr) (remaining_spanned i)) c.into_iter-child-iterator.ensures.into_iter_gives
    ∙ c.children-child-items.ensures.exprs)

pub draw-requires : goal.draw-requires
draw-requires t c =
    let e = (spanned_of c.args.node).expr in
    let child = (spanned_of c.in-Some.child).expr in
    let among = within_first e child _ _ c.loop-child.invariant (ap (map (λ p. p.expr)) c.in-Some.ensures.steps) in
    let less : levels (view child) < levels (view e) =
    levels_of_child e child
    (ap views (sym c.children-child-items.ensures.exprs) ∙ c.children-child-items.ensures.trees) among in
    (omega (arith, less), search rules)

pub loop-child-preserved : goal.loop-child-preserved
loop-child-preserved t c =
    within_next (spanned_of c.args.node).expr (spanned_of c.in-Some.child).expr _ _ c.loop-child.invariant
    (ap (map (λ p. p.expr)) c.in-Some.ensures.steps)

pub loop-child-preserved-then-branch-2 : goal.loop-child-preserved-then-branch-2
loop-child-preserved-then-branch-2 t c =
    within_next (spanned_of c.args.node).expr (spanned_of c.in-Some.child).expr _ _ c.loop-child.invariant
    (ap (map (λ p. p.expr)) c.in-Some.ensures.steps)
