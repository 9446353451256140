use Rattle.std.proofs.Common.{◌<◌, ◌∙◌, ap, sym, arith, map}
use Rattle.fancy_syntax.specs.Spanned.{remaining_spanned, spanned_of}
use Rattle.fancy_syntax.specs.Tree.{levels}
use Rattle.fancy_syntax.specs.View.{view, views}
use Rattle.fancy_syntax.proofs.Descents.{within_start, within_first, within_next, levels_of_child}
use Rattle.fancy_syntax.proofs.NodeLemmas.{child_of, remain_start, remain_first, remain_next}
use Rattle.class_rules.proofs.class_walk.+walk.Goals as goal

pub loop-child-init : goal.loop-child-init
loop-child-init t c = record {
  within = within_start (spanned_of c.args.node).expr _
      (ap (λ i. map (λ p. p.expr) (remaining_spanned i)) c.into_iter-child-iterator.ensures.into_iter_gives
      ∙ c.children-child-items.ensures.exprs);
  left = remain_start (spanned_of c.args.node) _
      (ap remaining_spanned c.into_iter-child-iterator.ensures.into_iter_gives ∙ c.children-child-items.ensures.values);
  flags = c.look_at.ensures.flags;
  kept = c.in_ok-look_at.ensures.problems;
}

pub walk-requires : goal.walk-requires
walk-requires t c =
    let e = (spanned_of c.args.node).expr in
    let child = (spanned_of c.in-Some.child).expr in
    let among = within_first e child _ _ c.loop-child.invariant.within (ap (map (λ p. p.expr)) c.in-Some.ensures.steps) in
    let less : levels (view child) < levels (view e) =
    levels_of_child e child
    (ap views (sym c.children-child-items.ensures.exprs) ∙ c.children-child-items.ensures.trees) among in
    (omega (arith, less), tt)

pub loop-child-preserved : goal.loop-child-preserved
loop-child-preserved t c =
    let node = spanned_of c.args.node in
    let child = spanned_of c.in-Some.child in
    let below = remain_first node child _ _ c.loop-child.invariant.left c.in-Some.ensures.steps in
    record {
      within = within_next node.expr child.expr _ _ c.loop-child.invariant.within (ap (map (λ p. p.expr)) c.in-Some.ensures.steps);
      left = remain_next node child _ _ c.loop-child.invariant.left c.in-Some.ensures.steps;
      flags = c.walk.ensures.flags ∙ c.loop-child.invariant.flags;
      kept = λ tree k all. rw c.loop-child.invariant.flags at c.in_ok-walk.ensures.problems tree (child_of child node tree below k)
          (c.loop-child.invariant.kept tree k all);
    }
