use Rattle.std.proofs.Common.{◌<◌, ◌∙◌, ap, sym, arith}
use Rattle.fancy_grammar.specs.Tree.{levels}
use Rattle.fancy_syntax.specs.View.{view, views}
use Rattle.fancy_syntax.proofs.Descents.{sweep_start, sweep_first, sweep_next, levels_of_child}
use Rattle.fancy_syntax.proofs.ResolvedLemmas.{all_resolved, resolved_below, resolved_next}
use Rattle.fancy_syntax.proofs.tree.resolved.+are_resolved.Goals as goal

pub loop-child-init : goal.loop-child-init
loop-child-init t c = record {
  sweep = sweep_start _ c.args.tree.now _ c.children_iter-children.ensures.values;
  so_far = resolved_below c.args.groups (view c.args.tree.now) (sym c.if-not-is_resolved.ensures)
      ∙ ap (all_resolved c.args.groups) (sym c.children_iter-children.ensures.trees);
}

pub are_resolved-requires : goal.are_resolved-requires
are_resolved-requires t c =
    let among = sweep_first _ c.args.tree.now c.in-Some.child.now _ _ c.loop-child.invariant.sweep
    c.in-Some.ensures.steps in
    let less : levels (view c.in-Some.child.now) < levels (view c.args.tree.now) =
    levels_of_child c.args.tree.now c.in-Some.child.now
    (ap views (sym c.children_iter-children.ensures.values) ∙ c.children_iter-children.ensures.trees) among in
    (omega (arith, less), tt)

pub loop-child-preserved : goal.loop-child-preserved
loop-child-preserved t c = record {
  sweep = sweep_next _ c.args.tree.now c.in-Some.child.now _ _ c.loop-child.invariant.sweep c.in-Some.ensures.steps
      (record { here = tt; below = λ d b. tt });
  so_far = resolved_next c.args.groups _ (view c.in-Some.child.now) _ _ (ap views c.in-Some.ensures.steps)
      (sym c.if-not-are_resolved.ensures) c.loop-child.invariant.so_far;
}
