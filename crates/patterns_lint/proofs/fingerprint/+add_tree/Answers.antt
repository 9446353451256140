use Rattle.std.proofs.Common.{◌<◌, ◌∙◌, ap, sym, arith}
use Rattle.fancy_syntax.specs.Children.{remaining_children}
use Rattle.fancy_syntax.specs.Tree.{levels}
use Rattle.fancy_syntax.specs.View.{view, views}
use Rattle.fancy_syntax.proofs.Descents.{sweep_start, sweep_first, sweep_next, levels_of_child}
use Rattle.patterns_lint.proofs.fingerprint.+add_tree.Goals as goal

pub loop-child-init : goal.loop-child-init
loop-child-init t c =
    sweep_start _ c.args.tree.now _ (ap remaining_children c.into_iter-child-iterator.ensures.into_iter_gives
    ∙ c.children_iter-child-items.ensures.values)

pub add_tree-requires : goal.add_tree-requires
add_tree-requires t c =
    let among = sweep_first _ c.args.tree.now c.in-Some.child.now _ _ c.loop-child.invariant c.in-Some.ensures.steps in
    let less : levels (view c.in-Some.child.now) < levels (view c.args.tree.now) =
    levels_of_child c.args.tree.now c.in-Some.child.now
    (ap views (sym c.children_iter-child-items.ensures.values) ∙ c.children_iter-child-items.ensures.trees) among in
    (omega (arith, less), tt)

pub loop-child-preserved : goal.loop-child-preserved
loop-child-preserved t c =
    sweep_next _ c.args.tree.now c.in-Some.child.now _ _ c.loop-child.invariant c.in-Some.ensures.steps
    (record { here = tt; below = λ d b. tt })
