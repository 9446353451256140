use Rattle.std.proofs.Common.{◌<◌, ◌∙◌, ap, sym, arith}
use Rattle.std.proofs.lemmas.Bool.{OnTrue_at}
use Rattle.fancy_grammar.specs.Tree.{levels}
use Rattle.fancy_syntax.specs.View.{view, views}
use Rattle.fancy_syntax.proofs.Descents.{sweep_start, sweep_first, sweep_next, levels_of_child}
use Rattle.fancy_c.specs.Node.{listed_each}
use Rattle.fancy_c.proofs.RowLemmas.{rows_count_starts, rows_count_next, rows_count_ends, leaf_length, leaf_size}
use Rattle.fancy_c.proofs.rows.+count.Goals as goal

pub count-loop-child-init : goal.count-loop-child-init
count-loop-child-init t c = record {
  sweep = sweep_start _ c.args.tree.now _ c.children_iter-children.ensures.values;
  counting = rows_count_starts c.args.before.rows c.args.before.text _ _ (view c.args.tree.now) _
      (ap listed_each c.children_iter-children.ensures.trees)
      c.count_node-after.ensures.nodes c.count_node-after.ensures.text;
}

pub count-count_child-after-requires : goal.count-count_child-after-requires
count-count_child-after-requires t c =
    let among = sweep_first _ c.args.tree.now c.in-Some.child.now _ _ c.loop-child.invariant.sweep
    c.in-Some.ensures.steps in
    let less : levels (view c.in-Some.child.now) < levels (view c.args.tree.now) =
    levels_of_child c.args.tree.now c.in-Some.child.now
    (ap views (sym c.children_iter-children.ensures.values) ∙ c.children_iter-children.ensures.trees) among in
    (omega (arith, less), tt)

pub count-loop-child-preserved : goal.count-loop-child-preserved
count-loop-child-preserved t c = record {
  sweep = sweep_next _ c.args.tree.now c.in-Some.child.now _ _ c.loop-child.invariant.sweep c.in-Some.ensures.steps
      (record { here = tt; below = λ d b. tt });
  counting = rows_count_next _ _ _ _ c.loop-child.invariant.counting
      (ap (λ es. listed_each (views es)) c.in-Some.ensures.steps)
      c.count_child-after.ensures.nodes c.count_child-after.ensures.text;
}

pub count-returns-clause-nodes : goal.count-returns-clause-nodes
count-returns-clause-nodes t c =
    (rows_count_ends c.loop-child.invariant.counting (ap (λ es. listed_each (views es)) c.in_default.ensures.steps.0)).0

pub count-returns-clause-text : goal.count-returns-clause-text
count-returns-clause-text t c =
    (rows_count_ends c.loop-child.invariant.counting (ap (λ es. listed_each (views es)) c.in_default.ensures.steps.0)).1

pub count_child-count-requires : goal.count_child-count-requires
count_child-count-requires t c = (omega arith, tt)

pub count_child-returns-then-is_leaf_node-clause-nodes : goal.count_child-returns-then-is_leaf_node-clause-nodes
count_child-returns-then-is_leaf_node-clause-nodes t c =
    let childless = OnTrue_at c.if-is_leaf_node.true c.is_leaf_node.ensures.childless in
    omega (arith, c.count_node.ensures.nodes, leaf_length (view c.args.tree.now) childless)

pub count_child-returns-then-is_leaf_node-clause-text : goal.count_child-returns-then-is_leaf_node-clause-text
count_child-returns-then-is_leaf_node-clause-text t c =
    let childless = OnTrue_at c.if-is_leaf_node.true c.is_leaf_node.ensures.childless in
    omega (arith, c.count_node.ensures.text, leaf_size (view c.args.tree.now) childless)
