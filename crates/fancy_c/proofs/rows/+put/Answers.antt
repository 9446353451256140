use Rattle.std.proofs.Common.{◌+◌, ◌<◌, ◌∙◌, ap, sym, set, length, arith}
use Rattle.std.proofs.lemmas.Bool.{OnTrue_at}
use Rattle.fancy_grammar.specs.Tree.{levels, children}
use Rattle.fancy_syntax.specs.View.{view, views}
use Rattle.fancy_syntax.proofs.Descents.{sweep_start, sweep_first, sweep_next, levels_of_child}
use Rattle.fancy_c.specs.Node.{listed_each, row, rows, start_of_text, span_at}
use Rattle.fancy_c.specs.Buffer.{put_at}
use Rattle.fancy_c.proofs.RowLemmas.{putting_starts, putting_as, putting_next, putting_ends, putting_capacity, put_length}
use Rattle.fancy_c.proofs.RowLemmas.{listed_length, texts_size, row_put, text_put, text_position}
use Rattle.fancy_c.proofs.rows.+put.Goals as goal

pub put_children-loop-child-init : goal.put_children-loop-child-init
put_children-loop-child-init t c = record {
  sweep = sweep_start _ c.args.tree.now _ c.children_iter-children.ensures.values;
  putting = putting_starts _ _ _ _ _ _ _ (ap listed_each c.children_iter-children.ensures.trees) c.requires.nodes_capacity
      c.requires.bytes_capacity;
}

pub put_children-put_child-after-requires : goal.put_children-put_child-after-requires
put_children-put_child-after-requires t c =
    let among = sweep_first _ c.args.tree.now c.in-Some.child.now _ _ c.loop-child.invariant.sweep
    c.in-Some.ensures.steps in
    let less : levels (view c.in-Some.child.now) < levels (view c.args.tree.now) =
    levels_of_child c.args.tree.now c.in-Some.child.now
    (ap views (sym c.children_iter-children.ensures.values) ∙ c.children_iter-children.ensures.trees) among in
    let capacity = putting_capacity _ _ (ap (λ es. listed_each (views es)) c.in-Some.ensures.steps)
    c.loop-child.invariant.putting in
    (omega (arith, less), (capacity.0, capacity.1))

pub put_children-loop-child-preserved : goal.put_children-loop-child-preserved
put_children-loop-child-preserved t c =
    let put = c.put_child-after.ensures in
    record {
      sweep = sweep_next _ c.args.tree.now c.in-Some.child.now _ _ c.loop-child.invariant.sweep c.in-Some.ensures.steps
          (record { here = tt; below = λ d b. tt });
      putting = putting_next _ _ _ _ _ _ _ _ _ _ _ _ _ _ _ _
          (putting_as _ (ap (λ es. listed_each (views es)) c.in-Some.ensures.steps) c.loop-child.invariant.putting)
          put.after put.text_after put.nodes put.bytes;
    }

pub put_children-returns-clause-after : goal.put_children-returns-clause-after
put_children-returns-clause-after t c =
    (putting_ends _ _ _ _ _ _ _ _ _ _ _ c.loop-child.invariant.putting
    (ap (λ es. listed_each (views es)) c.in_default.ensures.steps.0)).0

pub put_children-returns-clause-text_after : goal.put_children-returns-clause-text_after
put_children-returns-clause-text_after t c =
    (putting_ends _ _ _ _ _ _ _ _ _ _ _ c.loop-child.invariant.putting
    (ap (λ es. listed_each (views es)) c.in_default.ensures.steps.0)).1

pub put_children-returns-clause-nodes : goal.put_children-returns-clause-nodes
put_children-returns-clause-nodes t c =
    (putting_ends _ _ _ _ _ _ _ _ _ _ _ c.loop-child.invariant.putting
    (ap (λ es. listed_each (views es)) c.in_default.ensures.steps.0)).2

pub put_children-returns-clause-bytes : goal.put_children-returns-clause-bytes
put_children-returns-clause-bytes t c =
    (putting_ends _ _ _ _ _ _ _ _ _ _ _ c.loop-child.invariant.putting
    (ap (λ es. listed_each (views es)) c.in_default.ensures.steps.0)).3

pub put_tree-put_text-requires : goal.put_tree-put_text-requires
put_tree-put_text-requires t c =
    let tree = view c.args.tree.now in
    omega (arith, c.requires.bytes_capacity, texts_size tree, ap length c.carried-text.ensures)

pub put_tree-put_children-after-requires : goal.put_tree-put_children-after-requires
put_tree-put_children-after-requires t c =
    let tree = view c.args.tree.now in
    let size = ap length c.carried-text.ensures in
    let text = ap length c.put_text.ensures.put
    ∙ put_length c.args.bytes.now c.args.before.text c.carried-text.result.now
    (omega (arith, c.requires.bytes_capacity, texts_size tree, size)) in (
      omega arith,
      (
        omega (arith, c.requires.nodes_capacity, listed_length tree),
        omega (arith, c.requires.bytes_capacity, texts_size tree, size, text, c.put_text.ensures.after),
      ),
    )

pub put_tree-returns-clause-after : goal.put_tree-returns-clause-after
put_tree-returns-clause-after t c =
    omega (arith, c.put_children-after.ensures.after, listed_length (view c.args.tree.now))

pub put_tree-returns-clause-text_after : goal.put_tree-returns-clause-text_after
put_tree-returns-clause-text_after t c =
    omega (
      arith,
      c.put_children-after.ensures.text_after,
      c.put_text.ensures.after,
      texts_size (view c.args.tree.now),
      ap length c.carried-text.ensures,
    )

pub put_tree-returns-clause-nodes : goal.put_tree-returns-clause-nodes
put_tree-returns-clause-nodes t c =
    let tree = view c.args.tree.now in
    let n = c.args.before.rows in
    let put = c.put_children-after.ensures in
    let at_text = text_position _ _ _ _ c.carried-text.ensures c.put_text.ensures.after in
    let spans = span_at c.args.spans.now in
    ap (λ r. set c.put_children-after.new.nodes n r) c.row.ensures
    ∙ ap (λ s. set c.put_children-after.new.nodes n (row (record {
      end = c.put_children-after.result.rows;
      text = c.start_of_text.result;
      span = s;
    }) tree)) c.span_at.ensures
    ∙ row_put spans tree c.args.nodes.now c.put_children-after.new.nodes n c.args.before.text
    c.put_children-after.result.rows _ put.after
    (c.start_of_text.ensures ∙ ap (start_of_text c.args.before.text) c.carried-text.ensures) c.requires.nodes_capacity
    (put.nodes ∙ ap (λ o. put_at c.args.nodes.now (n + 1) (rows spans (n + 1) o (listed_each (children tree)))) at_text)

pub put_tree-returns-clause-bytes : goal.put_tree-returns-clause-bytes
put_tree-returns-clause-bytes t c =
    let at_text = text_position _ _ _ _ c.carried-text.ensures c.put_text.ensures.after in
    text_put (view c.args.tree.now) c.args.bytes.now c.put_text.new.bytes c.put_children-after.new.bytes
    c.args.before.text c.put_text.result at_text c.requires.bytes_capacity
    (c.put_text.ensures.put ∙ ap (put_at c.args.bytes.now c.args.before.text) c.carried-text.ensures)
    c.put_children-after.ensures.bytes

pub put_child-put_leaf-requires : goal.put_child-put_leaf-requires
put_child-put_leaf-requires t c = record {
  childless = OnTrue_at c.if-is_leaf_node.true c.is_leaf_node.ensures.childless;
  nodes_capacity = c.requires.nodes_capacity;
  bytes_capacity = c.requires.bytes_capacity;
}

pub put_child-put_tree-requires : goal.put_child-put_tree-requires
put_child-put_tree-requires t c = (omega arith, (c.requires.nodes_capacity, c.requires.bytes_capacity))
