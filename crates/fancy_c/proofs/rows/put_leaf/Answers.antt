use Rattle.std.proofs.Common.{◌+◌, ◌∙◌, ap, sym, set, length, arith}
use Rattle.fancy_syntax.specs.View.{view}
use Rattle.fancy_c.specs.Node.{row, start_of_text, span_at}
use Rattle.fancy_c.specs.Buffer.{put_at}
use Rattle.fancy_c.proofs.RowLemmas.{leaf_length, leaf_size, leaf_texts, leaf_put}
use Rattle.fancy_c.proofs.rows.put_leaf.Goals as goal

pub put_text-requires : goal.put_text-requires
put_text-requires c =
    omega (
      arith,
      c.requires.bytes_capacity,
      leaf_size (view c.args.leaf.now) c.requires.childless,
      ap length c.carried-text.ensures,
    )

pub returns-clause-after : goal.returns-clause-after
returns-clause-after c = omega (arith, leaf_length (view c.args.leaf.now) c.requires.childless)

pub returns-clause-text_after : goal.returns-clause-text_after
returns-clause-text_after c =
    omega (
      arith,
      c.put_text.ensures.after,
      leaf_size (view c.args.leaf.now) c.requires.childless,
      ap length c.carried-text.ensures,
    )

pub returns-clause-nodes : goal.returns-clause-nodes
returns-clause-nodes c =
    let leaf = view c.args.leaf.now in
    let n = c.args.before.rows in
    ap (λ r. set c.args.nodes.now n r) c.row.ensures
    ∙ ap (λ s. set c.args.nodes.now n (row (record {
      end = n + 1;
      text = c.start_of_text.result;
      span = s;
    }) leaf)) c.span_at-span.ensures
    ∙ leaf_put (span_at c.args.spans.now) leaf c.args.nodes.now n c.args.before.text (n + 1) _ c.requires.childless
    (omega arith)
    (c.start_of_text.ensures ∙ ap (start_of_text c.args.before.text) c.carried-text.ensures) c.requires.nodes_capacity

pub returns-clause-bytes : goal.returns-clause-bytes
returns-clause-bytes c =
    c.put_text.ensures.put
    ∙ ap (put_at c.args.bytes.now c.args.before.text)
    (c.carried-text.ensures ∙ sym (leaf_texts (view c.args.leaf.now) c.requires.childless))
