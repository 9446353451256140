use Rattle.std.proofs.Common.{◌≡◌, length, ap, arith, ◌∙◌}
use Rattle.fancy_syntax.specs.InfoViews.{info_of}
use Rattle.fancy_syntax.specs.View.{view}
use Rattle.fancy_c.specs.Buffer.{put_at}
use Rattle.fancy_c.specs.InfoRows.{name_rows}
use Rattle.fancy_c.specs.Node.{listed, rows as listed_rows, span_at, texts}
use Rattle.fancy_c.proofs.NameRowLemmas.{names_length}
use Rattle.fancy_c.proofs.NodesLemmas.{filled, texts_put}
use Rattle.fancy_c.proofs.NumberedLemmas.{numbered_length, rows_numbered}
use Rattle.fancy_c.proofs.RowLemmas.{rows_length}
use Rattle.fancy_c.proofs.nodes.put_all.Goals as goal

pub returns : goal.returns
returns c =
    let t = view c.args.tree.now.expr in
    let m = info_of c.args.tree.now in
    let put = c.put_tree-after.ensures in
    let at : c.put_tree-after.result.text ≡ length (texts (listed t)) = omega (arith, put.text_after) in
    let spans = span_at c.args.spans.now in
    let rows = rows_length spans 0 0 (listed t) in
    let count : c.put_tree-after.result.rows ≡ length (listed_rows spans 0 0 (listed t)) = omega (arith, put.after, rows) in
    record {
      nodes_are = filled _ _ _ (omega (arith, c.requires.nodes_capacity, rows, numbered_length 0 (listed_rows spans 0 0 (listed t))))
          (rows_numbered _ _ _ (listed_rows spans 0 0 (listed t)) c.put_tree-after.result.rows count put.nodes
          c.number_groups.ensures);
      texts_are = filled _ _ _ c.requires.texts_capacity
          (texts_put _ _ _ _ _ _ put.text_after put.bytes c.put_names.ensures.bytes);
      names_are = filled _ _ _
          (omega (arith, c.requires.names_capacity, names_length (length (texts (listed t))) 0 m.named_groups))
          (c.put_names.ensures.names ∙ ap (λ o. put_at c.args.names.now 0 (name_rows o m.named_groups)) at);
      backrefs_are = filled _ _ _ c.requires.backrefs_capacity c.put_backrefs.ensures;
    }
