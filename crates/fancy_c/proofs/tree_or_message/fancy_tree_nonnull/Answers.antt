use Rattle.fancy_syntax.specs.InfoViews.{info_of}
use Rattle.fancy_syntax.specs.View.{view}
use Rattle.fancy_c.proofs.NodesLemmas.{is_summary_of, suffices}
use Rattle.fancy_c.proofs.tree_or_message.fancy_tree_nonnull.Goals as goal

pub returns-in-Ok-clause-read : goal.returns-in-Ok-clause-read
returns-in-Ok-clause-read c =
    let t = view c.in-Ok.parsed.tree.expr in
    let m = info_of c.in-Ok.parsed.tree in
    λ is. (
      t,
      m,
      c.in-Ok.parsed.spans.items,
      is_summary_of _ _ t m _ c.in-Ok.ensures.tree c.write_tree.ensures.info,
      c.in-Ok.ensures.spans,
      c.write_tree.ensures.read is,
    )

pub returns-in-Ok-clause-short : goal.returns-in-Ok-clause-short
returns-in-Ok-clause-short c =
    let t = view c.in-Ok.parsed.tree.expr in
    let m = info_of c.in-Ok.parsed.tree in
    λ is none. (
      t,
      m,
      is_summary_of _ _ t m _ c.in-Ok.ensures.tree c.write_tree.ensures.info,
      c.write_tree.ensures.short is,
    )

pub returns-in-Ok-clause-enough : goal.returns-in-Ok-clause-enough
returns-in-Ok-clause-enough c =
    let t = view c.in-Ok.parsed.tree.expr in
    let m = info_of c.in-Ok.parsed.tree in
    λ enough is none.
    suffices (is_summary_of _ _ t m _ c.in-Ok.ensures.tree c.write_tree.ensures.info) enough (c.write_tree.ensures.short is)
