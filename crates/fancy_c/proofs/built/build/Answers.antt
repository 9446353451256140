use Rattle.std.proofs.Common.{refl}
use Rattle.std.proofs.lemmas.List.{drop_more}
use Rattle.fancy_syntax.specs.View.{view}
use Rattle.fancy_c.proofs.RowTreeLemmas.{row_built, built_more}
use Rattle.fancy_c.proofs.built.build.Goals as goal

pub returns : goal.returns
returns c =
    let texts = c.args.texts.now in
    let nodes = c.args.nodes.now in
    let below = c.requires.below in
    let row = row_built texts nodes c.args.index _ _ (view c.in_ok-tree.tree) _ (drop_more nodes c.args.index _ c.requires.index)
    refl c.in_ok-tree.ensures.row c.in_ok-tree.ensures.children (c.in_ok-children.ensures.trees texts nodes below) in
    built_more texts nodes c.args.index _ _ _ c.in_ok-push.ensures.items (record { rows = row.0; ends = row.1 })
    (c.in_ok-children.ensures.left texts nodes below)
