use Rattle.fancy_syntax.specs.InfoViews.{info_of}
use Rattle.fancy_syntax.specs.View.{view}
use Rattle.fancy_c.proofs.pattern_nodes.fancy_to_pattern_nodes_nonnull.Goals as goal

pub returns-in-Ok-clause-unwritten : goal.returns-in-Ok-clause-unwritten
returns-in-Ok-clause-unwritten c = λ is. (
  view c.in-Ok.tree.expr,
  info_of c.in-Ok.tree,
  c.in-Ok.ensures,
  c.put_pattern.ensures.no_pattern is,
)
