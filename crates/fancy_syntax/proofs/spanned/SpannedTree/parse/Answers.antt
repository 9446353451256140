use Rattle.std.proofs.Common.{sym, ◌∙◌}
use Rattle.std.proofs.lemmas.List.{length-map}
use Rattle.fancy_syntax.specs.SpanViews.{span_of}
use Rattle.fancy_syntax.proofs.SpannedLemmas.{whole_of_nodes}
use Rattle.fancy_syntax.proofs.spanned.SpannedTree.parse.Goals as goal

pub returns-clause-whole : goal.returns-clause-whole
returns-clause-whole c =
    let parsed = c.in_ok-tree.ensures in
    whole_of_nodes _ c.in_ok-sizes.ensures parsed.tree.returned.nodes (sym (length-map _ span_of) ∙ parsed.spans.each)
