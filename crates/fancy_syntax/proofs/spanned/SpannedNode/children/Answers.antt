use Rattle.std.proofs.Common.{◌∙◌, ap}
use Rattle.fancy_syntax.specs.View.{views}
use Rattle.fancy_syntax.proofs.SpannedLemmas.{children_whole, side_exprs, side_spans, side_whole}
use Rattle.fancy_syntax.proofs.spanned.SpannedNode.children.Goals as goal

pub returns-clause-trees : goal.returns-clause-trees
returns-clause-trees c = ap views (side_exprs _ _ _) ∙ c.children_iter.ensures.trees

pub returns-clause-exprs : goal.returns-clause-exprs
returns-clause-exprs c = side_exprs _ _ _ ∙ c.children_iter.ensures.values

pub returns-clause-whole : goal.returns-clause-whole
returns-clause-whole c w =
    side_whole _ _ _
    (children_whole _ _ _ _ c.children_iter.ensures.trees c.past_first.ensures c.past_first-2.ensures w)

pub returns-clause-spans : goal.returns-clause-spans
returns-clause-spans c w =
    side_spans _ _ _
    (children_whole _ _ _ _ c.children_iter.ensures.trees c.past_first.ensures c.past_first-2.ensures w) ∙
    c.past_first.ensures
