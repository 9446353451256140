use Rattle.std.proofs.Common.{◌∙◌, ◌++◌, ◌∷◌, [], ap, sym}
use Rattle.std.proofs.lemmas.List.{take-map}
use Rattle.fancy_syntax.specs.View.{view, views}
use Rattle.fancy_syntax.proofs.TreeLemmas.{view_Alt}
use Rattle.fancy_syntax.proofs.TreesLemmas.{branches_taken, branches_below}
use Rattle.fancy_syntax.proofs.grammar.frame.Frame.finish.Goals as goal

pub returns-clause-tree : goal.returns-clause-tree
returns-clause-tree g c below branches pieces h =
    let put = c.in_ok-push.ensures ∙ ap (λ l. l ++ view c.in_ok-branch.branch ∷ []) c.in_ok-branch.ensures.below in
    view_Alt _
    ∙ branches_taken c.args.self.now below branches pieces (view c.in_ok-branch.branch) c.push.new.trees.items _ h
    c.in_ok-branch.ensures.tree put c.if-self.false c.in_ok-take_above.ensures.above

pub returns-clause-below : goal.returns-clause-below
returns-clause-below g c below branches pieces h =
    let put = c.in_ok-push.ensures ∙ ap (λ l. l ++ view c.in_ok-branch.branch ∷ []) c.in_ok-branch.ensures.below in
    ap views c.in_ok-take_above.ensures.below ∙ sym (take-map view c.args.self.now.branches c.push.new.trees.items)
    ∙ branches_below c.args.self.now below branches pieces (view c.in_ok-branch.branch) c.push.new.trees.items h
    c.in_ok-branch.ensures.tree put
