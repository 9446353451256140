use Rattle.std.proofs.Common.{◌∙◌, ◌++◌, ◌∷◌, [], ap, sym, refl}
use Rattle.std.proofs.lemmas.List.{take-map}
use Rattle.std.proofs.lemmas.Result.{on_ok_weaker}
use Rattle.fancy_syntax.specs.View.{view, views}
use Rattle.fancy_syntax.proofs.TreeLemmas.{view_Alt}
use Rattle.fancy_syntax.proofs.TreesLemmas.{branches_taken, branches_below}
use Rattle.fancy_syntax.proofs.grammar.frame.Frame.join.Goals as goal

pub returns-clause-trees : goal.returns-clause-trees
returns-clause-trees g c below branches pieces h =
    let f = c.args.self.now in
    let es = c.join_branch.new.trees.items in
    let put = c.in_ok-join_branch.ensures.trees in
    let taken = c.in_ok-branches.ensures in
    let alt = view_Alt c.in_ok-branches.branches
    ∙ branches_taken f below branches pieces _ es _ h refl put c.if-self.false taken.above in
    let rest = ap views taken.below ∙ sym (take-map view f.branches es)
    ∙ branches_below f below branches pieces _ es h refl put in
    on_ok_weaker c.push.result (λ e. e ∙ (λ i. rest i ++ alt i ∷ [])) c.push.ensures
