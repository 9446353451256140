use Rattle.std.proofs.Common.{◌∙◌, ◌≤◌, ◌+◌, length, ap, sym, arith}
use Rattle.std.proofs.lemmas.List.{take-map}
use Rattle.fancy_grammar.specs.Tree.{concat}
use Rattle.fancy_syntax.specs.View.{view, views}
use Rattle.fancy_syntax.proofs.TreeLemmas.{view_Concat}
use Rattle.fancy_syntax.proofs.TreesLemmas.{split_node}
use Rattle.fancy_syntax.proofs.grammar.trees.take_branch.Goals as goal

pub returns-in_ok-take_above-in_default-clause-tree : goal.returns-in_ok-take_above-in_default-clause-tree
returns-in_ok-take_above-in_default-clause-tree g c =
    let several : c.args.height + 2 ≤ length c.args.trees.now.items =
    omega (arith, c.requires, c.len.ensures, c.in_default, c.args.trees.now.ok.0) in
    view_Concat _ ∙ sym (split_node concat c.args.height c.args.trees.now.items _
    c.in_ok-take_above-in_default.ensures.above several)

pub returns-in_ok-take_above-in_default-clause-below : goal.returns-in_ok-take_above-in_default-clause-below
returns-in_ok-take_above-in_default-clause-below g c =
    ap views c.in_ok-take_above-in_default.ensures.below ∙ sym (take-map view _ _)
