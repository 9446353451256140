use Rattle.std.proofs.Common.{arith}
use Rattle.fancy_grammar.specs.Tree.{concat}
use Rattle.fancy_syntax.specs.View.{views}
use Rattle.fancy_syntax.proofs.TreesLemmas.{one_above, views_length}
use Rattle.fancy_syntax.proofs.grammar.trees.join_branch.Goals as goal

pub returns-then-len-height-eq1-clause-trees : goal.returns-then-len-height-eq1-clause-trees
returns-then-len-height-eq1-clause-trees g c =
    let es = c.args.trees.now.items in
    one_above concat c.args.height (views es)
    (omega (arith, c.if-len-height-eq1.true, c.len.ensures, c.args.trees.now.ok.0, views_length es, c.requires))
