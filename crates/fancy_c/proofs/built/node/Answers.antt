use Rattle.std.proofs.Common.{◌≡◌, ap, ◌∙◌, rules}
use Rattle.fancy_grammar.proofs.TreeLaws.{list_back}
use Rattle.fancy_grammar.specs.Tree.{children, concat, alt, trees_of}
use Rattle.fancy_syntax.specs.View.{view, views}
use Rattle.fancy_syntax.specs.declared.expr.Expr.{the_lemmas}
use Rattle.fancy_syntax.specs.declared.expr.Expr.TheVariants.{Concat, Alt}
use Rattle.fancy_c.proofs.built.node.Goals as goal

pub returns-then-row-eq-NODE_CONCAT-clause-children : goal.returns-then-row-eq-NODE_CONCAT-clause-children
returns-then-row-eq-NODE_CONCAT-clause-children c =
    let is : view (Concat c.args.children) ≡ concat (trees_of (views c.args.children.items)) = search (rules, the_lemmas) in
    ap children is ∙ list_back (views c.args.children.items)

pub returns-then-row-eq-NODE_ALT-clause-children : goal.returns-then-row-eq-NODE_ALT-clause-children
returns-then-row-eq-NODE_ALT-clause-children c =
    let is : view (Alt c.args.children) ≡ alt (trees_of (views c.args.children.items)) = search (rules, the_lemmas) in
    ap children is ∙ list_back (views c.args.children.items)
