use Rattle.std.proofs.Common.{◌≡◌, false, rules}
use Rattle.fancy_syntax.specs.View.{view}
use Rattle.fancy_syntax.specs.declared.expr.Expr.{the_lemmas}
use Rattle.fancy_grammar.proofs.DelegateLemmas.{may_be_blank, solid_variant}
use Rattle.fancy_syntax.proofs.print.printable.is_empty_leaf.Goals as goal

pub returns-in_default-matches : goal.returns-in_default-matches
returns-in_default-matches c = λ leaf.
    let other : may_be_blank (view c.args.leaf.now) ≡ false = search (rules, the_lemmas) in
    solid_variant (view c.args.leaf.now) other
