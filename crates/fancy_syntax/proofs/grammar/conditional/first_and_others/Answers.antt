use Rattle.std.proofs.Common.{◌≡◌, ◌<◌, List, [], ◌∷◌, length, remove, ap, sym, ◌∙◌, arith}
use Rattle.fancy_grammar.specs.Grammar as spec
use Rattle.fancy_grammar.specs.Join as join
use Rattle.fancy_grammar.proofs.TreeLaws.{list_back}
use Rattle.fancy_grammar.specs.Tree.{alt, trees_of}
use Rattle.fancy_syntax.specs.View.{views}
use Rattle.fancy_syntax.specs.declared.expr.Expr.{Expr}
use Rattle.fancy_syntax.proofs.grammar.conditional.first_and_others.Goals as goal

others_of : (l m : List Expr) → 0 < length l → m ≡ remove l 0 →
    join.choice (views m) ≡ (spec.branches_of (alt (trees_of (views l)))).1
others_of [] m h e = absurd (omega arith)
others_of (t ∷ l) m h e = ap (λ x. join.choice (views x)) e ∙ ap join.choice (sym (list_back (views l)))

pub returns-clause-others : goal.returns-clause-others
returns-clause-others c =
    c.choice.ensures ∙ others_of c.args.branches.items c.remove-first.new.self.items
    (omega (arith, c.args.branches.ok.0, c.remove-first.ensures.len)) c.remove-first.ensures.items
