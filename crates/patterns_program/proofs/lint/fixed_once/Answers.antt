use Rattle.std.proofs.lemmas.Option.{IfSome_then}
use Rattle.fancy_syntax.specs.InfoViews.{info_of}
use Rattle.fancy_syntax.specs.TriviaViews.{trivia_of}
use Rattle.fancy_syntax.specs.View.{view}
use Rattle.patterns_program.proofs.lint.fixed_once.Goals as goal

pub returns : goal.returns
returns c =
    let parsed = c.in-Ok.parsed in
    let tree = rw c.in-Ok.is at c.in_ok-parsed.ensures.tree in
    let trivia = rw c.in-Ok.is at c.in_ok-parsed.ensures.trivia in
    IfSome_then c.in_ok-fixed.field-0 c.in_ok-fixed.ensures (λ text fixed.
    (view parsed.tree.expr, info_of parsed.tree, trivia_of parsed.trivia, tree, trivia, fixed))
