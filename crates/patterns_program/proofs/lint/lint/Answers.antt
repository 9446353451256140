use Rattle.fancy_syntax.specs.InfoViews.{info_of}
use Rattle.fancy_syntax.specs.TriviaViews.{trivia_of}
use Rattle.fancy_syntax.specs.View.{view}
use Rattle.patterns_program.proofs.lint.lint.Goals as goal

pub returns-clause-changed : goal.returns-clause-changed
returns-clause-changed c =
    let parsed = c.in-Some.parsed in
    let tree = rw c.in-Some.is at c.in_ok-parsed.ensures.tree in
    let trivia = rw c.in-Some.is at c.in_ok-parsed.ensures.trivia in
    let fixed = rw c.in-Some-3.is at c.in_ok-text.ensures in
    (view parsed.tree.expr, info_of parsed.tree, trivia_of parsed.trivia, tree, trivia, fixed)
