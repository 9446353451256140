use Rattle.std.proofs.Common.{subst, sym, IfSome}
use Rattle.patterns_text.specs.Subject.{IsParsedAs, HasTrivia}
use Rattle.patterns_program.proofs.FixLemmas.{if_some_of_ok}
use Rattle.patterns_program.proofs.lint.parse_in.Goals as goal

pub returns-clause-tree : goal.returns-clause-tree
returns-clause-tree c =
    subst (λ o. IfSome o (λ t. IsParsedAs c.args.subject t.tree)) (sym c.ok.ensures.value)
    (if_some_of_ok (λ t. IsParsedAs c.args.subject t.tree) c.in_ok-parse.field-0 c.in_ok-parse.ensures.tree)

pub returns-clause-trivia : goal.returns-clause-trivia
returns-clause-trivia c =
    subst (λ o. IfSome o (λ t. HasTrivia c.args.subject t.trivia)) (sym c.ok.ensures.value)
    (if_some_of_ok (λ t. HasTrivia c.args.subject t.trivia) c.in_ok-parse.field-0 c.in_ok-parse.ensures.trivia)
