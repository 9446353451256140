use Rattle.std.proofs.lemmas.List.Elements.{All-nil}
use Rattle.std.proofs.lemmas.Grind.{merely}
use Rattle.fancy_syntax.specs.Spanned.{spanned_of, root}
use Rattle.class_rules.proofs.class_walk.class_findings.Goals as goal

pub returns-clause-problems : goal.returns-clause-problems
returns-clause-problems c =
    c.in_ok-walk.ensures.problems (spanned_of c.args.root) root (rw c.new-found.ensures.items (merely (All-nil _)))
