use Rattle.fancy_syntax.specs.Spanned.{spanned_of}
use Rattle.class_rules.specs.KnownClasses.{AddsProblems}
use Rattle.class_rules.proofs.class_walk.add_findings.Given as goal

abbrev pub invariant-loop-finding : goal.invariant-loop-finding
invariant-loop-finding l = AddsProblems (spanned_of l.fn.node) l.fn.findings l.fn.found.items l.found.items
