use Rattle.class_rules.specs.ClassProblems.{KeepsProblems}
use Rattle.class_rules.proofs.misread.add_hyphens.Given as goal

abbrev pub invariant-loop-item : goal.invariant-loop-item
invariant-loop-item l =
    KeepsProblems l.fn.class.flags l.fn.class.casei l.fn.class.source.now l.fn.found.items l.found.items
