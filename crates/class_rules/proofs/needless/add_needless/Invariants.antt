use Rattle.class_rules.specs.ClassProblems.{KeepsProblems}
use Rattle.class_rules.proofs.needless.add_needless.Given as goal

abbrev pub invariant-loop-span : goal.invariant-loop-span
invariant-loop-span l =
    KeepsProblems l.fn.class.flags l.fn.class.casei l.fn.class.source.now l.fn.found.items l.found.items
