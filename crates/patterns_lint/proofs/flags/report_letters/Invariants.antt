use Rattle.std.proofs.Common.{length}
use denote.Text.{Utf8}
use denote.Shadow.{shadow}
use Rattle.patterns_lint.proofs.flags.report_letters.Given as goal

abbrev pub invariant-loop-problem : goal.invariant-loop-problem
invariant-loop-problem l =
    (goal.iterator-loop-problem).can_next l.problem-iterator × (goal.iterator-loop-problem).is_finite l.problem-iterator

abbrev pub invariant-loop-letter : goal.invariant-loop-letter
invariant-loop-letter l = shadow (Utf8 l.rest)

abbrev pub decreases-loop-letter : goal.decreases-loop-letter
decreases-loop-letter l = length l.rest
