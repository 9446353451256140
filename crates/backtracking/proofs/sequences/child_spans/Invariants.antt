use Rattle.std.proofs.Common.{◌≡◌, ◌++◌, map}
use Rattle.fancy_syntax.specs.Spanned.{remaining_spanned, spanned_of, first_span, spanned_children}
use Rattle.backtracking.proofs.sequences.child_spans.Given as goal

abbrev pub invariant-loop-child : goal.invariant-loop-child
invariant-loop-child l = l.spans.items ++ map (λ c. first_span c.spans) (remaining_spanned l.child-iterator) ≡
    map (λ c. first_span c.spans) (spanned_children (spanned_of l.fn.node))
