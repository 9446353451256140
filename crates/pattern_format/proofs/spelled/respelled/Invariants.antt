use Rattle.std.proofs.Common.{◌≡◌, ◌++◌, length, map}
use Rattle.fancy_syntax.specs.SpanViews.{span_of}
use Rattle.pattern_format.specs.Spelled.{respelled}
use Rattle.pattern_format.proofs.spelled.respelled.Given as goal

abbrev pub invariant-loop-kept : goal.invariant-loop-kept
invariant-loop-kept l =
    l.written.items ++ respelled l.text l.pattern l.rest.0.now (map span_of l.rest.1.now) (map span_of l.rest.2.now) l.position
    ≡ respelled l.text l.pattern l.fn.plain.kept.now (map span_of l.fn.plain.spans.now) (map span_of l.fn.there) 0

abbrev pub decreases-loop-kept : goal.decreases-loop-kept
decreases-loop-kept l = length l.rest.0.now
