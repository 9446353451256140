use Rattle.std.proofs.Common.{◌++◌, chars, map, sym, ap, ◌∙◌, arith, append-nil}
use Rattle.std.proofs.lemmas.List.{map-append}
use Rattle.fancy_lex.specs.Text.{bytes}
use Rattle.fancy_grammar.specs.Spans.{positioned}
use Rattle.fancy_syntax.specs.SpanViews.{span_of, spans_of}
use Rattle.fancy_syntax.proofs.ShownLemmas.{shown_next}
use Rattle.fancy_syntax.proofs.grammar.spans.Spans.returned.Goals as goal
use Rattle.fancy_syntax.proofs.grammar.spans.Spans.returned.Goals.{in-Some, in_default}

pub loop-recorded-preserved : goal.loop-recorded-preserved
loop-recorded-preserved c =
    let items = c.deref-recorded-items.ensures.value in
    let before = c.loop-recorded.spans in
    let next = shown_next (positioned (bytes (chars c.args.pattern.now))) c.args.named c.args.self.now.recorded.items
    c.loop-recorded.recorded-index _ (spans_of before) (spans_of c.match-shown_span.spans)
    (rw items at c.loop-recorded-test.true) c.loop-recorded.invariant.spans in
    elim c.match-shown_span.branch [
      | in-Some w ↦ record {
        spans = next (ap spans_of w.spans-is ∙ ap (map span_of) w.push_reserved.ensures.items
            ∙ map-append span_of before.items _ ∙ ap (λ l. spans_of before ++ l) (rw items at w.in-Some.ensures));
        within = rw w.spans-is (omega (arith, w.push_reserved.ensures.len, c.loop-recorded.invariant.within));
        capacity = rw w.spans-is (omega (arith, w.push_reserved.ensures.capacity, c.loop-recorded.invariant.capacity));
      }
      | in_default w ↦ record {
        spans = next (ap spans_of w.spans-is ∙ sym (append-nil (spans_of before))
            ∙ ap (λ l. spans_of before ++ l) (rw items at w.in_default.ensures));
        within = rw w.spans-is (omega (arith, c.loop-recorded.invariant.within));
        capacity = rw w.spans-is c.loop-recorded.invariant.capacity;
      }
    ]
