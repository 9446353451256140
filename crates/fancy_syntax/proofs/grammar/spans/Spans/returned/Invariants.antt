use Rattle.std.proofs.Common.{◌≡◌, ◌≤◌, chars, length, map, take, vec_len, vec_capacity}
use Rattle.fancy_lex.specs.Text.{bytes}
use Rattle.fancy_grammar.specs.Spans.{positioned}
use Rattle.fancy_syntax.specs.Log.{shown}
use Rattle.fancy_syntax.specs.SpanViews.{spans_of}
use Rattle.fancy_syntax.proofs.grammar.spans.Spans.returned.Given as goal

abbrev pub invariant-loop-recorded : goal.invariant-loop-recorded
invariant-loop-recorded l = record {
  spans : spans_of l.spans ≡ map (positioned (bytes (chars l.pattern)))
      (shown l.named (take l.recorded-index l.fn.self.recorded.items));
  within : vec_len l.spans ≤ l.recorded-index;
  capacity : length l.fn.self.recorded.items ≤ vec_capacity l.spans;
}
