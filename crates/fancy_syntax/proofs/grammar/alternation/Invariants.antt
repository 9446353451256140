use Rattle.std.proofs.Common.{◌+◌, ◌≤◌, ◌<◌, length, chars}
use Rattle.fancy_grammar.specs.Depth.{max_depth}
use Rattle.fancy_syntax.specs.Found.{openings_found}
use Rattle.fancy_syntax.specs.Log.{Log}
use Rattle.fancy_syntax.specs.Machine.{HasReadTo}
use Rattle.fancy_syntax.specs.Parsed.{state}
use Rattle.fancy_syntax.specs.StackCapacity.{HasStackCapacity}
use Rattle.fancy_syntax.proofs.grammar.alternation.Given as goal

abbrev pub invariant-loop-parser : goal.invariant-loop-parser
invariant-loop-parser g l = record {
  reading : (none : Log) → HasReadTo (state l.fn.start) none l.parser
      (λ m. g.S.Spanning.records l.fn.spans none → g.S.Spanning.records l.spans m);
  depth : length l.parser.stack.items < max_depth;
  reserved : HasStackCapacity l.parser (chars l.fn.start.rest.now);
  count : openings_found l.parser.found + length l.parser.current.rest.now ≤ length l.fn.start.rest.now;
}

abbrev pub decreases-loop-parser : goal.decreases-loop-parser
decreases-loop-parser g l = length l.parser.current.rest.now
