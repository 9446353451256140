use Rattle.std.proofs.Common.{◌≡◌, map, drop}
use Rattle.fancy_syntax.specs.Log.{text_filled}
use Rattle.fancy_syntax.specs.LogViews.{log_of}
use Rattle.fancy_syntax.specs.TriviaViews.{recorded_part}
use Rattle.fancy_syntax.proofs.grammar.spans.Spans.fill.Given as goal

abbrev pub invariant-loop-part : goal.invariant-loop-part
invariant-loop-part l =
    text_filled l.fn.start l.end (map recorded_part l.parts) (log_of l.fn.self)
    ≡ text_filled l.from l.end (map recorded_part (drop l.part-index l.parts)) (log_of l.self)
