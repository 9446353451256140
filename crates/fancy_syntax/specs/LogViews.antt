-- Views of the log, and what is returned for it.
use Rattle.std.specs.Prelude.{Bool, List, map}
use Rattle.fancy_lex.specs.Text.{Text, bytes}
use Rattle.fancy_grammar.specs.Spans as spec
use Rattle.fancy_grammar.specs.Trivia.{Trivium, located, kept}
use Rattle.fancy_syntax.specs.Log.{Log, shown}
use Rattle.fancy_syntax.specs.TriviaViews.{recorded_part}
use Rattle.fancy_syntax.specs.declared.grammar.spans.Spans.{Spans}

abbrev pub log_of : Spans → Log
log_of s = record {
  recorded = s.recorded.items;
  around = s.around.items;
  open_atom = s.open;
  last = s.last;
  passed = map recorded_part s.passed.items;
}

-- the spans that are returned for the log; with `named`, only named groups have a number
abbrev pub returned_spans : Text → Bool → Log → List spec.Span
returned_spans text named l = map (spec.positioned (bytes text)) (shown named l.recorded)

-- the trivia that are returned for the log; with `named`, only named groups have a number
abbrev pub returned_trivia : Text → Bool → Log → List Trivium
returned_trivia text named l = map (located (bytes text)) (kept named l.passed)
