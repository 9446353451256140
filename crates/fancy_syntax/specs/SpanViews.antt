-- The returned spans, as a list.
use Rattle.std.specs.Prelude.{List, map}
use Rattle.std.specs.Global.{Vec}
use Rattle.fancy_grammar.specs.Spans as spec
use Rattle.fancy_syntax.specs.declared.span.Span.{Span}

abbrev pub span_of : Span → spec.Span
span_of p = record { start = p.start; end = p.end }

abbrev pub spans_of : Vec Span → List spec.Span
spans_of v = map span_of v.items
