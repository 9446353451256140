-- What a tree does not hold, as the definitions have it.
use Rattle.std.specs.Prelude.{List, map}
use Rattle.std.specs.Global.{Vec}
use Rattle.fancy_grammar.specs.Trivia as spec
use Rattle.fancy_syntax.specs.declared.grammar.recorded.RecordedTrivium.{RecordedTrivium}
use Rattle.fancy_syntax.specs.declared.trivium.Trivium.{Trivium}
use Rattle.fancy_syntax.specs.declared.trivium.TriviumKind.{TriviumKind}
use Rattle.fancy_syntax.specs.declared.trivium.TriviumKind.TheVariants as kind
use Rattle.fancy_syntax.specs.SpanViews.{span_of}

abbrev pub kind_of : TriviumKind → spec.TriviumKind
kind_of kind.Comment = spec.comment
kind_of kind.LineComment = spec.line_comment
kind_of (kind.InlineFlags before after) = spec.flags before after
kind_of (kind.Opening around inside) = spec.opening around inside
kind_of kind.Closing = spec.closing
kind_of kind.Dropped = spec.dropped
kind_of kind.InnerComment = spec.inner_comment
kind_of kind.InnerLineComment = spec.inner_line_comment

abbrev pub recorded_part : RecordedTrivium → spec.Passed
recorded_part x = spec.part x.start x.end (kind_of x.kind) x.unnamed

abbrev pub trivium_of : Trivium → spec.Trivium
trivium_of x = record { span = span_of x.span; kind = kind_of x.kind }

abbrev pub trivia_of : Vec Trivium → List spec.Trivium
trivia_of v = map trivium_of v.items
