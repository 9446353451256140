use Rattle.std.proofs.Common.{chars, subst}
use Rattle.fancy_grammar.specs.ParseResult.{IsTreeOf}
use Rattle.fancy_grammar.specs.Spans.{AreSpansOf}
use Rattle.fancy_grammar.proofs.PromiseLaws.{parse_error, parsed, parsed_spans}
use Rattle.fancy_syntax.specs.InfoViews.{info_of}
use Rattle.fancy_syntax.specs.SpanViews.{spans_of}
use Rattle.fancy_syntax.specs.View.{view}
use Rattle.fancy_syntax.proofs.expr.Expr.parse_tree_with_spans.Goals as goal

pub returns-in-Ok-clause-tree : goal.returns-in-Ok-clause-tree
returns-in-Ok-clause-tree c =
    parsed c.utf8.re (subst (λ f. IsTreeOf f (chars c.args.re.now) (view c.in-Ok.found.0.expr) (info_of c.in-Ok.found.0))
    c.from_bits-flags.ensures c.in-Ok.ensures.found)

pub returns-in-Ok-clause-spans : goal.returns-in-Ok-clause-spans
returns-in-Ok-clause-spans c =
    parsed_spans c.utf8.re (returns-in-Ok-clause-tree c)
    (subst (λ f. AreSpansOf f (chars c.args.re.now) (spans_of c.in-Ok.found.1)) c.from_bits-flags.ensures
    c.in-Ok.ensures.spans)

pub returns-in-Err-clause-error : goal.returns-in-Err-clause-error
returns-in-Err-clause-error c =
    parse_error c.from_bits-flags.ensures c.in_pattern.ensures c.in-Err.ensures.error
