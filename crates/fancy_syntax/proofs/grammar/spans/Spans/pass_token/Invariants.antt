use Rattle.std.proofs.Common.{◌≡◌, ◌≤◌, chars, length, map}
use denote.Text.{Utf8}
use denote.Shadow.{shadow}
use Rattle.fancy_lex.specs.TokenComments.{token_comments}
use Rattle.fancy_grammar.specs.Trivia.{of_inner}
use Rattle.fancy_syntax.specs.Log.{pass}
use Rattle.fancy_syntax.specs.LogViews.{log_of}
use Rattle.fancy_syntax.proofs.grammar.spans.Spans.pass_token.Given as goal

abbrev pub invariant-loop-comment : goal.invariant-loop-comment
invariant-loop-comment l = record {
  text : shadow (Utf8 l.rest);
  passed : pass (map of_inner (token_comments (chars l.text) l.end)) (log_of l.fn.self)
      ≡ pass (map of_inner (token_comments (chars l.rest) l.end)) (log_of l.self);
  within : length l.rest ≤ length l.text;
}

abbrev pub decreases-loop-comment : goal.decreases-loop-comment
decreases-loop-comment l = length l.rest
