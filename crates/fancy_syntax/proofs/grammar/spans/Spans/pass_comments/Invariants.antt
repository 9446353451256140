use Rattle.std.proofs.Common.{◌≡◌, ◌≤◌, chars, length, map}
use denote.Text.{Utf8}
use denote.Shadow.{shadow}
use Rattle.fancy_lex.specs.Comments.{comments}
use Rattle.fancy_grammar.specs.Trivia.{of_comment}
use Rattle.fancy_syntax.specs.Log.{layout_passed, pass}
use Rattle.fancy_syntax.specs.LogViews.{log_of}
use Rattle.fancy_syntax.specs.Parsed.{state}
use Rattle.fancy_syntax.proofs.grammar.spans.Spans.pass_comments.Given as goal

abbrev pub invariant-loop-comment : goal.invariant-loop-comment
invariant-loop-comment l = record {
  text : shadow (Utf8 l.rest);
  passed : layout_passed (state l.fn.current) (log_of l.fn.self)
      ≡ pass (map of_comment (comments l.current.flags.ignore_space (chars l.rest))) (log_of l.self);
  within : length l.rest ≤ length l.current.rest.now;
}

abbrev pub decreases-loop-comment : goal.decreases-loop-comment
decreases-loop-comment l = length l.rest
