use Rattle.std.proofs.Common.{◌≡◌, ◌≤◌, length, chars}
use denote.Text.{Utf8}
use denote.Shadow.{shadow}
use Rattle.fancy_lex.specs.Comments.{comments}
use Rattle.fancy_lex.specs.Text.{EndsWith}
use Rattle.fancy_lex.proofs.layout.first_comment.Given as goal

abbrev pub invariant-loop-inside : goal.invariant-loop-inside
invariant-loop-inside l = record {
  text : shadow (Utf8 l.rest);
  same : comments l.ignore_space (chars l.text) ≡ comments l.ignore_space (chars l.rest);
  cut : EndsWith (chars l.text) (chars l.rest);
  within : length l.rest ≤ length l.text;
}

abbrev pub decreases-loop-inside : goal.decreases-loop-inside
decreases-loop-inside l = length l.rest
