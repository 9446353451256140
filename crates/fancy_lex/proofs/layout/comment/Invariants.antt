use Rattle.std.proofs.Common.{◌≡◌, ◌≤◌, ℕ, Bool, length, chars}
use denote.Text.{Utf8}
use denote.Shadow.{shadow}
use Rattle.fancy_lex.specs.Comments.{comments_from}
use Rattle.fancy_lex.specs.LayoutSteps as spec
use Rattle.fancy_lex.specs.Text.{EndsWith}
use Rattle.fancy_lex.specs.TokenComments.{token_comments_from}
use Rattle.fancy_lex.proofs.layout.comment.Given as goal

abbrev pub invariant-loop-c : goal.invariant-loop-c
invariant-loop-c l = record {
  text : shadow (Utf8 l.rest);
  same : (x : Bool) → spec.layout_from x spec.comment (chars l.text) ≡ spec.layout_from x spec.comment
      (chars l.rest);
  comments : (x : Bool) (start : ℕ) → comments_from x spec.comment start (chars l.text)
      ≡ comments_from x spec.comment start (chars l.rest);
  in_token : (end start : ℕ) → token_comments_from end spec.comment start (chars l.text)
      ≡ token_comments_from end spec.comment start (chars l.rest);
  cut : EndsWith (chars l.text) (chars l.rest);
  within : length l.rest ≤ length l.text;
}

abbrev pub decreases-loop-c : goal.decreases-loop-c
decreases-loop-c l = length l.rest
