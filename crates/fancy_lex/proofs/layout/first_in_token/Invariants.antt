use Rattle.std.proofs.Common.{◌≡◌, ◌≤◌, length, chars}
use denote.Text.{Utf8}
use denote.Shadow.{shadow}
use Rattle.fancy_lex.specs.TokenComments.{token_comments}
use Rattle.fancy_lex.proofs.layout.first_in_token.Given as goal

abbrev pub invariant-loop-rest : goal.invariant-loop-rest
invariant-loop-rest l = record {
  text : shadow (Utf8 l.rest);
  same : token_comments (chars l.text) l.end ≡ token_comments (chars l.rest) l.end;
  within : length l.rest ≤ length l.text;
}

abbrev pub decreases-loop-rest : goal.decreases-loop-rest
decreases-loop-rest l = length l.rest
