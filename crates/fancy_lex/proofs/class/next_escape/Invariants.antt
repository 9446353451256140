use Rattle.std.proofs.Common.{◌≡◌, ◌≤◌, length, chars}
use denote.Text.{Utf8}
use denote.Shadow.{shadow}
use Rattle.fancy_lex.specs.TokenComments.{class_comments}
use Rattle.fancy_lex.proofs.class.next_escape.Given as goal

abbrev pub invariant-loop-rest : goal.invariant-loop-rest
invariant-loop-rest l = record {
  text : shadow (Utf8 l.rest);
  same : class_comments l.flags (chars l.text) l.end ≡ class_comments l.flags (chars l.rest) l.end;
  within : length l.rest ≤ length l.text;
}

abbrev pub decreases-loop-rest : goal.decreases-loop-rest
decreases-loop-rest l = length l.rest
