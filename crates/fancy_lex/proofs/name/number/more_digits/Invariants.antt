use Rattle.std.proofs.Common.{◌≡◌, ◌≤◌, length, chars}
use denote.Text.{Utf8}
use denote.Shadow.{shadow}
use Rattle.fancy_lex.specs.Number.{run}
use Rattle.fancy_lex.proofs.name.number.more_digits.Given as goal

abbrev pub invariant-loop-next : goal.invariant-loop-next
invariant-loop-next l = record {
  text : shadow (Utf8 l.rest);
  read : run l.number (chars l.text) ≡ run l.value (chars l.rest);
  within : length l.rest ≤ length l.text;
}

abbrev pub decreases-loop-next : goal.decreases-loop-next
decreases-loop-next l = length l.rest
