use Rattle.std.proofs.Common.{◌≡◌, ◌<◌, ◌≤◌, ◌^◌, ◌-◌, length, chars}
use denote.Text.{Utf8}
use denote.Shadow.{shadow}
use Rattle.fancy_lex.specs.Hex as spec
use Rattle.fancy_lex.proofs.escape.hex.fixed_digits.Given as goal

abbrev pub invariant-loop-read : goal.invariant-loop-read
invariant-loop-read l = record {
  text : shadow (Utf8 l.rest);
  small : l.value < 16 ^ l._read;
  same : spec.fixed_digits l.width 0 (chars l.text) ≡ spec.fixed_digits (l.width - l._read) l.value (chars l.rest);
  within : length l.rest ≤ length l.text;
}
