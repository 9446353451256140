use Rattle.std.proofs.Common.{◌≡◌, ◌<◌, ◌≤◌, ◌^◌, ◌-◌, length, chars, false, nat_lt}
use denote.Text.{Utf8}
use denote.Shadow.{shadow}
use Rattle.fancy_lex.specs.Hex as spec
use Rattle.fancy_lex.proofs.escape.hex.hex_digits.Given as goal

abbrev pub invariant-loop-read : goal.invariant-loop-read
invariant-loop-read l = record {
  text : shadow (Utf8 l.rest);
  small : l.value < 16 ^ l.read;
  same : spec.hex_digits l.ignore_space l.reach 8 false 0 (chars l.text) ≡ spec.hex_digits l.ignore_space
      l.reach (8 - l.read) (nat_lt 0 l.read) l.value (chars l.rest);
  within : length l.rest ≤ length l.text;
}
