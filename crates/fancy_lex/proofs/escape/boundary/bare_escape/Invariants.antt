use Rattle.std.proofs.Common.{◌≡◌, ◌<◌, ℕ, length, chars}
use denote.Text.{Utf8}
use denote.Shadow.{shadow}
use Rattle.fancy_lex.specs.BoundaryName.{name_error, name_error_after}
use Rattle.fancy_lex.specs.Text.{text_of}
use Rattle.fancy_lex.proofs.escape.boundary.bare_escape.Given as goal

abbrev pub invariant-loop-read : goal.invariant-loop-read
invariant-loop-read l = record {
  text : shadow (Utf8 l.rest);
  same : (k : ℕ) × (length (chars l.rest) < k) × (name_error l.ignore_space l.reach l.negated (chars l.text) ≡
      name_error_after l.ignore_space l.reach (text_of l.out) k (chars l.rest));
}

abbrev pub decreases-loop-read : goal.decreases-loop-read
decreases-loop-read l = length l.rest
