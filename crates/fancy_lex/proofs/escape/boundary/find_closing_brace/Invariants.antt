use Rattle.std.proofs.Common.{◌≡◌, ◌<◌, ℕ, Bool, length, chars}
use denote.Text.{Utf8}
use denote.Shadow.{shadow}
use Rattle.fancy_lex.specs.BoundaryName.{name_error, name_error_after}
use Rattle.fancy_lex.specs.Text.{Text}
use Rattle.fancy_lex.proofs.escape.boundary.find_closing_brace.Given as goal

abbrev pub invariant-loop-c : goal.invariant-loop-c
invariant-loop-c l = record {
  text : shadow (Utf8 l.rest);
  same : (reach : ℕ) (negated : Bool) → (k : ℕ) × (length (chars l.rest) < k) × (out : Text) ×
      (name_error l.ignore_space reach negated (chars l.text) ≡
      name_error_after l.ignore_space reach out k (chars l.rest));
}

abbrev pub decreases-loop-c : goal.decreases-loop-c
decreases-loop-c l = length l.rest
