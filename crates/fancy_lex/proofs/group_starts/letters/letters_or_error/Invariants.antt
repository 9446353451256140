use Rattle.std.proofs.Common.{◌≡◌, ◌≤◌, ◌<◌, ◌++◌, length, chars, ℕ}
use denote.Text.{Utf8}
use denote.Shadow.{shadow}
use Rattle.fancy_lex.specs.Text.{Text}
use Rattle.fancy_lex.specs.LetterSteps as spec
use Rattle.fancy_lex.proofs.group_starts.letters.letters_or_error.Given as goal

abbrev pub invariant-loop-current : goal.invariant-loop-current
invariant-loop-current l = record {
  text : shadow (Utf8 l.rest);
  steps : (k : ℕ) × (length l.rest < k) × (spec.letters l.fn.flags (chars l.text) ≡ spec.letters_in
      (chars l.text) k l.clears l.flags (chars l.rest));
  after : (w : Text) × (chars l.text ≡ w ++ chars l.rest);
  within : length l.rest ≤ length l.text;
}

abbrev pub decreases-loop-current : goal.decreases-loop-current
decreases-loop-current l = length l.rest
