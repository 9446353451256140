use Rattle.std.proofs.Common.{◌≡◌, ◌≤◌, ◌<◌, ◌+◌, ℕ, length, chars}
use denote.Text.{Utf8}
use denote.Shadow.{shadow}
use Rattle.fancy_lex.specs.Class as spec
use Rattle.fancy_lex.specs.Text.{text_of}
use Rattle.fancy_lex.proofs.class.read_class.Given as goal

abbrev pub invariant-loop-c : goal.invariant-loop-c
invariant-loop-c l = record {
  text : shadow (Utf8 l.rest);
  same : (k : ℕ) × (length l.rest < k) × (spec.class l.flags (chars l.text) ≡ spec.class_from l.flags k
      l.outer l.seen (text_of l.out) (chars l.rest));
  within : l.outer + length l.rest ≤ length l.text;
}

abbrev pub decreases-loop-c : goal.decreases-loop-c
decreases-loop-c l = length l.rest
