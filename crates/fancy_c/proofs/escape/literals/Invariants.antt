use Rattle.std.proofs.Common.{◌≡◌, ◌++◌, length, chars, map}
use denote.Text.{Utf8}
use denote.Shadow.{shadow}
use Rattle.fancy_syntax.specs.View.{views}
use Rattle.fancy_c.specs.EscapedText.{literal_of}
use Rattle.fancy_c.proofs.escape.literals.Given as goal

abbrev pub invariant-loop-c : goal.invariant-loop-c
invariant-loop-c l = record {
  text : shadow (Utf8 l.rest);
  so_far : views l.literals.items ++ map (literal_of l.flags) (chars l.rest) ≡ map (literal_of l.flags) (chars l.text);
}

abbrev pub decreases-loop-c : goal.decreases-loop-c
decreases-loop-c l = length l.rest
