use Rattle.std.proofs.Common.{◌≡◌, ◌++◌, length, map, chars}
use denote.Text.{Utf8}
use denote.Shadow.{shadow}
use Rattle.patterns_config.specs.Globs.{names, put_before}
use Rattle.patterns_config.proofs.glob.names_of.Given as goal

abbrev pub invariant-loop-c : goal.invariant-loop-c
invariant-loop-c l = record {
  text : shadow (Utf8 l.rest);
  names : names (chars l.text) ≡ map (λ name. name.items) l.found.items ++ put_before l.name.items (names (chars l.rest));
}

abbrev pub decreases-loop-c : goal.decreases-loop-c
decreases-loop-c l = length l.rest
