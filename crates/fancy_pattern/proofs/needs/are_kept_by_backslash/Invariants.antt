use Rattle.std.proofs.Common.{◌≡◌, length, chars}
use denote.Text.{Utf8}
use denote.Shadow.{shadow}
use Rattle.std.specs.List.{list_all}
use Rattle.fancy_grammar.specs.PatternNeeds.{is_kept_by_backslash}
use Rattle.fancy_pattern.proofs.needs.are_kept_by_backslash.Given as goal

abbrev pub invariant-loop-c : goal.invariant-loop-c
invariant-loop-c l = record {
  text : shadow (Utf8 l.rest);
  same : list_all (is_kept_by_backslash l.oniguruma_mode) (chars l.text)
      ≡ list_all (is_kept_by_backslash l.oniguruma_mode) (chars l.rest);
}

abbrev pub decreases-loop-c : goal.decreases-loop-c
decreases-loop-c l = length l.rest
