use Rattle.std.proofs.Common.{◌≡◌, ◌≤◌, length, chars}
use denote.Text.{Utf8}
use denote.Shadow.{shadow}
use Rattle.fancy_lex.specs.Id.{id_run}
use Rattle.fancy_lex.proofs.name.id.after_id.Given as goal

abbrev pub invariant-loop-c : goal.invariant-loop-c
invariant-loop-c l = record {
  text : shadow (Utf8 l.rest);
  same_end : (id_run (chars l.text)).1 ≡ (id_run (chars l.rest)).1;
  within : length l.rest ≤ length l.text;
}

abbrev pub decreases-loop-c : goal.decreases-loop-c
decreases-loop-c l = length l.rest
