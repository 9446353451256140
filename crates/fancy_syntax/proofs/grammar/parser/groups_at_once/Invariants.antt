use Rattle.std.proofs.Common.{◌≡◌, ◌≤◌, ◌+◌, length}
use Rattle.fancy_grammar.specs.Depth.{most_open}
use Rattle.fancy_syntax.specs.StackCapacity.{open_parens}
use Rattle.fancy_syntax.proofs.grammar.parser.groups_at_once.Given as goal

abbrev pub invariant-loop-count : goal.invariant-loop-count
invariant-loop-count l = record {
  counted : open_parens l.text ≡ l.count + open_parens l.rest;
  below : l.count ≤ most_open;
}

abbrev pub decreases-loop-count : goal.decreases-loop-count
decreases-loop-count l = length l.rest
