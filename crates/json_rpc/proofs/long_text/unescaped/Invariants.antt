use Rattle.std.proofs.Common.{◌≡◌, ◌≤◌, ◌-◌, ◌⊎◌, take, drop, slice_range}
use Rattle.json_rpc.specs.LongText.{SpellsInParts}
use Rattle.json_rpc.proofs.long_text.unescaped.Given as goal

-- the text up to `start` is unescaped at the front of the message, which has the rest as it was
abbrev pub invariant-loop-start : goal.invariant-loop-start
invariant-loop-start l = record {
  begun : l.text.start ≤ l.start;
  within : (l.start ≤ l.text.end) ⊎ (l.start ≡ l.text.start);
  front : l.length ≤ l.start;
  rest : drop l.start l.message.items ≡ drop l.start l.initial.message.items;
  parts : SpellsInParts (slice_range l.initial.message.items l.text.start l.start) (take l.length l.message.items);
}

abbrev pub decreases-loop-start : goal.decreases-loop-start
decreases-loop-start l = l.text.end - l.start
