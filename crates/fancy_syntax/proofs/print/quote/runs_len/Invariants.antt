use Rattle.std.proofs.Common.{◌≡◌, ◌+◌, length, take}
use Rattle.std.specs.List.{count_by}
use Rattle.fancy_syntax.proofs.QuoteLemmas.{escaped}
use Rattle.fancy_syntax.proofs.print.quote.runs_len.Given as goal

abbrev pub invariant-loop-byte : goal.invariant-loop-byte
invariant-loop-byte l = l.len ≡ length l.text + count_by escaped (take l.byte-index l.text)
