use Rattle.std.proofs.Common.{◌≡◌, take, take_all, ◌∙◌, arith}
use Rattle.fancy_syntax.proofs.QuoteLemmas.{quotes_bytes}
use Rattle.fancy_syntax.proofs.print.quote.runs_len.Goals as goal

pub returns : goal.returns
returns c =
    let bytes = c.args.text.now in
    let all : take c.loop-byte.byte-index bytes ≡ bytes = take_all c.loop-byte.byte-index bytes (omega arith) in
    (rw all at c.loop-byte.invariant) ∙ quotes_bytes bytes c.utf8.text
