use Rattle.std.proofs.Common.{arith, ap, length}
use Rattle.fancy_grammar.proofs.BackslashLemmas.{after_position, after_end}
use Rattle.fancy_grammar.proofs.written.is_after_backslash.Goals as goal

pub returns-then-before-bytes : goal.returns-then-before-bytes
returns-then-before-bytes c =
    let same = ap length c.as_bytes-bytes.ensures.value in
    after_end c.args.pattern.now c.args.position c.utf8.pattern (omega arith)

pub returns : goal.returns
returns c =
    rw c.as_bytes-bytes.ensures.value (after_position c.args.pattern.now c.args.position c.utf8.pattern (omega arith))
