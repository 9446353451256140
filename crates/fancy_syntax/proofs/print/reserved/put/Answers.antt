use Rattle.std.proofs.Common.{arith, rules, ap}
use Rattle.std.specs.Prelude.{is_ok}
use Rattle.std.proofs.Math.Utf8.{encode}
use Rattle.std.proofs.lemmas.Str.{IsUtf8-encode}
use Rattle.fancy_syntax.proofs.CapacityLemmas.{bytes_encode, chars_encode, pushed}
use Rattle.fancy_syntax.proofs.print.reserved.put.Goals as goal

pub unwrap-requires : goal.unwrap-requires
unwrap-requires c = c.push.ensures.succeeds (omega (arith, bytes_encode c.args.c (search rules)))

pub returns : goal.returns
returns c =
    pushed _ c.args.buf.now c.push.new.self (encode c.args.c) _ (ap is_ok c.unwrap.ensures)
    (IsUtf8-encode c.args.c (search rules)) (chars_encode c.args.c (search rules))
    c.push.ensures.bytes c.push.ensures.len c.push.ensures.capacity
