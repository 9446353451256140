use Rattle.std.proofs.Common.{arith, ap, refl}
use Rattle.std.specs.Prelude.{is_ok}
use Rattle.fancy_lex.proofs.TextLemmas.{bytes_chars}
use Rattle.fancy_syntax.proofs.CapacityLemmas.{pushed}
use Rattle.fancy_syntax.proofs.print.reserved.put_text.Goals as goal

pub unwrap-requires : goal.unwrap-requires
unwrap-requires c = c.push_str.ensures.succeeds (omega (arith, bytes_chars c.args.text.now c.utf8.text))

pub returns : goal.returns
returns c =
    pushed _ c.args.buf.now c.push_str.new.self c.args.text.now _ (ap is_ok c.unwrap.ensures) c.utf8.text refl
    c.push_str.ensures.bytes c.push_str.ensures.len c.push_str.ensures.capacity
