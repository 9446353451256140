use Rattle.std.proofs.Common.{arith}
use Rattle.fancy_lex.proofs.TextLemmas.{bytes_chars}
use Rattle.fancy_c.proofs.text_start.size_before.Goals as goal

pub returns : goal.returns
returns c =
    omega
    (arith, c.requires, bytes_chars c.args.text.now c.utf8.text, bytes_chars c.args.rest.now c.utf8.rest)
