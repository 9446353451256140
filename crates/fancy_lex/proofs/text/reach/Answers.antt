use Rattle.std.proofs.Common.{rules}
use Rattle.fancy_lex.proofs.TextLemmas.{bytes_chars}
use Rattle.fancy_lex.proofs.text.reach.Goals as goal

pub returns : goal.returns
returns c = rw (bytes_chars c.args.text.now c.utf8.text) (search rules)
