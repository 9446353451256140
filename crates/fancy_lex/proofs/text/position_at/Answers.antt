use Rattle.std.proofs.Common.{rules}
use Rattle.fancy_lex.proofs.TextLemmas.{bytes_chars}
use Rattle.fancy_lex.proofs.text.position_at.Goals as goal

pub returns : goal.returns
returns c = rw (bytes_chars c.args.pattern.now c.utf8.pattern) (search rules)
