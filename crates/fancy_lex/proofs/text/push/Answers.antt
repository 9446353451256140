use Rattle.std.proofs.lemmas.Str.{IsUtf8-string_bytes}
use Rattle.fancy_lex.proofs.TextLemmas.{pushed}
use Rattle.fancy_lex.proofs.text.push.Goals as goal

pub returns : goal.returns
returns c = rw c.push.ensures.bytes (pushed _ _ c.args.c (IsUtf8-string_bytes c.args.out.now) c.ranges.c.0)
