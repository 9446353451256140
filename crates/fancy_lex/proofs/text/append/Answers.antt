use Rattle.std.proofs.lemmas.Str.{IsUtf8-string_bytes}
use Rattle.fancy_lex.proofs.TextLemmas.{appended}
use Rattle.fancy_lex.proofs.text.append.Goals as goal

pub returns : goal.returns
returns c = rw c.push_str.ensures.bytes (appended _ _ _ (IsUtf8-string_bytes c.args.out.now))
