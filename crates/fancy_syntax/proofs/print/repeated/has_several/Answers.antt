use Rattle.std.proofs.Common.{sym}
use Rattle.fancy_syntax.proofs.PrintLemmas.{short_text}
use Rattle.fancy_syntax.proofs.print.repeated.has_several.Goals as goal

pub returns-then-text-lt2 : goal.returns-then-text-lt2
returns-then-text-lt2 c = sym (short_text c.args.text.now c.utf8.text c.if-text-lt2.true)
