use Rattle.std.proofs.Common.{sym}
use Rattle.std.proofs.lemmas.Str.{chars-IsAscii}
use Rattle.fancy_syntax.proofs.CapacityLemmas.{ascii}
use Rattle.fancy_syntax.proofs.SinkLemmas.{can_as, taken_as}
use Rattle.fancy_syntax.proofs.print.sink.Sink.put_ascii.Goals as goal

pub put_text-requires : goal.put_text-requires
put_text-requires g c =
    can_as _ _ _ (sym (chars-IsAscii _ (ascii c.args.text.now c.requires.ascii))) c.requires.reserved

pub returns : goal.returns
returns g c = taken_as _ _ _ _ c.put_text.ensures (chars-IsAscii _ (ascii c.args.text.now c.requires.ascii))
