use Rattle.std.proofs.Common.{ap, sym, ◌∙◌, is_some, chars}
use Rattle.fancy_pattern.proofs.AmongLemmas.{is_some_parts, is_some_cut}
use Rattle.fancy_pattern.proofs.reference.has.Goals as goal

pub returns : goal.returns
returns c =
    c.is_some.ensures ∙ is_some_parts c.split_at.result ∙ ap is_some (sym c.split_at.ensures.value)
    ∙ is_some_cut c.args.delimiter (chars c.args.text.now)
