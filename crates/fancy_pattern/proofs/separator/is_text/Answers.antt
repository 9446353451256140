use Rattle.std.proofs.Common.{ap, chars, ◌∙◌}
use Rattle.std.specs.Str.{bytes_eq}
use Rattle.std.proofs.lemmas.Str.{chars-IsAscii}
use Rattle.fancy_syntax.proofs.CapacityLemmas.{ascii}
use Rattle.fancy_pattern.proofs.separator.is_text.Goals as goal

pub returns : goal.returns
returns c =
    c.is_same_text.ensures
    ∙ ap (bytes_eq (chars c.args.text.now)) (chars-IsAscii c.args.word.now (ascii c.args.word.now c.requires))
