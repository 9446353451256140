use Rattle.std.proofs.Common.{chars, ap, ◌∙◌}
use Rattle.std.proofs.lemmas.Str.{chars-nil}
use Rattle.fancy_pattern.proofs.output.TextOutput.with_capacity.Goals as goal

pub returns : goal.returns
returns c = ap chars c.in_ok-text.ensures.bytes ∙ chars-nil
