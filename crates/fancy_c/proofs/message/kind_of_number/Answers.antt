use Rattle.std.proofs.Common.{ap, chars, ◌∙◌}
use Rattle.std.proofs.lemmas.Str.{chars-nil}
use Rattle.fancy_c.proofs.message.kind_of_number.Goals as goal

pub returns-in-1-clause-bare : goal.returns-in-1-clause-bare
returns-in-1-clause-bare c = ap chars c.new.ensures.bytes ∙ chars-nil

pub returns-in-6-clause-bare : goal.returns-in-6-clause-bare
returns-in-6-clause-bare c = ap chars c.new-in-6.ensures.bytes ∙ chars-nil

pub returns-in-11-clause-bare : goal.returns-in-11-clause-bare
returns-in-11-clause-bare c = ap chars c.new-in-11.ensures.bytes ∙ chars-nil

pub returns-in_default-clause-bare : goal.returns-in_default-clause-bare
returns-in_default-clause-bare c = ap chars c.new-in_default.ensures.bytes ∙ chars-nil
