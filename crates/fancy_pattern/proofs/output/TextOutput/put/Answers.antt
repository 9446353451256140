use Rattle.std.proofs.Common.{◌∷◌, []}
use Rattle.fancy_pattern.proofs.OutputLemmas.{text_pushed}
use Rattle.fancy_pattern.proofs.output.TextOutput.put.Goals as goal

pub returns : goal.returns
returns c = text_pushed c.push.result c.args.self.now (record { text = c.push.new.out }) (c.args.c ∷ []) c.push.ensures
