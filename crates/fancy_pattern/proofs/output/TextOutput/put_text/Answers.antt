use Rattle.std.proofs.Common.{chars}
use Rattle.fancy_pattern.proofs.OutputLemmas.{text_pushed}
use Rattle.fancy_pattern.proofs.output.TextOutput.put_text.Goals as goal

pub returns : goal.returns
returns c = text_pushed c.append.result c.args.self.now (record { text = c.append.new.out }) (chars c.args.text.now) c.append.ensures
