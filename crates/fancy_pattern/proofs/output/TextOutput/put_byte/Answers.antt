use Rattle.fancy_lex.specs.Class.{byte_text}
use Rattle.fancy_pattern.proofs.OutputLemmas.{text_added}
use Rattle.fancy_pattern.proofs.output.TextOutput.put_byte.Goals as goal

pub returns : goal.returns
returns c =
    text_added c.push_byte.result c.args.self.now (record { text = c.push_byte.new.out }) (byte_text c.args.byte)
    c.push_byte.ensures
