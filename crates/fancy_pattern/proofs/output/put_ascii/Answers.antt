use Rattle.fancy_pattern.proofs.OutputLemmas.{last_ascii}
use Rattle.fancy_pattern.proofs.output.put_ascii.Goals as goal

pub returns : goal.returns
returns c =
    last_ascii c.put_text.result c.args.out.now c.put_text.new.self c.args.text.now c.requires
    c.put_text.ensures
