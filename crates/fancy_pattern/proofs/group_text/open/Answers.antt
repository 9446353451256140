use Rattle.std.proofs.Common.{codes, refl}
use Rattle.fancy_pattern.proofs.OutputLemmas.{last_two}
use Rattle.fancy_pattern.proofs.WritesLemmas.{on_both}
use Rattle.fancy_pattern.proofs.group_text.open.Goals as goal

pub returns : goal.returns
returns c =
    on_both c.put_ascii.result _ _
    (last_two c.put_ascii.result c.args.out.now c.put.new.self c.put_ascii.new.out (codes "(")
    c.args.opening.now _ c.in_ok-put.ensures c.put_ascii.ensures refl)
    c.enter.ensures
