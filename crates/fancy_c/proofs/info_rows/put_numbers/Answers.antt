use Rattle.std.proofs.Common.{◌+◌, List, ap, set, get_or, ◌∙◌}
use Rattle.fancy_c.specs.declared.info_rows.Name.{Name}
use Rattle.fancy_c.proofs.NameRowLemmas.{number_put}
use Rattle.fancy_c.proofs.info_rows.put_numbers.Goals as goal

pub loop-i-preserved : goal.loop-i-preserved
loop-i-preserved c =
    let row : Name =
    record { text = c.args.text; text_size = c.args.size; group = get_or c.args.numbers.now c.loop-i.i 0 } in
    let put : List Name → List Name = λ names. set names (c.args.first + c.loop-i.i) row in
    ap put c.loop-i.invariant
    ∙ number_put c.args.names.now c.args.first c.args.text c.args.size c.args.numbers.now c.loop-i.i c.requires
    c.loop-i-test.true
