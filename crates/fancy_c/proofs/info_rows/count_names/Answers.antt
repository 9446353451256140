use Rattle.std.proofs.Common.{ap, map, length, arith}
use Rattle.fancy_grammar.specs.Groups.{entry_of}
use Rattle.fancy_c.proofs.NameRowLemmas.{names_count_next}
use Rattle.fancy_c.proofs.NodeLemmas.{string_text}
use Rattle.fancy_c.proofs.info_rows.count_names.Goals as goal

pub loop-name-preserved : goal.loop-name-preserved
loop-name-preserved c =
    let size = ap length (string_text c.in-Some.name.now) in
    names_count_next _ _ _ _ _ c.loop-name.invariant (ap (map entry_of) c.in-Some.ensures.steps)
    (omega (arith, c.saturating_add.ensures, c.len.ensures))
    (omega (arith, c.saturating_add-in-loop-name.ensures, c.len-in-loop-name.ensures, size))
