use Rattle.std.proofs.Common.{map}
use Rattle.fancy_grammar.specs.Groups.{entry_of}
use Rattle.fancy_c.proofs.NameRowLemmas.{CountingNames}
use Rattle.fancy_c.proofs.info_rows.count_names.Given as goal

abbrev pub invariant-loop-name : goal.invariant-loop-name
invariant-loop-name l =
    CountingNames l.fn.before.rows l.fn.before.text l.after.rows l.after.text (map entry_of l.fn.groups.entries)
    (map entry_of l.name-iterator)
