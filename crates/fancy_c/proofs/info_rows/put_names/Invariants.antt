use Rattle.std.proofs.Common.{map}
use Rattle.fancy_grammar.specs.Groups.{entry_of}
use Rattle.fancy_c.proofs.NameRowLemmas.{PuttingNames}
use Rattle.fancy_c.proofs.info_rows.put_names.Given as goal

abbrev pub invariant-loop-name : goal.invariant-loop-name
invariant-loop-name l =
    PuttingNames l.initial.names l.names l.initial.bytes l.bytes l.fn.before.rows l.fn.before.text l.after.rows
    l.after.text (map entry_of l.fn.groups.entries) (map entry_of l.name-iterator)
