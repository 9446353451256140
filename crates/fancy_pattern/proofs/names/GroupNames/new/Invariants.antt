use Rattle.std.proofs.Common.{map}
use Rattle.fancy_grammar.specs.Groups.{entry_of}
use Rattle.fancy_pattern.proofs.NamesLemmas.{NamingAll}
use Rattle.fancy_pattern.proofs.names.GroupNames.new.Given as goal

abbrev pub invariant-loop-name : goal.invariant-loop-name
invariant-loop-name l =
    NamingAll l.names (map entry_of l.name-iterator) (map entry_of l.tree.named_groups.entries)
