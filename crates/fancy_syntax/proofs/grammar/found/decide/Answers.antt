use Rattle.std.proofs.Common.{ap, arith}
use Rattle.fancy_grammar.specs.Groups.{Groups, groups_of}
use Rattle.fancy_syntax.proofs.FoundLemmas.{all_groups, none_named, some_named}
use Rattle.fancy_syntax.proofs.grammar.found.decide.Goals as goal

pub returns-then-groups-gt0-clause-named : goal.returns-then-groups-gt0-clause-named
returns-then-groups-gt0-clause-named c l same =
    some_named c.args.ignore l c.args.groups.total (ap (λ (g : Groups). g.total) same)
    (λ none. omega (arith, c.if-groups-gt0.true, none))

pub returns-clause-named : goal.returns-clause-named
returns-clause-named c l same =
    none_named c.args.ignore l c.args.groups.total (ap (λ (g : Groups). g.total) same)
    (omega (arith, c.if-groups-gt0.false))

pub returns-clause-groups : goal.returns-clause-groups
returns-clause-groups c l same counted =
    all_groups c.args.ignore l (groups_of c.args.groups) c.args.undecided same
    (omega (arith, c.if-groups-gt0.false)) counted
