use Rattle.std.proofs.Common.{chars, arith, subst}
use Rattle.std.proofs.lemmas.List.{take_all}
use Rattle.fancy_pattern.proofs.NamesLemmas.{Naming, naming_ends}
use Rattle.fancy_pattern.proofs.names.add_name.Goals as goal

pub returns : goal.returns
returns c es are =
    naming_ends c.args.names.now c.loop-number.names (chars c.args.text.now, c.args.numbers.now) es are
    (subst (Naming c.args.names.now c.loop-number.names (chars c.args.text.now, c.args.numbers.now))
    (take_all c.loop-number.number-index c.args.numbers.now (omega arith)) c.loop-number.invariant)
