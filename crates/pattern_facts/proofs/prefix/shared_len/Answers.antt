use Rattle.std.proofs.Common.{arith}
use Rattle.pattern_facts.proofs.PrefixLemmas.{shared_end}
use Rattle.pattern_facts.proofs.prefix.shared_len.Goals as goal

pub returns : goal.returns
returns c =
    let none = shared_end c.args.first.now c.args.second.now c.loop-i.i
    (omega (arith, c.min-most.ensures, c.loop-i-test.false)) in
    omega (arith, none, c.loop-i.invariant, c.min-most.ensures, c.loop-i-test.false, c.loop-i.auto.i-end)
