use Rattle.std.proofs.Common.{ap, ◌∙◌}
use Rattle.fancy_lex.specs.Flags.{flags_of}
use Rattle.fancy_lex.proofs.FlagLemmas.{all_joined, flags_back}
use Rattle.fancy_lex.proofs.flags.Flags.to_bits.Goals as goal

pub returns-clause-sum : goal.returns-clause-sum
returns-clause-sum c =
    all_joined c.args.self _ _ _ _ _ _ _ _ _ c.bit.ensures c.bit-2.ensures c.bit-3.ensures c.bit-4.ensures c.bit-5.ensures
    c.bit-6.ensures c.bit-7.ensures c.bit-8.ensures c.bit-9.ensures

pub returns-clause-back : goal.returns-clause-back
returns-clause-back c =
    ap flags_of (all_joined c.args.self _ _ _ _ _ _ _ _ _ c.bit.ensures c.bit-2.ensures c.bit-3.ensures c.bit-4.ensures
    c.bit-5.ensures c.bit-6.ensures c.bit-7.ensures c.bit-8.ensures c.bit-9.ensures)
    ∙ flags_back c.args.self
