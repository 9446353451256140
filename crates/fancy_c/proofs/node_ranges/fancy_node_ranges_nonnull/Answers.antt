use Rattle.std.proofs.Common.{inr}
use Rattle.fancy_lex.specs.Flags.{flags_of}
use Rattle.fancy_c.proofs.ClassRangeLemmas.{ranges_of_row, refused_row, read_row}
use Rattle.fancy_c.proofs.node_ranges.fancy_node_ranges_nonnull.Goals as goal

pub returns-in-Ok-characters_of-clause-read : goal.returns-in-Ok-characters_of-clause-read
returns-in-Ok-characters_of-clause-read c = λ is.
    let (set, means, count, fills) = c.write_meaning.ensures.read is in (
      set.class.ranges.items,
      ranges_of_row (flags_of c.args.flags) _ _ _ _ _ set c.from_bits.ensures c.in-Ok.ensures.row means
          c.in-Ok-characters_of.ensures,
      count,
      fills,
    )

pub returns-in-Ok-characters_of-clause-short : goal.returns-in-Ok-characters_of-clause-short
returns-in-Ok-characters_of-clause-short c = λ is.
    let (set, means, count, short) = c.write_meaning.ensures.short is in (
      set.class.ranges.items,
      ranges_of_row (flags_of c.args.flags) _ _ _ _ _ set c.from_bits.ensures c.in-Ok.ensures.row means
          c.in-Ok-characters_of.ensures,
      count,
      short,
    )

pub returns-in-Ok-characters_of-clause-refused : goal.returns-in-Ok-characters_of-clause-refused
returns-in-Ok-characters_of-clause-refused c = λ is.
    let (e, means, position) = c.write_meaning.ensures.refused is in (
      c.write_meaning.ensures.kind is,
      refused_row (flags_of c.args.flags) _ _ _ _ _ e c.from_bits.ensures c.in-Ok.ensures.row means
          c.in-Ok-characters_of.ensures,
    )

pub returns-in-Ok-characters_of-clause-several : goal.returns-in-Ok-characters_of-clause-several
returns-in-Ok-characters_of-clause-several c = λ is.
    inr (read_row (flags_of c.args.flags) _ _ _ _ _ c.from_bits.ensures c.in-Ok.ensures.row
    (c.write_meaning.ensures.several is) c.in-Ok-characters_of.ensures)
