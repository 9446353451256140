use Rattle.fancy_lex.specs.Flags.{flags_of}
use Rattle.fancy_c.proofs.ClassRangeLemmas.{ranges_of_bytes, refused_bytes, refused_at, pattern_bytes}
use Rattle.fancy_c.proofs.class_ranges.fancy_class_ranges_nonnull.Goals as goal

pub returns-in-Ok-characters_of_class-clause-read : goal.returns-in-Ok-characters_of_class-clause-read
returns-in-Ok-characters_of_class-clause-read c = λ is.
    let (set, means, count, fills) = c.write_meaning.ensures.read is in
    let (same, utf8) = c.in-Ok.ensures.text in (
      utf8,
      set.class.ranges.items,
      ranges_of_bytes (flags_of c.args.flags) _ _ _ _ set c.from_bits-flags.ensures same means
          c.in-Ok-characters_of_class.ensures.meaning,
      count,
      fills,
    )

pub returns-in-Ok-characters_of_class-clause-short : goal.returns-in-Ok-characters_of_class-clause-short
returns-in-Ok-characters_of_class-clause-short c = λ is.
    let (set, means, count, short) = c.write_meaning.ensures.short is in
    let (same, utf8) = c.in-Ok.ensures.text in (
      utf8,
      set.class.ranges.items,
      ranges_of_bytes (flags_of c.args.flags) _ _ _ _ set c.from_bits-flags.ensures same means
          c.in-Ok-characters_of_class.ensures.meaning,
      count,
      short,
    )

pub returns-in-Ok-characters_of_class-clause-refused : goal.returns-in-Ok-characters_of_class-clause-refused
returns-in-Ok-characters_of_class-clause-refused c = λ is.
    let (e, means, position) = c.write_meaning.ensures.refused is in
    let (same, utf8) = c.in-Ok.ensures.text in (
      utf8,
      c.write_meaning.ensures.kind is,
      refused_bytes (flags_of c.args.flags) _ _ _ _ e c.from_bits-flags.ensures same means
          c.in-Ok-characters_of_class.ensures.meaning,
      refused_at _ _ _ e _ same means position c.in-Ok-characters_of_class.ensures.span,
    )

pub returns-in-Ok-characters_of_class-clause-several : goal.returns-in-Ok-characters_of_class-clause-several
returns-in-Ok-characters_of_class-clause-several c = λ is.
    let (same, utf8) = c.in-Ok.ensures.text in (
      utf8,
      pattern_bytes (flags_of c.args.flags) _ _ _ _ c.from_bits-flags.ensures same (c.write_meaning.ensures.several is)
          c.in-Ok-characters_of_class.ensures.meaning,
    )
