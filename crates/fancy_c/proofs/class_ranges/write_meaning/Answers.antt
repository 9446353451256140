use Rattle.std.proofs.Common.{length, map, ap, subst, ◌∙◌}
use Rattle.fancy_c.specs.Buffer.{Fills}
use Rattle.fancy_c.specs.ClassRanges.{row}
use Rattle.fancy_c.proofs.class_ranges.write_meaning.Goals as goal

pub returns-in-Characters-clause-read : goal.returns-in-Characters-clause-read
returns-in-Characters-clause-read c = λ is. (
  c.in-Characters.set,
  c.in-Characters.is,
  c.write_rows.ensures.count ∙ ap length c.ranges-in-Characters.ensures,
  subst (λ l. Fills c.args.rows.now c.write_rows.new.rows (map row l)) c.ranges-in-Characters.ensures
      (c.write_rows.ensures.read is),
)

pub returns-in-Characters-clause-short : goal.returns-in-Characters-clause-short
returns-in-Characters-clause-short c = λ is. (
  c.in-Characters.set,
  c.in-Characters.is,
  c.write_rows.ensures.count ∙ ap length c.ranges-in-Characters.ensures,
  c.write_rows.ensures.short is,
)
