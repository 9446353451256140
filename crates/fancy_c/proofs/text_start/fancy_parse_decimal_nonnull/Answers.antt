use Rattle.std.proofs.Common.{chars, sym, subst}
use Rattle.fancy_c.specs.TextStart.{IsDecimalOf}
use Rattle.fancy_c.proofs.text_start.fancy_parse_decimal_nonnull.Goals as goal

pub returns-in-Ok-clause-read : goal.returns-in-Ok-clause-read
returns-in-Ok-clause-read c = λ _. (
  c.in-Ok.ensures.text.1,
  subst (λ n. IsDecimalOf (chars c.args.text.now) n c.args.value.now c.read_decimal.new.value)
      (sym c.of_size.ensures.size)
      (subst (λ b. IsDecimalOf (chars b) c.read_decimal.result c.args.value.now c.read_decimal.new.value)
      c.in-Ok.ensures.text.0 c.read_decimal.ensures),
)
