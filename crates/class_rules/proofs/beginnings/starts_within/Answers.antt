use Rattle.class_rules.proofs.beginnings.starts_within.Goals as goal

pub returns : goal.returns
returns c within =
    let subsumed = c.in_ok-within.ensures within in (
      c.fits_count.ensures.counted c.if-not-fits_count.false,
      c.fits_count.ensures.fits c.if-not-fits_count.false,
      rw (c.operand.ensures, c.operand-2.ensures) at subsumed,
    )
