use Rattle.fancy_c.proofs.TextLemmas.{pattern_returned}
use Rattle.fancy_c.proofs.pattern.pattern_of.Goals as goal

pub returns : goal.returns
returns c = pattern_returned _ _ _ c.to_pattern.result c.to_pattern.ensures.text c.to_pattern.ensures.reads_back
    c.to_pattern.ensures.parsed
