use Rattle.fancy_c.proofs.TextLemmas.{text_returned}
use Rattle.fancy_c.proofs.print.printed_text.Goals as goal

pub returns : goal.returns
returns c = text_returned _ _ c.print.result c.print.ensures.exact c.print.ensures.text c.print.ensures.reads_back
