use Rattle.std.proofs.Common.{codes, sym, ◌∙◌}
use Rattle.fancy_grammar.specs.Quote.{range}
use Rattle.fancy_syntax.proofs.CapacityLemmas.{written_three}
use Rattle.fancy_syntax.proofs.QuoteLemmas.{counts_braced}
use Rattle.fancy_syntax.proofs.print.quote.put_counts.Goals as goal

pub returns-in-None : goal.returns-in-None
returns-in-None c =
    written_three c.args.buf.now c.put-in-None.new.buf c.put_range.new.buf c.put-in-None-2.new.buf (codes "{")
    (range c.args.lo c.args.hi) (codes "}") _
    c.put-in-None.ensures c.put_range.ensures c.put-in-None-2.ensures
    (sym (counts_braced c.args.lo c.args.hi (c.operator.ensures ∙ c.in-None.is)))
