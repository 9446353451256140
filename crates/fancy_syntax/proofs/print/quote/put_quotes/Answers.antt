use Rattle.std.proofs.Common.{subst, rules, sym}
use Rattle.fancy_syntax.specs.Capacity.{HasCapacity}
use Rattle.fancy_syntax.proofs.QuoteLemmas.{one_quoted}
use Rattle.fancy_syntax.proofs.CapacityLemmas.{written_as}
use Rattle.fancy_syntax.proofs.print.quote.put_quotes.Goals as goal

pub put_quote-requires : goal.put_quote-requires
put_quote-requires c =
    let one = one_quoted c.args.text.now c.from.result c.utf8.text (search rules) (search rules) (search rules) in
    subst (HasCapacity c.args.buf.now) one c.requires

pub returns-in-len1 : goal.returns-in-len1
returns-in-len1 c =
    let one = one_quoted c.args.text.now c.from.result c.utf8.text (search rules) (search rules) (search rules) in
    written_as c.args.buf.now c.put_quote.new.buf _ _ c.put_quote.ensures (sym one)
