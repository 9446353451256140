use Rattle.std.proofs.Common.{rules, get_or}
use Rattle.fancy_syntax.proofs.QuoteLemmas.{one_counted}
use Rattle.fancy_syntax.proofs.print.quote.quotes_len.Goals as goal

pub returns-in-len1 : goal.returns-in-len1
returns-in-len1 c =
    let byte = get_or c.args.text.now 0 0 in
    let one = one_counted c.args.text.now byte c.utf8.text (search rules) (search rules) (search rules) in
    search (rules, one)
