use Rattle.fancy_syntax.proofs.print.quote.+number_len.Given as goal

abbrev pub decreases-number_len : goal.decreases-number_len
decreases-number_len l = l.n
