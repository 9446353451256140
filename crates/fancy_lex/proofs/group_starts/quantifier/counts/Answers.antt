use Rattle.fancy_lex.proofs.CountLaws.{counts_cut}
use Rattle.fancy_lex.proofs.group_starts.quantifier.counts.Goals as goal

pub returns-clause-cut : goal.returns-clause-cut
returns-clause-cut c = counts_cut _ _ c.read_counts.result c.read_counts.ensures.value
