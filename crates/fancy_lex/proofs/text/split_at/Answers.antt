use Rattle.fancy_lex.proofs.PropertyLemmas.{cut_split}
use Rattle.fancy_lex.proofs.text.split_at.Goals as goal

pub returns-clause-value : goal.returns-clause-value
returns-clause-value c = cut_split c.args.delimiter c.args.text.now _ c.utf8.text c.requires c.split_once.ensures.cases
