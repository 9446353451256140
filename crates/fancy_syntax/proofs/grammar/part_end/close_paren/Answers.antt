use Rattle.fancy_syntax.specs.Parsed.{state}
use Rattle.fancy_syntax.proofs.MachineLemmas.{closed_here}
use Rattle.fancy_syntax.proofs.grammar.part_end.close_paren.Goals as goal

pub returns-clause-value : goal.returns-clause-value
returns-clause-value c =
    λ r. closed_here r (state c.args.current.now) _ _ c.in-Some.ensures.value c.requires.last c.requires.no_bar
