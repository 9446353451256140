use Rattle.fancy_syntax.specs.Parsed.{state}
use Rattle.fancy_grammar.proofs.AtomStartLemmas.{bare_flag_group}
use Rattle.fancy_syntax.proofs.grammar.group.open_bare.Goals as goal

pub returns-clause-value : goal.returns-clause-value
returns-clause-value c = bare_flag_group (state c.args.current.now) _ _ c.requires.colon
