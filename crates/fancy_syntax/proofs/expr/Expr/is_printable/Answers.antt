use Rattle.fancy_syntax.specs.View.{view}
use Rattle.fancy_grammar.proofs.PrintableLemmas.{has_text_if}
use Rattle.fancy_grammar.proofs.ReadBack.NormalLaws.{normal_if, fixed_if}
use Rattle.fancy_syntax.proofs.expr.Expr.is_printable.Goals as goal

pub returns-clause-text : goal.returns-clause-text
returns-clause-text c = has_text_if c.is_printable.result (view c.args.self.now) c.is_printable.ensures.exact

pub returns-clause-normal : goal.returns-clause-normal
returns-clause-normal c = normal_if c.is_printable.result (view c.args.self.now) c.is_printable.ensures.exact

pub returns-clause-fixed : goal.returns-clause-fixed
returns-clause-fixed c = fixed_if c.is_printable.result (view c.args.self.now)
