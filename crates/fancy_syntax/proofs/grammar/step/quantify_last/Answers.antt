use Rattle.std.proofs.Common.{sym, subst}
use Rattle.fancy_syntax.proofs.grammar.step.quantify_last.Goals as goal

pub returns-then-is_unquantified-clause-value : goal.returns-then-is_unquantified-clause-value
returns-then-is_unquantified-clause-value g c below tree h =
    (tree, h, c.is_unquantified.ensures.quants c.if-is_unquantified.true c.args.depth c.args.left tree)

pub returns-then-is_unquantified-clause-spans : goal.returns-then-is_unquantified-clause-spans
returns-then-is_unquantified-clause-spans g c below tree l h x =
    subst (g.S.Spanning.records c.args.spans.now)
    (sym (c.is_unquantified.ensures.spans c.if-is_unquantified.true c.args.left tree l)) x
