use Rattle.fancy_syntax.proofs.InfoLemmas.{differs}
use Rattle.fancy_syntax.proofs.tree.ExprTree.is_same_but_for_positions.Goals as goal

pub returns-then-not-have_same_info : goal.returns-then-not-have_same_info
returns-then-not-have_same_info c = differs _ c.have_same_info.ensures c.if-not-have_same_info.true (λ q. q.1)

pub returns : goal.returns
returns c = (
  λ e. (c.is_same_but_for_positions.ensures.0 e, c.have_same_info.ensures.0 c.if-not-have_same_info.false),
  λ q. c.is_same_but_for_positions.ensures.1 q.0,
)
