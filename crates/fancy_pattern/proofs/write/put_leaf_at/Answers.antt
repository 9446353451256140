use Rattle.std.proofs.Common.{true, false, [], sym, ◌∙◌}
use Rattle.fancy_syntax.specs.View.{view}
use Rattle.fancy_pattern.specs.ContextViews.{leaf_text_of}
use Rattle.fancy_pattern.proofs.NodeLemmas.{atom_writes}
use Rattle.fancy_pattern.proofs.WritesLemmas.{on_then, parens_writes, positioned_writes, on_positioned}
use Rattle.fancy_pattern.proofs.write.put_leaf_at.Goals as goal

pub returns-then-needs_group : goal.returns-then-needs_group
returns-then-needs_group c = λ m names. on_then _ _ _ c.close.ensures
    (λ closed. atom_writes _ _ _ _ (view c.args.leaf.now) c.args.precedence (λ o. [])
    (leaf_text_of m (view c.args.leaf.now)) (λ h. h) true
    (sym c.if-needs_group.true ∙ c.needs_group.ensures)
    (parens_writes _ _ _ _ _ _ _ _ _ _ _ _ c.in_ok-open.ensures.0 c.in_ok-open.ensures.1
    (positioned_writes _ _ _ _ (λ k h l is. c.in_ok-put_leaf.ensures m k h l names is))
    closed.0 closed.1))

pub returns : goal.returns
returns c = λ m names. on_then _ _ _
    (on_positioned _ _ _ _ _ (λ k h l is. c.put_leaf-2.ensures m k h l names is))
    (λ w. atom_writes _ _ _ _ (view c.args.leaf.now) c.args.precedence _ _ _ false
    (sym c.if-needs_group.false ∙ c.needs_group.ensures) w)
