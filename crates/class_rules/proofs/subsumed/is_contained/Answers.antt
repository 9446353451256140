use Rattle.std.proofs.Common.{sym, ap, ◌∙◌}
use Rattle.fancy_syntax.specs.View.{view}
use Rattle.class_rules.proofs.subsumed.is_contained.Goals as goal

pub returns-then-is_class-clause-within : goal.returns-then-is_class-clause-within
returns-then-is_class-clause-within c _ = (
  λ same.
      let equal = c.eq.ensures.decides.1 (ap view c.expr-tree.ensures ∙ same ∙ sym (ap view c.expr-containing.ensures)) in cc,
  rw (c.expr-tree.ensures, c.expr-containing.ensures, c.is_unicode-unicode.ensures) at
      c.in_ok-is_subsumed.ensures c.if-not-branch-2.false,
)

pub returns-clause-within : goal.returns-clause-within
returns-clause-within c _ = (
  λ same.
      let equal = c.eq.ensures.decides.1 (ap view c.expr-tree.ensures ∙ same ∙ sym (ap view c.expr-containing.ensures)) in cc,
  rw (c.expr-tree.ensures, c.expr-containing.ensures, c.is_unicode-unicode.ensures) at
      c.in_ok-is_subsumed.ensures c.if-not-branch-2.false,
)
