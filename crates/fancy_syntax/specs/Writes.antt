-- The children of a tree by number, and the children of an `Expr` and an `Absent` that can be borrowed.
use Rattle.std.specs.Prelude.{ℕ, Option, slice_get}
use Rattle.std.specs.Borrow.{MutBor, Fml}
use Rattle.std.specs.declared.alloc.Global.{Global}
use Rattle.std.specs.declared.boxed.Box.{Box}
use Rattle.fancy_syntax.specs.Loans.{LendsChildAt, LendsBoxAt}
use Rattle.fancy_grammar.specs.Tree.{Tree, children, with_child}
use Rattle.fancy_syntax.specs.View.{view, view_absent}
use Rattle.fancy_syntax.specs.contracts.expr.Absent as absent_type
use Rattle.fancy_syntax.specs.contracts.expr.Expr as expr
use Rattle.fancy_syntax.specs.declared.expr.Absent.{Absent}
use Rattle.fancy_syntax.specs.declared.expr.Expr.{Expr}

-- the child i
abbrev pub child_at : Tree → ℕ → Option Tree
child_at t i = slice_get (children t) i

-- e ends with its child i as r leaves it, and otherwise as it was
abbrev pub LendsChild : MutBor Expr → ℕ → Option (MutBor Expr) → Fml
LendsChild = LendsChildAt expr.the_row expr.the_row Tree view view with_child

-- a ends with the box of its child i as r leaves it, and otherwise as it was
abbrev pub LendsAbsentBox : MutBor Absent → ℕ → Option (MutBor (Box Expr Global)) → Fml
LendsAbsentBox = LendsBoxAt absent_type.the_row expr.the_row Tree view_absent view with_child
