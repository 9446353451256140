-- The immediate children of an `Expr`, and those that an iterator has still to return.
use Rattle.std.specs.Prelude.{List, [], ◌∷◌, ◌++◌, Option, option_map}
use Rattle.std.specs.Borrow.{Bor}
use Rattle.std.specs.Option.{option_to_list}
use Rattle.std.specs.Slice.Iter.{iter_rest}
use Rattle.fancy_syntax.specs.declared.expr.Absent.{Absent, out-Absent}
use Rattle.fancy_syntax.specs.declared.expr.Absent.TheOpen.{Absent-F, Expr-F}
use Rattle.fancy_syntax.specs.declared.expr.AstNode.{AstNode}
use Rattle.fancy_syntax.specs.declared.expr.Expr.{Expr, out-Expr}
use Rattle.fancy_syntax.specs.declared.expr.children.ExprChildrenIter.{ExprChildrenIter}
use Rattle.fancy_syntax.specs.declared.expr.children.ExprChildrenIter.TheVariants as iter

-- one level
abbrev children_of_absent : Absent-F Absent AstNode Expr → List Expr
children_of_absent (Absent-F.Repeater t) = t.value ∷ []
children_of_absent (Absent-F.Expression a e) = a.value ∷ e.value ∷ []
children_of_absent (Absent-F.Stopper t) = t.value ∷ []
children_of_absent Absent-F.Clear = []

abbrev children_step : Expr-F Absent AstNode Expr → List Expr
children_step (Expr-F.Concat v) = v.items
children_step (Expr-F.Alt v) = v.items
children_step (Expr-F.Group t) = t.value ∷ []
children_step (Expr-F.LookAround t l) = t.value ∷ []
children_step (Expr-F.Repeat t lo hi greedy) = t.value ∷ []
children_step (Expr-F.AtomicGroup t) = t.value ∷ []
children_step (Expr-F.Conditional c t f) = c.value ∷ t.value ∷ f.value ∷ []
children_step (Expr-F.Absent a) = children_of_absent (out-Absent a)
children_step (Expr-F.DefineGroup t) = t.value ∷ []
children_step _ = []

-- the immediate children in text order, as values
abbrev pub children_of : Expr → List Expr
children_of e = children_step (out-Expr e)

-- a child that was not returned yet
abbrev waiting : Option (Bor Expr) → List Expr
waiting child = option_to_list (option_map (λ c. c.now) child)

-- the children that an iterator has still to return
abbrev pub remaining_children : ExprChildrenIter → List Expr
remaining_children iter.Empty = []
remaining_children (iter.Single child) = waiting child
remaining_children (iter.Vec items) = iter_rest items
remaining_children (iter.Triple first second third) = waiting first ++ waiting second ++ waiting third
