-- What a node has below it, as its shape says.
use Rattle.std.specs.Prelude.{◌≡◌, true, List, [], ◌∷◌}
use Rattle.fancy_grammar.specs.Label as label
use Rattle.fancy_grammar.specs.Tree.{Tree, over, concat, alt, conditional, expression, is_leaf, trees_of}
use Rattle.fancy_syntax.specs.View.{view, views}
use Rattle.fancy_syntax.specs.declared.expr.Expr.{Expr}
use Rattle.fancy_syntax.specs.declared.expr.shape.Shape.{Shape}
use Rattle.fancy_syntax.specs.declared.expr.shape.Shape.TheVariants as shape
use Rattle.fancy_syntax.specs.declared.expr.shape.Wrap.{Wrap}
use Rattle.fancy_syntax.specs.declared.expr.shape.Wrap.TheVariants as wrap

-- the label of a node with one child
abbrev pub label_of : Wrap → label.Wrap
label_of wrap.Group = label.group
label_of (wrap.LookAround l) = label.look_around l
label_of (wrap.Repeat lo hi greedy) = label.repeat lo hi greedy
label_of wrap.AtomicGroup = label.atomic_group
label_of wrap.DefineGroup = label.define_group
label_of wrap.Repeater = label.repeater
label_of wrap.Stopper = label.stopper

-- The tree has this shape. An `ast_group` is a `shape.Leaf` too, although its label is a `Wrap`.
abbrev pub HasShape : Shape → Tree → Type 0
HasShape shape.Leaf t = is_leaf t ≡ true
HasShape (shape.Around w child) t = t ≡ over (label_of w) (view child.now)
HasShape (shape.Concat trees) t = t ≡ concat (trees_of (views trees.now))
HasShape (shape.Alt trees) t = t ≡ alt (trees_of (views trees.now))
HasShape (shape.Conditional c a b) t = t ≡ conditional (view c.now) (view a.now) (view b.now)
HasShape (shape.Expression a e) t = t ≡ expression (view a.now) (view e.now)

-- the children of a node of this shape in text order, as values
abbrev pub children_in : Shape → List Expr
children_in shape.Leaf = []
children_in (shape.Around w child) = child.now ∷ []
children_in (shape.Concat trees) = trees.now
children_in (shape.Alt trees) = trees.now
children_in (shape.Conditional c a b) = c.now ∷ a.now ∷ b.now ∷ []
children_in (shape.Expression a e) = a.now ∷ e.now ∷ []
