-- The tree that an `Expr` represents.
use Rattle.std.specs.Prelude.{ℕ, List, map, option_map}
use Rattle.fancy_lex.specs.NameViews.{view_target}
use Rattle.fancy_lex.specs.Text.{text_of}
use Rattle.fancy_grammar.specs.Tree.{Tree, empty, any, assertion, general_newline, literal, literal_bytes, concat, alt}
use Rattle.fancy_grammar.specs.Tree.{group, look_around, repeat, delegate, backref, backref_at_level, atomic_group}
use Rattle.fancy_grammar.specs.Tree.{keep_out, continue_from_previous_match_end, backref_exists, conditional}
use Rattle.fancy_grammar.specs.Tree.{subroutine_call, verb, define_group, ast_node, repeater, expression, stopper}
use Rattle.fancy_grammar.specs.Tree.{clear, ast_group, trees_of}
use Rattle.fancy_grammar.specs.Label.{ast_backref, ast_call, ast_condition}
use Rattle.fancy_syntax.specs.declared.expr.Expr.{Expr, fold-Expr}
use Rattle.fancy_syntax.specs.declared.expr.Absent.{Absent, fold-Absent}
use Rattle.fancy_syntax.specs.declared.expr.AstNode.{AstNode, fold-AstNode}
use Rattle.fancy_syntax.specs.declared.expr.Absent.TheOpen.{Absent-F, AstNode-F, Expr-F}

-- one level, with the trees inside already converted
abbrev pub absent_step : Absent-F Tree (ℕ → Tree) Tree → Tree
absent_step (Absent-F.Repeater t) = repeater t.value
absent_step (Absent-F.Expression a e) = expression a.value e.value
absent_step (Absent-F.Stopper t) = stopper t.value
absent_step Absent-F.Clear = clear

-- the node at its position
abbrev pub ast_step : AstNode-F Tree (ℕ → Tree) Tree → ℕ → Tree
ast_step (AstNode-F.AstGroup name inner) position = ast_group (option_map text_of name) position inner.value
ast_step (AstNode-F.AstNode::Backref casei t level) position = ast_node (ast_backref (view_target t) casei level) position
ast_step (AstNode-F.AstNode::SubroutineCall t) position = ast_node (ast_call (view_target t)) position
ast_step (AstNode-F.AstNode::BackrefExistsCondition t level) position =
    ast_node (ast_condition (view_target t) level) position

abbrev pub expr_step : Expr-F Tree (ℕ → Tree) Tree → Tree
expr_step Expr-F.Empty = empty
expr_step (Expr-F.Any newline crlf) = any newline crlf
expr_step (Expr-F.Assertion a) = assertion a
expr_step (Expr-F.GeneralNewline u) = general_newline u
expr_step (Expr-F.Literal s casei) = literal (text_of s) casei
expr_step (Expr-F.LiteralBytes b) = literal_bytes b.items
expr_step (Expr-F.Concat v) = concat (trees_of v.items)
expr_step (Expr-F.Alt v) = alt (trees_of v.items)
expr_step (Expr-F.Group t) = group t.value
expr_step (Expr-F.LookAround t l) = look_around t.value l
expr_step (Expr-F.Repeat t lo hi greedy) = repeat t.value lo hi greedy
expr_step (Expr-F.Delegate s casei) = delegate (text_of s) casei
expr_step (Expr-F.Expr::Backref n casei) = backref n casei
expr_step (Expr-F.BackrefWithRelativeRecursionLevel n level casei) = backref_at_level n level casei
expr_step (Expr-F.AtomicGroup t) = atomic_group t.value
expr_step Expr-F.KeepOut = keep_out
expr_step Expr-F.ContinueFromPreviousMatchEnd = continue_from_previous_match_end
expr_step (Expr-F.Expr::BackrefExistsCondition n level) = backref_exists n level
expr_step (Expr-F.Conditional c t f) = conditional c.value t.value f.value
expr_step (Expr-F.Expr::SubroutineCall n) = subroutine_call n
expr_step (Expr-F.BacktrackingControlVerb v) = verb v
expr_step (Expr-F.Absent a) = a
expr_step (Expr-F.DefineGroup t) = define_group t.value
expr_step (Expr-F.AstNode n position) = n position

abbrev pub view : Expr → Tree
view = fold-Expr Tree (ℕ → Tree) Tree absent_step ast_step expr_step

abbrev pub view_absent : Absent → Tree
view_absent = fold-Absent Tree (ℕ → Tree) Tree absent_step ast_step expr_step

abbrev pub view_ast : AstNode → ℕ → Tree
view_ast = fold-AstNode Tree (ℕ → Tree) Tree absent_step ast_step expr_step

-- the trees of several expressions
abbrev pub views : List Expr → List Tree
views = map view
