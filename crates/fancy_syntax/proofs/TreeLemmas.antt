-- The trees of the nodes that the parser makes.
use Rattle.std.proofs.Common.{◌≡◌, Bool, Global, String, Vec, rules}
use Rattle.fancy_lex.specs.Text.{text_of}
use Rattle.fancy_grammar.specs.Tree.{empty, literal, concat, alt, delegate, trees_of}
use Rattle.fancy_syntax.specs.View.{view, views}
use Rattle.fancy_syntax.specs.declared.expr.Expr.{Expr, Empty, Literal, Concat, Alt, Delegate, the_lemmas}

pub view_Empty : view Empty ≡ empty
view_Empty = search (rules, the_lemmas)

pub view_Literal : (s : String Global) (casei : Bool) → view (Literal s casei) ≡ literal (text_of s) casei
view_Literal s casei = search (rules, the_lemmas)

pub view_Concat : (v : Vec Expr Global) → view (Concat v) ≡ concat (trees_of (views v.items))
view_Concat v = search (rules, the_lemmas)

pub view_Alt : (v : Vec Expr Global) → view (Alt v) ≡ alt (trees_of (views v.items))
view_Alt v = search (rules, the_lemmas)

pub view_Delegate : (s : String Global) (casei : Bool) → view (Delegate s casei) ≡ delegate (text_of s) casei
view_Delegate s casei = search (rules, the_lemmas)
