-- The children of a node that holds a list, and of a leaf.
use Rattle.std.proofs.Common.{◌≡◌, true, List, [], ◌∷◌, Global, Vec, rules, ◌∙◌, refl, ap}
use Rattle.std.proofs.lemmas.Bool.{false≢true}
use Rattle.fancy_grammar.specs.Label as label
use Rattle.fancy_grammar.specs.Tree.{Tree, leaf, over, row, concat, alt, children, is_leaf, list_of, trees_of}
use Rattle.fancy_syntax.specs.View.{view, views}
use Rattle.fancy_syntax.specs.declared.expr.Expr.{Expr, Concat, Alt, the_lemmas}

pub list_of_trees_of : (ts : List Tree) → list_of (trees_of ts) ≡ ts
list_of_trees_of [] = refl
list_of_trees_of (t ∷ ts) = ap (λ us. t ∷ us) (list_of_trees_of ts)

pub view_Concat : (v : Vec Expr Global) → view (Concat v) ≡ concat (trees_of (views v.items))
view_Concat v = search (rules, the_lemmas)

pub view_Alt : (v : Vec Expr Global) → view (Alt v) ≡ alt (trees_of (views v.items))
view_Alt v = search (rules, the_lemmas)

pub concat_children : (t : Tree) (es : List Expr) → t ≡ concat (trees_of (views es)) → children t ≡ views es
concat_children t es h = ap children h ∙ list_of_trees_of (views es)

pub alt_children : (t : Tree) (es : List Expr) → t ≡ alt (trees_of (views es)) → children t ≡ views es
alt_children t es h = ap children h ∙ list_of_trees_of (views es)

pub children_Concat : (e : Expr) (v : Vec Expr Global) → e ≡ Concat v → children (view e) ≡ views v.items
children_Concat e v h = concat_children (view e) v.items (ap view h ∙ view_Concat v)

pub children_Alt : (e : Expr) (v : Vec Expr Global) → e ≡ Alt v → children (view e) ≡ views v.items
children_Alt e v h = alt_children (view e) v.items (ap view h ∙ view_Alt v)

pub leaf_children : (t : Tree) → is_leaf t ≡ true → children t ≡ []
leaf_children (leaf l) h = refl
leaf_children (over (label.ast_group name position) t) h = refl
leaf_children (over w t) h = absurd (false≢true h)
leaf_children (row r ts) h = absurd (false≢true h)
