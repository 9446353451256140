-- What a node is to the searches, by its cases.
use Rattle.std.proofs.Common.{◌≡◌, ℕ, Bool, true, false, ◌||◌, ap₂, rules, ◌∙◌, refl, ap, sym, subst}
use Rattle.std.proofs.lemmas.Bool.{false≢true}
use Rattle.fancy_grammar.specs.Label as label
use Rattle.fancy_grammar.specs.Tree.{Tree, leaf, over, row, empty, is_leaf}
use Rattle.fancy_syntax.specs.View.{view, view_absent, view_ast, absent_step, ast_step, expr_step}
use Rattle.fancy_syntax.specs.declared.expr.Absent.{Absent, out-Absent, map-Absent, fold_out-Absent}
use Rattle.fancy_syntax.specs.declared.expr.Absent.TheOpen.{Absent-F, AstNode-F, Expr-F}
use Rattle.fancy_syntax.specs.declared.expr.AstNode.{AstNode, out-AstNode, map-AstNode, fold_out-AstNode}
use Rattle.fancy_syntax.specs.declared.expr.Expr as expr
use Rattle.fancy_syntax.specs.declared.expr.Expr.{Expr, roll-Expr, out-Expr, roll-out-Expr, map-Expr, fold_out-Expr, the_lemmas}
use Rattle.fancy_syntax.specs.declared.expr.Expr.TheVariants as variant
use Rattle.backtracking.specs.OneCharacter.{is_character}
use Rattle.backtracking.specs.Passed.{is_passed}
use Rattle.backtracking.specs.RegularShape.{is_regular}

-- ---- what holds of no absent form, and of no node as it is read

-- the node is an Empty
abbrev is_empty : Tree → Bool
is_empty empty = true
is_empty _ = false

-- a level with the trees inside already converted
abbrev seen : Expr-F Absent AstNode Expr → Tree
seen u = expr_step (map-Expr Absent AstNode Expr Tree (ℕ → Tree) Tree view_absent view_ast view u)

-- the node is neither an Empty nor one that matches one character, and is not passed
abbrev IsOther : Tree → Type 0
IsOther t = (is_empty t ≡ false) × (is_character t ≡ false) × (is_passed t ≡ false)

absent_step_other : (a : Absent-F Tree (ℕ → Tree) Tree) → IsOther (absent_step a)
absent_step_other (Absent-F.Repeater t) = (refl, refl, refl)
absent_step_other (Absent-F.Expression a e) = (refl, refl, refl)
absent_step_other (Absent-F.Stopper t) = (refl, refl, refl)
absent_step_other Absent-F.Clear = (refl, refl, refl)

absent_other : (a : Absent) → IsOther (view_absent a)
absent_other a =
    subst IsOther (sym (fold_out-Absent Tree (ℕ → Tree) Tree absent_step ast_step expr_step a))
    (absent_step_other (map-Absent Absent AstNode Expr Tree (ℕ → Tree) Tree view_absent view_ast view (out-Absent a)))

node_step_other : (n : AstNode-F Tree (ℕ → Tree) Tree) (position : ℕ) → IsOther (ast_step n position)
node_step_other (AstNode-F.AstGroup name inner) position = (refl, refl, refl)
node_step_other _ position = (refl, refl, refl)

node_other : (n : AstNode) (position : ℕ) → IsOther (view_ast n position)
node_other n position =
    subst (λ f. IsOther (f position)) (sym (fold_out-AstNode Tree (ℕ → Tree) Tree absent_step ast_step expr_step n))
    (node_step_other (map-AstNode Absent AstNode Expr Tree (ℕ → Tree) Tree view_absent view_ast view (out-AstNode n)) position)

-- ---- each kind of node

seen_out : (e : Expr) → view e ≡ seen (out-Expr e)
seen_out e = fold_out-Expr Tree (ℕ → Tree) Tree absent_step ast_step expr_step e

level_not_empty : (u : Expr-F Absent AstNode Expr) → (roll-Expr u ≡ expr.Empty → ⊥) → is_empty (seen u) ≡ false
level_not_empty Expr-F.Empty h = absurd (h variant.rolls-Empty)
level_not_empty (Expr-F.Absent a) h = (absent_other a).0
level_not_empty (Expr-F.AstNode n position) h = (node_other n position).0
level_not_empty u h = refl

not_empty : (e : Expr) → (e ≡ expr.Empty → ⊥) → is_empty (view e) ≡ false
not_empty e h = ap is_empty (seen_out e) ∙ level_not_empty (out-Expr e) (λ is. h (sym (roll-out-Expr e) ∙ is))

level_no_character : (u : Expr-F Absent AstNode Expr) → ((a b : _) → roll-Expr u ≡ expr.Any a b → ⊥) →
    ((a b : _) → roll-Expr u ≡ expr.Literal a b → ⊥) → ((a b : _) → roll-Expr u ≡ expr.Delegate a b → ⊥) →
    is_character (seen u) ≡ false
level_no_character (Expr-F.Any a b) f g h = absurd (f a b (variant.rolls-Any a b))
level_no_character (Expr-F.Literal a b) f g h = absurd (g a b (variant.rolls-Literal a b))
level_no_character (Expr-F.Delegate a b) f g h = absurd (h a b (variant.rolls-Delegate a b))
level_no_character (Expr-F.Absent a) f g h = (absent_other a).1
level_no_character (Expr-F.AstNode n position) f g h = (node_other n position).1
level_no_character u f g h = refl

-- what is no dot, no literal and no class does not match one character
pub no_character : (e : Expr) → ((a b : _) → e ≡ expr.Any a b → ⊥) → ((a b : _) → e ≡ expr.Literal a b → ⊥) →
    ((a b : _) → e ≡ expr.Delegate a b → ⊥) → is_character (view e) ≡ false
no_character e f g h =
    ap is_character (seen_out e)
    ∙ level_no_character (out-Expr e) (λ a b is. f a b (sym (roll-out-Expr e) ∙ is))
    (λ a b is. g a b (sym (roll-out-Expr e) ∙ is)) (λ a b is. h a b (sym (roll-out-Expr e) ∙ is))

level_not_passed : (u : Expr-F Absent AstNode Expr) → ((a : _) → roll-Expr u ≡ expr.Assertion a → ⊥) →
    ((a b : _) → roll-Expr u ≡ expr.Backref a b → ⊥) → ((a b d : _) → roll-Expr u ≡ expr.BackrefWithRelativeRecursionLevel a b d → ⊥) →
    (roll-Expr u ≡ expr.KeepOut → ⊥) → (roll-Expr u ≡ expr.ContinueFromPreviousMatchEnd → ⊥) →
    ((a b : _) → roll-Expr u ≡ expr.BackrefExistsCondition a b → ⊥) → ((a b : _) → roll-Expr u ≡ expr.LookAround a b → ⊥) →
    ((a b d : _) → roll-Expr u ≡ expr.Conditional a b d → ⊥) → is_passed (seen u) ≡ false
level_not_passed (Expr-F.Assertion a) f g h k l m n o = absurd (f a (variant.rolls-Assertion a))
level_not_passed (Expr-F.Expr::Backref a b) f g h k l m n o = absurd (g a b (variant.rolls-Backref a b))
level_not_passed (Expr-F.BackrefWithRelativeRecursionLevel a b d) f g h k l m n o =
    absurd (h a b d (variant.rolls-BackrefWithRelativeRecursionLevel a b d))
level_not_passed Expr-F.KeepOut f g h k l m n o = absurd (k variant.rolls-KeepOut)
level_not_passed Expr-F.ContinueFromPreviousMatchEnd f g h k l m n o = absurd (l variant.rolls-ContinueFromPreviousMatchEnd)
level_not_passed (Expr-F.Expr::BackrefExistsCondition a b) f g h k l m n o = absurd (m a b (variant.rolls-BackrefExistsCondition a b))
level_not_passed (Expr-F.LookAround a b) f g h k l m n o = absurd (n a b (variant.rolls-LookAround a b))
level_not_passed (Expr-F.Conditional a b d) f g h k l m n o = absurd (o a b d (variant.rolls-Conditional a b d))
level_not_passed (Expr-F.Absent a) f g h k l m n o = (absent_other a).2
level_not_passed (Expr-F.AstNode a position) f g h k l m n o = (node_other a position).2
level_not_passed u f g h k l m n o = refl

-- what is of no kind that is passed
pub not_passed : (e : Expr) → ((a : _) → e ≡ expr.Assertion a → ⊥) → ((a b : _) → e ≡ expr.Backref a b → ⊥) →
    ((a b d : _) → e ≡ expr.BackrefWithRelativeRecursionLevel a b d → ⊥) → (e ≡ expr.KeepOut → ⊥) →
    (e ≡ expr.ContinueFromPreviousMatchEnd → ⊥) → ((a b : _) → e ≡ expr.BackrefExistsCondition a b → ⊥) →
    ((a b : _) → e ≡ expr.LookAround a b → ⊥) → ((a b d : _) → e ≡ expr.Conditional a b d → ⊥) → is_passed (view e) ≡ false
not_passed e f g h k l m n o =
    let back = sym (roll-out-Expr e) in
    ap is_passed (seen_out e)
    ∙ level_not_passed (out-Expr e) (λ a is. f a (back ∙ is)) (λ a b is. g a b (back ∙ is)) (λ a b d is. h a b d (back ∙ is))
    (λ is. k (back ∙ is)) (λ is. l (back ∙ is)) (λ a b is. m a b (back ∙ is)) (λ a b is. n a b (back ∙ is)) (λ a b d is. o a b d (back ∙ is))

-- ---- leaves

view_Empty : view expr.Empty ≡ empty
view_Empty = search (rules, the_lemmas)

pub empty_leaf : (e : Expr) → e ≡ expr.Empty → view e ≡ empty
empty_leaf e is = ap view is ∙ view_Empty

leaf_irregular : (t : Tree) → is_leaf t ≡ true → is_empty t ≡ false → is_character t ≡ false → is_passed t ≡ false → is_regular t ≡ false
leaf_irregular (leaf label.empty) l h k p = absurd (false≢true (sym h))
leaf_irregular (leaf a) l h k p = ap₂ (λ b d. b || d) k p
leaf_irregular (over (label.ast_group name position) t) l h k p = refl
leaf_irregular (over w t) l h k p = absurd (false≢true l)
leaf_irregular (row r ts) l h k p = absurd (false≢true l)

-- any other leaf has no ways of its own
pub other_leaf : (e : Expr) → is_leaf (view e) ≡ true → (e ≡ expr.Empty → ⊥) → is_character (view e) ≡ false →
    is_passed (view e) ≡ false → is_regular (view e) ≡ false
other_leaf e l h k p = leaf_irregular (view e) l (not_empty e h) k p
