-- Two trees of different variants are not equal, with or without their positions.
use Rattle.std.proofs.Common.{◌≡◌, ℕ, Bool, true, false, ◌∙◌, refl, ap, sym, subst}
use Rattle.fancy_grammar.specs.Positioned.{positioned}
use Rattle.fancy_grammar.specs.Same.{same}
use Rattle.fancy_grammar.specs.Label as label
use Rattle.fancy_grammar.proofs.SameLaws.{same-Decides}
use Rattle.fancy_grammar.specs.Tree.{Tree, leaf, over, row}
use Rattle.fancy_syntax.specs.View.{view, view_absent, view_ast, absent_step, ast_step, expr_step}
use Rattle.fancy_syntax.specs.declared.expr.Absent.{Absent, out-Absent, map-Absent, fold_out-Absent}
use Rattle.fancy_syntax.specs.declared.expr.Absent.TheOpen.{Absent-F, AstNode-F, Expr-F}
use Rattle.fancy_syntax.specs.declared.expr.AstNode.{AstNode, out-AstNode, map-AstNode, fold_out-AstNode}
use Rattle.fancy_syntax.specs.declared.expr.Expr as expr
use Rattle.fancy_syntax.specs.declared.expr.Expr.{Expr, out-Expr, roll-Expr, roll-out-Expr, map-Expr, fold_out-Expr}
use Rattle.fancy_syntax.specs.declared.expr.Expr.TheVariants as variant

-- the tree is of a variant other than that of this level
abbrev pub Other : Expr-F Absent AstNode Expr → Expr → Type 0
Other Expr-F.Empty y = y ≡ expr.Empty → ⊥
Other (Expr-F.Any _ _) y = (a b : _) → y ≡ expr.Any a b → ⊥
Other (Expr-F.Assertion _) y = (a : _) → y ≡ expr.Assertion a → ⊥
Other (Expr-F.GeneralNewline _) y = (a : _) → y ≡ expr.GeneralNewline a → ⊥
Other (Expr-F.Literal _ _) y = (a b : _) → y ≡ expr.Literal a b → ⊥
Other (Expr-F.LiteralBytes _) y = (a : _) → y ≡ expr.LiteralBytes a → ⊥
Other (Expr-F.Concat _) y = (a : _) → y ≡ expr.Concat a → ⊥
Other (Expr-F.Alt _) y = (a : _) → y ≡ expr.Alt a → ⊥
Other (Expr-F.Group _) y = (a : _) → y ≡ expr.Group a → ⊥
Other (Expr-F.LookAround _ _) y = (a b : _) → y ≡ expr.LookAround a b → ⊥
Other (Expr-F.Repeat _ _ _ _) y = (a b c d : _) → y ≡ expr.Repeat a b c d → ⊥
Other (Expr-F.Delegate _ _) y = (a b : _) → y ≡ expr.Delegate a b → ⊥
Other (Expr-F.Expr::Backref _ _) y = (a b : _) → y ≡ expr.Backref a b → ⊥
Other (Expr-F.BackrefWithRelativeRecursionLevel _ _ _) y = (a b c : _) →
    y ≡ expr.BackrefWithRelativeRecursionLevel a b c → ⊥
Other (Expr-F.AtomicGroup _) y = (a : _) → y ≡ expr.AtomicGroup a → ⊥
Other Expr-F.KeepOut y = y ≡ expr.KeepOut → ⊥
Other Expr-F.ContinueFromPreviousMatchEnd y = y ≡ expr.ContinueFromPreviousMatchEnd → ⊥
Other (Expr-F.Expr::BackrefExistsCondition _ _) y = (a b : _) → y ≡ expr.BackrefExistsCondition a b → ⊥
Other (Expr-F.Conditional _ _ _) y = (a b c : _) → y ≡ expr.Conditional a b c → ⊥
Other (Expr-F.Expr::SubroutineCall _) y = (a : _) → y ≡ expr.SubroutineCall a → ⊥
Other (Expr-F.BacktrackingControlVerb _) y = (a : _) → y ≡ expr.BacktrackingControlVerb a → ⊥
Other (Expr-F.Absent _) y = (a : _) → y ≡ expr.Absent a → ⊥
Other (Expr-F.DefineGroup _) y = (a : _) → y ≡ expr.DefineGroup a → ⊥
Other (Expr-F.AstNode _ _) y = (a b : _) → y ≡ expr.AstNode a b → ⊥

-- a level with the trees inside already converted
abbrev seen : Expr-F Absent AstNode Expr → Tree
seen u = expr_step (map-Expr Absent AstNode Expr Tree (ℕ → Tree) Tree view_absent view_ast view u)

-- what distinguishes an absent form, and a node as it is read, from the others
abbrev is_absent : Tree → Bool
is_absent (leaf label.clear) = true
is_absent (over label.repeater t) = true
is_absent (over label.stopper t) = true
is_absent (row label.expression ts) = true
is_absent _ = false

abbrev is_read : Tree → Bool
is_read (leaf (label.ast_node r position)) = true
is_read (over (label.ast_group name position) t) = true
is_read _ = false

absent_step_is : (p : Bool) (a : Absent-F Tree (ℕ → Tree) Tree) → is_absent (positioned p (absent_step a)) ≡ true
absent_step_is p (Absent-F.Repeater t) = refl
absent_step_is p _ = refl

absent_is : (p : Bool) (a : Absent) → is_absent (positioned p (view_absent a)) ≡ true
absent_is p a =
    ap (λ t. is_absent (positioned p t)) (fold_out-Absent Tree (ℕ → Tree) Tree absent_step ast_step expr_step a)
    ∙ absent_step_is p (map-Absent Absent AstNode Expr Tree (ℕ → Tree) Tree view_absent view_ast view (out-Absent a))

-- the tree is a node as it is read, and no absent form
abbrev pub IsRead : Bool → Tree → Type 0
IsRead p t = (is_read (positioned p t) ≡ true) × (is_absent (positioned p t) ≡ false)

node_step_is : (p : Bool) (n : AstNode-F Tree (ℕ → Tree) Tree) (position : ℕ) → IsRead p (ast_step n position)
node_step_is p (AstNode-F.AstGroup name inner) position = (refl, refl)
node_step_is p _ position = (refl, refl)

node_is : (p : Bool) (n : AstNode) (position : ℕ) → IsRead p (view_ast n position)
node_is p n position =
    subst (λ f. IsRead p (f position))
    (sym (fold_out-AstNode Tree (ℕ → Tree) Tree absent_step ast_step expr_step n))
    (node_step_is p
    (map-AstNode Absent AstNode Expr Tree (ℕ → Tree) Tree view_absent view_ast view (out-AstNode n)) position)

false_unless : (b : Bool) → (b ≡ true → ⊥) → false ≡ b
false_unless true h = absurd (h refl)
false_unless false h = refl

-- two trees, one of which has the property
differ : (f : Tree → Bool) (s t : Tree) (b c : Bool) → f s ≡ b → f t ≡ c → (b ≡ c → ⊥) → false ≡ same s t
differ f s t b c e g h =
    false_unless (same s t) (λ i. h (sym e ∙ ap f ((same-Decides s t).0 i) ∙ g))

levels_apart : (p : Bool) (u v : Expr-F Absent AstNode Expr) → Other u (roll-Expr v) →
    false ≡ same (positioned p (seen u)) (positioned p (seen v))
levels_apart p Expr-F.Empty Expr-F.Empty h = absurd (h variant.rolls-Empty)
levels_apart p (Expr-F.Any _ _) (Expr-F.Any a b) h = absurd (h a b (variant.rolls-Any a b))
levels_apart p (Expr-F.Assertion _) (Expr-F.Assertion a) h = absurd (h a (variant.rolls-Assertion a))
levels_apart p (Expr-F.GeneralNewline _) (Expr-F.GeneralNewline a) h = absurd (h a (variant.rolls-GeneralNewline a))
levels_apart p (Expr-F.Literal _ _) (Expr-F.Literal a b) h = absurd (h a b (variant.rolls-Literal a b))
levels_apart p (Expr-F.LiteralBytes _) (Expr-F.LiteralBytes a) h = absurd (h a (variant.rolls-LiteralBytes a))
levels_apart p (Expr-F.Concat _) (Expr-F.Concat a) h = absurd (h a (variant.rolls-Concat a))
levels_apart p (Expr-F.Alt _) (Expr-F.Alt a) h = absurd (h a (variant.rolls-Alt a))
levels_apart p (Expr-F.Group _) (Expr-F.Group a) h = absurd (h a (variant.rolls-Group a))
levels_apart p (Expr-F.LookAround _ _) (Expr-F.LookAround a b) h = absurd (h a b (variant.rolls-LookAround a b))
levels_apart p (Expr-F.Repeat _ _ _ _) (Expr-F.Repeat a b c d) h = absurd (h a b c d (variant.rolls-Repeat a b c d))
levels_apart p (Expr-F.Delegate _ _) (Expr-F.Delegate a b) h = absurd (h a b (variant.rolls-Delegate a b))
levels_apart p (Expr-F.Expr::Backref _ _) (Expr-F.Expr::Backref a b) h = absurd (h a b (variant.rolls-Backref a b))
levels_apart p (Expr-F.BackrefWithRelativeRecursionLevel _ _ _) (Expr-F.BackrefWithRelativeRecursionLevel a b c) h =
    absurd (h a b c (variant.rolls-BackrefWithRelativeRecursionLevel a b c))
levels_apart p (Expr-F.AtomicGroup _) (Expr-F.AtomicGroup a) h = absurd (h a (variant.rolls-AtomicGroup a))
levels_apart p Expr-F.KeepOut Expr-F.KeepOut h = absurd (h variant.rolls-KeepOut)
levels_apart p Expr-F.ContinueFromPreviousMatchEnd Expr-F.ContinueFromPreviousMatchEnd h =
    absurd (h variant.rolls-ContinueFromPreviousMatchEnd)
levels_apart p (Expr-F.Expr::BackrefExistsCondition _ _) (Expr-F.Expr::BackrefExistsCondition a b) h =
    absurd (h a b (variant.rolls-BackrefExistsCondition a b))
levels_apart p (Expr-F.Conditional _ _ _) (Expr-F.Conditional a b c) h =
    absurd (h a b c (variant.rolls-Conditional a b c))
levels_apart p (Expr-F.Expr::SubroutineCall _) (Expr-F.Expr::SubroutineCall a) h =
    absurd (h a (variant.rolls-SubroutineCall a))
levels_apart p (Expr-F.BacktrackingControlVerb _) (Expr-F.BacktrackingControlVerb a) h =
    absurd (h a (variant.rolls-BacktrackingControlVerb a))
levels_apart p (Expr-F.Absent _) (Expr-F.Absent a) h = absurd (h a (variant.rolls-Absent a))
levels_apart p (Expr-F.DefineGroup _) (Expr-F.DefineGroup a) h = absurd (h a (variant.rolls-DefineGroup a))
levels_apart p (Expr-F.AstNode _ _) (Expr-F.AstNode a b) h = absurd (h a b (variant.rolls-AstNode a b))
levels_apart p (Expr-F.Absent a) (Expr-F.AstNode n q) h =
    differ is_absent _ _ true false (absent_is p a) (node_is p n q).1 (λ e. cc)
levels_apart p (Expr-F.AstNode n q) (Expr-F.Absent a) h =
    differ is_absent _ _ false true (node_is p n q).1 (absent_is p a) (λ e. cc)
levels_apart p (Expr-F.Absent a) v h = differ is_absent _ (positioned p (seen v)) true false (absent_is p a) refl (λ e. cc)
levels_apart p u (Expr-F.Absent a) h = differ is_absent (positioned p (seen u)) _ false true refl (absent_is p a) (λ e. cc)
levels_apart p (Expr-F.AstNode n q) v h =
    differ is_read _ (positioned p (seen v)) true false (node_is p n q).0 refl (λ e. cc)
levels_apart p u (Expr-F.AstNode n q) h =
    differ is_read (positioned p (seen u)) _ false true refl (node_is p n q).0 (λ e. cc)
levels_apart p _ _ h = refl

seen_out : (x : Expr) → view x ≡ seen (out-Expr x)
seen_out x = fold_out-Expr Tree (ℕ → Tree) Tree absent_step ast_step expr_step x

pub apart : (p : Bool) (x y : Expr) (u : Expr-F Absent AstNode Expr) → out-Expr x ≡ u → Other u y →
    false ≡ same (positioned p (view x)) (positioned p (view y))
apart p x y u is other =
    levels_apart p u (out-Expr y) (subst (Other u) (sym (roll-out-Expr y)) other)
    ∙ ap (λ t. same (positioned p t) (positioned p (seen (out-Expr y)))) (sym (seen_out x ∙ ap seen is))
    ∙ ap (λ t. same (positioned p (view x)) (positioned p t)) (sym (seen_out y))
