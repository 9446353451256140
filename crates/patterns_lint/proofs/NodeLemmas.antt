-- Nodes that are as they were read, and absent forms, by their cases.
use Rattle.std.proofs.Common.{◌≡◌, ℕ, Bool, true, false, Box, Global, List, Option, rules, ◌∙◌, refl, ap, sym}
use Rattle.fancy_grammar.specs.Label.{AstReference}
use Rattle.fancy_grammar.specs.Tree.{Tree, ast_node, ast_group, look_around}
use Rattle.fancy_grammar.specs.declared.kinds.LookAround.{LookAround}
use Rattle.fancy_syntax.specs.View.{view, view_absent, view_ast, absent_step, ast_step, expr_step}
use Rattle.fancy_syntax.specs.declared.expr.Absent.{Absent, out-Absent, map-Absent, fold_out-Absent}
use Rattle.fancy_syntax.specs.declared.expr.Absent.TheOpen.{Absent-F, AstNode-F, Expr-F}
use Rattle.fancy_syntax.specs.declared.expr.AstNode.{out-AstNode, map-AstNode, fold_out-AstNode}
use Rattle.fancy_syntax.specs.declared.expr.AstNode as ast
use Rattle.fancy_syntax.specs.declared.expr.Expr.{Expr, AstNode, SubroutineCall, roll-Expr, out-Expr, roll-out-Expr}
use Rattle.fancy_syntax.specs.declared.expr.Expr.{map-Expr}
use Rattle.fancy_syntax.specs.declared.expr.Expr as node
use Rattle.fancy_syntax.specs.declared.expr.Expr.{fold_out-Expr, the_lemmas}
use Rattle.fancy_syntax.specs.declared.expr.Expr.TheVariants as variant
use Rattle.patterns_lint.specs.Empty.{matches_only_empty, can_match_empty, matches_everywhere, has_group}
use Rattle.patterns_lint.specs.Targets.{is_unresolved_call}

-- what holds of each node that is as it was read
ast_cases : (f : Tree → Bool) (b : Bool) → ((r : AstReference) (p : ℕ) → f (ast_node r p) ≡ b) →
    ((name : Option (List ℕ)) (p : ℕ) (t : Tree) → f (ast_group name p t) ≡ b) →
    (v : AstNode-F Absent ast.AstNode Expr) (position : ℕ) →
    f (ast_step (map-AstNode Absent ast.AstNode Expr Tree (ℕ → Tree) Tree view_absent view_ast view v) position) ≡ b
ast_cases f b h k (AstNode-F.AstGroup name inner) position = k _ position _
ast_cases f b h k (AstNode-F.AstNode::Backref casei t level) position = h _ position
ast_cases f b h k (AstNode-F.AstNode::SubroutineCall t) position = h _ position
ast_cases f b h k (AstNode-F.AstNode::BackrefExistsCondition t level) position = h _ position

of_ast : (f : Tree → Bool) (b : Bool) → ((r : AstReference) (p : ℕ) → f (ast_node r p) ≡ b) →
    ((name : Option (List ℕ)) (p : ℕ) (t : Tree) → f (ast_group name p t) ≡ b) →
    (n : ast.AstNode) (position : ℕ) → f (view_ast n position) ≡ b
of_ast f b h k n position =
    ap (λ g. f (g position)) (fold_out-AstNode Tree (ℕ → Tree) Tree absent_step ast_step expr_step n)
    ∙ ast_cases f b h k (out-AstNode n) position

pub view_AstNode : (n : ast.AstNode) (position : ℕ) → view (AstNode n position) ≡ view_ast n position
view_AstNode n position = search (rules, the_lemmas)

pub view_look_around : (b : Box Expr Global) (l : LookAround) → view (node.LookAround b l) ≡ look_around (view b.value) l
view_look_around b l = search (rules, the_lemmas)

pub ast_only_empty : (n : ast.AstNode) (p : ℕ) → matches_only_empty (view_ast n p) ≡ false
ast_only_empty n p = of_ast matches_only_empty false (λ r q. refl) (λ name q t. refl) n p

pub ast_can_be_empty : (n : ast.AstNode) (p : ℕ) → can_match_empty (view_ast n p) ≡ false
ast_can_be_empty n p = of_ast can_match_empty false (λ r q. refl) (λ name q t. refl) n p

pub ast_everywhere : (n : ast.AstNode) (p : ℕ) → matches_everywhere (view_ast n p) ≡ false
ast_everywhere n p = of_ast matches_everywhere false (λ r q. refl) (λ name q t. refl) n p

pub ast_has_group : (n : ast.AstNode) (p : ℕ) → has_group (view_ast n p) ≡ false
ast_has_group n p = of_ast has_group false (λ r q. refl) (λ name q t. refl) n p

pub ast_is_unresolved : (total : ℕ) (n : ast.AstNode) (p : ℕ) → is_unresolved_call total (view_ast n p) ≡ true
ast_is_unresolved total n p = of_ast (is_unresolved_call total) true (λ r q. refl) (λ name q t. refl) n p

-- an absent form is no call
absent_cases : (total : ℕ) (v : Absent-F Absent ast.AstNode Expr) → is_unresolved_call total
    (absent_step (map-Absent Absent ast.AstNode Expr Tree (ℕ → Tree) Tree view_absent view_ast view v)) ≡ false
absent_cases total (Absent-F.Expression x y) = refl
absent_cases total (Absent-F.Repeater x) = refl
absent_cases total (Absent-F.Stopper x) = refl
absent_cases total Absent-F.Clear = refl

pub absent_calls : (total : ℕ) (a : Absent) → is_unresolved_call total (view_absent a) ≡ false
absent_calls total a =
    ap (is_unresolved_call total) (fold_out-Absent Tree (ℕ → Tree) Tree absent_step ast_step expr_step a)
    ∙ absent_cases total (out-Absent a)

pub ruleset node_steps = (
  view_AstNode,
  ast_only_empty,
  ast_can_be_empty,
  ast_everywhere,
  ast_has_group,
  ast_is_unresolved,
  absent_calls,
)
