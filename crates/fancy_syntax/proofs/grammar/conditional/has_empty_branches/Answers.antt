use Rattle.std.proofs.Common.{◌≡◌, ◌≤◌, ◌∷◌, [], List, ◌&&◌, false, length, ap, sym, ◌∙◌, arith}
use Rattle.std.proofs.Math.Bool.{and-false}
use Rattle.fancy_grammar.specs.Grammar.{branches_of}
use Rattle.fancy_grammar.specs.Join.{is_empty}
use Rattle.fancy_grammar.specs.Tree.{alt, trees_of}
use Rattle.fancy_syntax.specs.View.{view, views}
use Rattle.fancy_syntax.specs.declared.expr.Expr.{Expr}
use Rattle.fancy_syntax.proofs.TreeLemmas.{view_Alt}
use Rattle.fancy_syntax.proofs.grammar.conditional.has_empty_branches.Goals as goal

-- of three branches or more, the second branch of the conditional is an Alt
several_solid : (l : List Expr) → 3 ≤ length l →
    (is_empty (branches_of (alt (trees_of (views l)))).0 && is_empty (branches_of (alt (trees_of (views l)))).1) ≡ false
several_solid [] h = absurd (omega (arith, h))
several_solid (a ∷ []) h = absurd (omega (arith, h))
several_solid (a ∷ b ∷ []) h = absurd (omega (arith, h))
several_solid (a ∷ b ∷ d ∷ l) h = and-false (is_empty (view a))

pub returns-in_default-as_slice-2 : goal.returns-in_default-as_slice-2
returns-in_default-as_slice-2 c =
    let es = c.in-Alt.branches.items in
    let many : 3 ≤ length es = omega (arith, ap length c.as_slice.ensures.value, c.in_default-as_slice.len_at_least) in
    sym (ap (λ t. is_empty (branches_of t).0 && is_empty (branches_of t).1)
    (ap view c.in-Alt.is ∙ view_Alt c.in-Alt.branches) ∙ several_solid es many)
