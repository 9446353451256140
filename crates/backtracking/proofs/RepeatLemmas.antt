-- Nodes that are slow repeats, and lists of them.
use Rattle.std.proofs.Common.{◌≡◌, ℕ, Bool, List, [], ◌∷◌, ◌++◌, Box, Global, rules, sym, ap, ◌∙◌}
use Rattle.std.specs.List.{AllByRecursion}
use Rattle.fancy_grammar.specs.Tree.{repeat}
use Rattle.fancy_syntax.specs.Spanned.{Spanned, IsNodeOf}
use Rattle.fancy_syntax.specs.View.{view}
use Rattle.fancy_syntax.specs.declared.expr.Expr.{Expr, Repeat, the_lemmas}
use Rattle.backtracking.specs.SlowRepeats.{IsSlowAt, IsSlowIn}
use Rattle.backtracking.specs.declared.repeats.SlowRepeat.{SlowRepeat}

view_Repeat : (b : Box Expr Global) (lo hi : ℕ) (greedy : Bool) → view (Repeat b lo hi greedy) ≡ repeat (view b.value) lo hi greedy
view_Repeat b lo hi greedy = search (rules, the_lemmas)

-- what a repeat repeats
pub repeats : (e x : Expr) (b : Box Expr Global) (lo hi : ℕ) (greedy : Bool) → e ≡ Repeat b lo hi greedy → x ≡ b.value →
    view e ≡ repeat (view x) lo hi greedy
repeats e x b lo hi greedy h is = ap view h ∙ view_Repeat b lo hi greedy ∙ ap (λ y. repeat (view y) lo hi greedy) (sym is)

-- one more that is slow
pub one_more : (unicode : Bool) (t p : Spanned) (rs : List SlowRepeat) (r : SlowRepeat) → IsSlowAt unicode p r → IsNodeOf p t →
    AllByRecursion (IsSlowIn unicode t) rs → AllByRecursion (IsSlowIn unicode t) (rs ++ (r ∷ []))
one_more unicode t p [] r slow k all = (record { node = p; inside = k; slow = slow }, tt)
one_more unicode t p (x ∷ xs) r slow k all = (all.0, one_more unicode t p xs r slow k all.1)
