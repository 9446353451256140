-- What is around a child, where two nodes have the same.
use Rattle.std.proofs.Common.{◌≡◌, Bool, true, false, ◌&&◌, nat_eq, refl, ap, sym, ◌∙◌}
use mathlib.Core.Bool.{beq}
use Rattle.fancy_grammar.proofs.SameLaws.{same-Decides}
use Rattle.fancy_grammar.specs.Label as label
use Rattle.fancy_grammar.specs.Same.{same_wrap}
use Rattle.fancy_grammar.specs.Tree.{over, empty}
use Rattle.fancy_syntax.specs.Shape.{label_of}
use Rattle.fancy_syntax.specs.contracts.expr.shape.WrapPartialEq.TheImpl as wrap_eq
use Rattle.fancy_syntax.specs.declared.expr.shape.Wrap.{Wrap}
use Rattle.fancy_syntax.specs.declared.expr.shape.Wrap.TheVariants as wrap

and_assoc : (a b c : Bool) → (a && (b && c)) ≡ ((a && b) && c)
and_assoc true b c = refl
and_assoc false b c = refl

-- the row before the last makes the check split the second argument, so that the last row is tried for each pair
eq_is_same : (a b : Wrap) → wrap_eq.ghosts.eq a b ≡ same_wrap (label_of a) (label_of b)
eq_is_same (wrap.LookAround l) (wrap.LookAround m) = refl
eq_is_same (wrap.Repeat lo hi greedy) (wrap.Repeat low high is_greedy) =
    and_assoc (nat_eq lo low) (nat_eq hi high) (beq greedy is_greedy)
eq_is_same a (wrap.LookAround m) = refl
eq_is_same a b = refl

equal_label : (w v : label.Wrap) → same_wrap w v ≡ true → w ≡ v
equal_label w v e =
    let same : over w empty ≡ over v empty = (same-Decides (over w empty) (over v empty)).0 (ap (λ b. b && true) e) in cc

pub same_label : (a b : Wrap) → wrap_eq.ghosts.eq a b ≡ true → label_of a ≡ label_of b
same_label a b e = equal_label (label_of a) (label_of b) (sym (eq_is_same a b) ∙ e)
