-- The children of a node that are left, by their index.
use Rattle.std.proofs.Common.{◌≡◌, ℕ, zero, suc, ◌<◌, List, [], ◌∷◌, Some, length, drop, refl, sym, ap}
use Rattle.std.proofs.Common.{◌∙◌, arith}
use Rattle.std.specs.List.{slice_get}
use Rattle.fancy_syntax.specs.Children.{children_of}
use Rattle.fancy_syntax.specs.Spanned.{Spanned, spanned_children, side_by_side, first_size}
use Rattle.fancy_syntax.specs.declared.expr.Expr.{Expr}
use Rattle.fancy_syntax.specs.declared.span.Span.{Span}
use Rattle.class_rules.specs.Nodes.{IsChildAt}

-- the first of those from i on has the index i, and the others are those from i + 1 on
get_of_drop : (ps more : List Spanned) (i : ℕ) (c : Spanned) → drop i ps ≡ c ∷ more → slice_get ps i ≡ Some c
get_of_drop [] more zero c h = cc
get_of_drop [] more (suc i) c h = cc
get_of_drop (p ∷ ps) more zero c h = cc
get_of_drop (p ∷ ps) more (suc i) c h = get_of_drop ps more i c h

drop_of_drop : (ps more : List Spanned) (i : ℕ) (c : Spanned) → drop i ps ≡ c ∷ more → drop (suc i) ps ≡ more
drop_of_drop [] more zero c h = cc
drop_of_drop [] more (suc i) c h = cc
drop_of_drop (p ∷ ps) more zero c h = cc
drop_of_drop (p ∷ ps) more (suc i) c h = drop_of_drop ps more i c h

drop_short : (ps more : List Spanned) (i : ℕ) (c : Spanned) → drop i ps ≡ c ∷ more → i < length ps
drop_short [] more zero c h = absurd (cc)
drop_short [] more (suc i) c h = absurd (cc)
drop_short (p ∷ ps) more zero c h = omega arith
drop_short (p ∷ ps) more (suc i) c h = omega (arith, drop_short ps more i c h)

-- those that are left begin with the child that has this index
pub record LeftFrom (p : Spanned) (i : ℕ) (left : List Spanned) : Type 0 where
  pub rest : left ≡ drop i (spanned_children p)

pub left_child : (p c : Spanned) (i : ℕ) (left more : List Spanned) → LeftFrom p i left → left ≡ c ∷ more → IsChildAt p i c
left_child p c i left more l h = get_of_drop (spanned_children p) more i c (sym l.rest ∙ h)

pub left_inside : (p c : Spanned) (i : ℕ) (left more : List Spanned) → LeftFrom p i left → left ≡ c ∷ more →
    i < length (spanned_children p)
left_inside p c i left more l h = drop_short (spanned_children p) more i c (sym l.rest ∙ h)

pub left_next : (p c : Spanned) (i j : ℕ) (left more : List Spanned) → LeftFrom p i left → left ≡ c ∷ more → j ≡ suc i →
    LeftFrom p j more
left_next p c i j left more l h is = record {
  rest = sym (drop_of_drop (spanned_children p) more i c (sym l.rest ∙ h))
      ∙ ap (λ k. drop k (spanned_children p)) (sym is);
}

-- as many nodes as expressions are side by side
length_side_by_side : (es : List Expr) (s : List Span) (n : List ℕ) → length (side_by_side es s n) ≡ length es
length_side_by_side [] s n = refl
length_side_by_side (e ∷ es) s n = ap suc (length_side_by_side es (drop (first_size n) s) (drop (first_size n) n))

pub length_children : (p : Spanned) → length (spanned_children p) ≡ length (children_of p.expr)
length_children p = length_side_by_side (children_of p.expr) (drop 1 p.spans) (drop 1 p.sizes)
