-- Nodes of a tree with their spans, and the children of one that are left.
use Rattle.std.proofs.Common.{◌≡◌, List, ◌∷◌, suc, refl, sym, subst, arith}
use Rattle.std.specs.List.{IsAmong}
use Rattle.fancy_syntax.specs.Spanned.{Spanned, IsNodeOf, root, below, spanned_children}

-- a node below a node of a tree is one of the tree
pub node_below : (p q t : Spanned) → IsNodeOf p q → IsNodeOf q t → IsNodeOf p t
node_below p q t k root = k
node_below p q t k (below among l) = below among (node_below p q _ k l)

-- a child of a node is a node below it
pub child_of : (p q t : Spanned) → IsAmong (spanned_children q) p → IsNodeOf q t → IsNodeOf p t
child_of p q t among k = node_below p q t (below among root) k

-- ---- children that are left

-- those that are left are children of p
pub record Remain (p : Spanned) (left : List Spanned) : Type 0 where
  pub inside : (c : Spanned) → IsAmong left c → IsAmong (spanned_children p) c

pub remain_start : (p : Spanned) (left : List Spanned) → left ≡ spanned_children p → Remain p left
remain_start p left h = record { inside = λ c a. subst (λ es. IsAmong es c) h a }

among_first : (c : Spanned) (cs : List Spanned) → IsAmong (c ∷ cs) c
among_first c cs = (0, (omega arith, refl))

among_tail : (c d : Spanned) (cs : List Spanned) → IsAmong cs d → IsAmong (c ∷ cs) d
among_tail c d cs (i, (h, is)) = (suc i, (omega arith, is))

pub remain_first : (p c : Spanned) (left more : List Spanned) → Remain p left → left ≡ c ∷ more → IsAmong (spanned_children p) c
remain_first p c left more s h = s.inside c (subst (λ es. IsAmong es c) (sym h) (among_first c more))

pub remain_next : (p c : Spanned) (left more : List Spanned) → Remain p left → left ≡ c ∷ more → Remain p more
remain_next p c left more s h = record {
  inside = λ d a. s.inside d (subst (λ es. IsAmong es d) (sym h) (among_tail c d more a));
}
