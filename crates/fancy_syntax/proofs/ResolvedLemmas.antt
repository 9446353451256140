-- Whether each node of a tree is resolved: the node itself, and those of its children.
use Rattle.std.proofs.Common.{◌≡◌, ℕ, Bool, true, ◌&&◌, List, ◌∷◌, append-nil, sym, ap, ◌∙◌}
use Rattle.std.specs.List.{list_all}
use Rattle.std.proofs.lemmas.Bool.{false≢true}
use Rattle.std.proofs.lemmas.List.Folds.{list_all-append}
use Rattle.fancy_grammar.proofs.TreeLaws.{trees_back}
use Rattle.fancy_grammar.specs.Label as label
use Rattle.fancy_grammar.specs.Preorder.{preorder, preorder_all}
use Rattle.fancy_grammar.specs.References.{is_resolved, are_resolved}
use Rattle.fancy_grammar.specs.Tree.{Tree, leaf, over, row, children, trees_of}

-- whether each node of the trees is resolved
abbrev pub all_resolved : ℕ → List Tree → Bool
all_resolved groups ts = list_all (is_resolved groups) (preorder_all (trees_of ts))

-- the result for a node that is resolved is that for its children
pub resolved_below : (groups : ℕ) (t : Tree) → is_resolved groups t ≡ true →
    are_resolved groups t ≡ all_resolved groups (children t)
resolved_below groups (leaf l) here = ap (λ b. b && true) here
resolved_below groups (over (label.ast_group name position) t) here = absurd (false≢true here)
resolved_below groups (over w t) here = ap (list_all (is_resolved groups)) (sym (append-nil (preorder t)))
resolved_below groups (row r ts) here =
    ap (λ us. list_all (is_resolved groups) (preorder_all us)) (sym (trees_back ts))

-- after a tree that is resolved, the result is that for the others
pub resolved_next : (groups : ℕ) (all : Bool) (t : Tree) (before left : List Tree) → before ≡ t ∷ left →
    are_resolved groups t ≡ true → all ≡ all_resolved groups before → all ≡ all_resolved groups left
resolved_next groups all t before left is here so_far =
    so_far ∙ ap (all_resolved groups) is
    ∙ list_all-append (is_resolved groups) (preorder t) (preorder_all (trees_of left))
    ∙ ap (λ b. b && all_resolved groups left) here
