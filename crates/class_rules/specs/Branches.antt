-- Branches of one character, as they are compared.
use Rattle.std.specs.Prelude.{◌≡◌, ◌<◌, ◌^◌, Bool, List, length, All}
use Rattle.fancy_syntax.specs.Spanned.{Spanned, spanned_of, spanned_children}
use Rattle.fancy_syntax.specs.View.{view}
use Rattle.class_rules.specs.Nodes.{IsChildAt}
use Rattle.class_rules.specs.Subsumed.{IsSubsumed}
use Rattle.class_rules.specs.declared.subsumed.OneCharacterBranch.{OneCharacterBranch}

-- the branch is the child of the node that has its index
abbrev pub IsBranchOf : Spanned → OneCharacterBranch → Type 0
IsBranchOf node branch = IsChildAt node branch.index (spanned_of branch.node)

-- each of the branches is a child of the node, whose children can be counted
abbrev pub AreBranchesOf : Spanned → List OneCharacterBranch → Type 0
AreBranchesOf node branches = (length (spanned_children node) < 2 ^ 64) × All (IsBranchOf node) branches

-- the branches differ, and each character that the one matches is one that the other matches
abbrev pub IsWithin : Bool → OneCharacterBranch → OneCharacterBranch → Type 0
IsWithin unicode one other =
    (view (spanned_of one.node).expr ≡ view (spanned_of other.node).expr → ⊥)
    × IsSubsumed unicode (view (spanned_of one.node).expr) (view (spanned_of other.node).expr)
