-- The numbers of groups in the rows of a tree.
use Rattle.std.specs.Prelude.{◌==◌, ℕ, ◌+◌, List, [], ◌∷◌, if◌then◌else◌}
use Rattle.fancy_c.specs.declared.node.Node.{Node}
use Rattle.fancy_c.specs.declared.node.TheConstants.{NODE_GROUP}

-- the row, with its number if it is a group, which follows g others
abbrev pub numbered_row : ℕ → Node → Node
numbered_row g r = if r.kind == NODE_GROUP then record r { group = g + 1 } else r

-- how many groups there are up to this row, if there are g before it
abbrev pub groups_through : ℕ → Node → ℕ
groups_through g r = if r.kind == NODE_GROUP then g + 1 else g

-- the rows, which follow g groups: the k-th group among them has the number g + k
abbrev pub numbered : ℕ → List Node → List Node
numbered g [] = []
numbered g (r ∷ rs) = numbered_row g r ∷ numbered (groups_through g r) rs
