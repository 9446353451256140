-- Items in text order.
use Rattle.std.specs.Prelude.{ℕ, ◌<◌, ◌≤◌, List, [], ◌∷◌}
use Rattle.fancy_grammar.specs.Items.{Item, opening, reference}

abbrev pub reach_of_item : Item → ℕ
reach_of_item (opening o) = o.reach
reach_of_item (reference r reach) = reach

-- the items are in text order, no two at one position: all are below the reach high, and none is below the reach low
abbrev pub DescendingReaches : ℕ → ℕ → List Item → Type 0
DescendingReaches high low [] = low ≤ high
DescendingReaches high low (i ∷ l) = (reach_of_item i < high) × DescendingReaches (reach_of_item i) low l
