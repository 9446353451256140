-- A child of a node, by its index.
use Rattle.std.specs.Prelude.{◌≡◌, ℕ, Some, slice_get}
use Rattle.fancy_syntax.specs.Spanned.{Spanned, spanned_children}

-- c is the child of p that has this index, counted from 0
abbrev pub IsChildAt : Spanned → ℕ → Spanned → Type 0
IsChildAt p i c = slice_get (spanned_children p) i ≡ Some c
