-- How deep groups nest, and how many levels a parsed tree has.
use Rattle.std.specs.Prelude.{ℕ, ◌-◌, ◌*◌}

-- groups nest less deep than this
abbrev pub max_depth : ℕ
max_depth = 64

-- how many groups can be open: if this many are, opening another is an error
abbrev pub most_open : ℕ
most_open = max_depth - 1

-- the most levels that a parsed tree has at one depth: an Alt, a Concat, five quantifiers of two nodes each, and a
-- group or leaf
abbrev pub levels_at_depth : ℕ
levels_at_depth = 13

-- the most levels that a parsed tree has
abbrev pub max_levels : ℕ
max_levels = max_depth * levels_at_depth
