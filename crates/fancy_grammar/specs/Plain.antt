-- Characters and escapes that are pieces of their own.
use Rattle.std.specs.Prelude.{ℕ, Bool}
use Rattle.fancy_lex.specs.Characters.{◌∈◌}

-- these begin a group, an escape, a class, a quantifier or another leaf, or end a branch
abbrev pub is_special : ℕ → Bool
is_special c = c ∈ "()|.^$\\[*+?"

-- these begin a quantifier, or a comment before one
abbrev pub is_suffix : ℕ → Bool
is_suffix c = c ∈ "(*+?{"
