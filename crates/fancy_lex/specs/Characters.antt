-- Whether a character is one of several. Clauses in code import `code`, which names a character, from here.
use Rattle.std.specs.Prelude.{ℕ, Bool, false, ◌||◌, ◌==◌, List, [], ◌∷◌, codes}
pub use Prim.Native.Char.{code}
use Prim.Native.String.{String}

-- whether the character is in the list
abbrev pub is_among : ℕ → List ℕ → Bool
is_among c [] = false
is_among c (d ∷ []) = c == d
is_among c (d ∷ e ∷ rest) = c == d || is_among c (e ∷ rest)

-- the characters that have a meaning of their own wherever they are outside a class
abbrev pub metacharacters : List ℕ
metacharacters = codes "\\.+*?()|[{^$"

-- whether the character occurs in the text
infix 60 ◌∈◌
abbrev pub ◌∈◌ : ℕ → String → Bool
c ∈ s = is_among c (codes s)
