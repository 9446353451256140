-- What a line can hold.
use Rattle.std.specs.Prelude.{◌==◌, ◌&&◌, ◌||◌, not, ℕ, Bool, List, [], ◌∷◌}
use Rattle.std.specs.List.{list_any, ends_with}
use Prim.Native.Char.{code}

-- whether a byte is in the text, and not in the pattern
abbrev pub is_new : ℕ → List ℕ → List ℕ → Bool
is_new byte w pattern = list_any (λ b. b == byte) w && not (list_any (λ b. b == byte) pattern)

-- whether the text, in a line of its own, would be read as another: it holds an LF, a CR or a NUL that the pattern does
-- not hold, or ends with a CR, which would belong to the end of the line
abbrev pub breaks_line : List ℕ → List ℕ → Bool
breaks_line w pattern = (is_new (code "\n") w pattern || is_new (code "\r") w pattern || is_new 0 w pattern)
    || ends_with (λ a b. a == b) w (code "\r" ∷ [])
