-- Which flags are set in a word.
use Rattle.std.specs.Prelude.{ℕ, Bool, not, ◌==◌, bit_and}

-- whether the flag's bit is set
abbrev pub has_bit : ℕ → ℕ → Bool
has_bit bits flag = not (bit_and bits flag == 0)
