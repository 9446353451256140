-- Texts whose length is computed first and that are then written into a string with enough capacity.
use Rattle.std.specs.Prelude.{◌≡◌, ℕ, ◌+◌, ◌-◌, ◌^◌, ◌≤◌, ◌++◌, min, String}
use Rattle.std.specs.String.{string_len, string_capacity}
use Rattle.std.specs.declared.alloc.Global.{Global}
use Rattle.fancy_lex.specs.Text.{Text, text_of, bytes}

-- a count in a word: above the greatest word it is the greatest word
abbrev pub in_word : ℕ → ℕ
in_word n = min n (2 ^ 64 - 1)

-- the string has the capacity for the text
abbrev pub HasCapacity : String Global → Text → Type 0
HasCapacity s text = string_len s + bytes text ≤ string_capacity s

-- the text is appended to the string, and the capacity is not less than before
pub record Appended (old new : String Global) (text : Text) : Type 0 where
  pub is : text_of new ≡ text_of old ++ text
  pub len : string_len new ≡ string_len old + bytes text
  pub capacity : string_capacity old ≤ string_capacity new
