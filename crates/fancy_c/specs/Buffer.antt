-- A buffer of the caller.
use Rattle.std.specs.Prelude.{◌≡◌, ℕ, ◌+◌, ◌≤◌, List, ◌++◌, length, take, drop}

-- the buffer has capacity for the items, they are at its front, and the rest of the buffer is as it was
pub record Fills {A : Type 0} (old new items : List A) : Type 0 where
  pub fits : length items ≤ length old
  pub is : new ≡ items ++ drop (length items) old

-- the items are in the buffer from i on, and elsewhere it is as it was
abbrev pub put_at : {A : Type 0} → List A → ℕ → List A → List A
put_at buffer i items = take i buffer ++ items ++ drop (i + length items) buffer
