-- What a text begins with: an id, or a number.
use Rattle.std.specs.Prelude.{◌≡◌, ℕ, ◌+◌, ◌^◌, ◌≤◌, Some, None}
use Rattle.fancy_lex.specs.Id.{id}
use Rattle.fancy_lex.specs.Number.{number}
use Rattle.fancy_lex.specs.Reading.{choose}
use Rattle.fancy_lex.specs.Text.{Text, bytes}

-- the size in bytes of the id that the text begins with; 0 if it begins with none
abbrev pub id_size : Text → ℕ
id_size t = choose (id t) (λ p. bytes p.0) 0

-- The size in bytes of the number that the text begins with, which is the new value. If the text begins with none, or
-- with one that does not fit in a word, the size is 0, and the value is the old one.
pub data IsDecimalOf (t : Text) (size old new : ℕ) : Type 0 where
  written : {rest : Text} → number t ≡ Some (new, rest) → size + bytes rest ≡ bytes t → IsDecimalOf t size old new
  too_large : {n : ℕ} {rest : Text} → number t ≡ Some (n, rest) → 2 ^ 64 ≤ n → size ≡ 0 → new ≡ old →
      IsDecimalOf t size old new
  no_number : number t ≡ None → size ≡ 0 → new ≡ old → IsDecimalOf t size old new
