-- Id references: an id, an amount, or both.
use Rattle.std.specs.Prelude.{ℕ, ◌^◌, ℤ, pos, neg_ℤ, Bool, ◌==◌, nat_lt, if◌then◌else◌, [], ◌∷◌, Option, Some, None}
use Rattle.std.specs.Prelude.{option_map}
use Rattle.std.specs.Option.{option_and_then}
use Rattle.std.specs.Ordering.{int_eq}
use Prim.Native.Char.{code}
use Rattle.fancy_lex.specs.Characters.{◌∈◌}
use Rattle.fancy_lex.specs.Id.{id}
use Rattle.fancy_lex.specs.NumberText.{whole_number}
use Rattle.fancy_lex.specs.Reading.{choose}
use Rattle.fancy_lex.specs.Text.{Text}

-- what an id reference consists of: an id, an amount, or both
pub data IdReference : Type 0 where
  id_alone : Text → IdReference
  id_and_amount : Text → ℤ → IdReference
  amount_alone : ℤ → IdReference

-- the number, negated if the sign is a minus
abbrev pub with_sign : ℕ → ℕ → ℤ
with_sign sign n = if sign == code "-" then neg_ℤ (pos n) else pos n

-- amounts are less than this, with either sign
abbrev pub amount_bound : ℕ
amount_bound = 2 ^ 63

-- the number with its sign, if it is in the bounds of an amount
abbrev pub small_amount : ℕ → ℕ → Option ℤ
small_amount sign n = if nat_lt n amount_bound then Some (with_sign sign n) else None

-- the value of an amount, which is a sign and such a number and nothing else
unfoldable pub amount : Text → Option ℤ
amount [] = None
amount (c ∷ t) = if c ∈ "+-" then option_and_then (small_amount c) (whole_number t) else None

-- the id reference of the id `i` with this text after it: no text, or an amount if the flag allows one
abbrev pub with_id : Bool → Text → Text → Option IdReference
with_id relative i [] = Some (id_alone i)
with_id relative i (c ∷ t) = if relative then option_map (id_and_amount i) (amount (c ∷ t)) else None

-- the id reference of an amount without an id, which cannot be 0
abbrev pub without_id : ℤ → Option IdReference
without_id z = if int_eq z (pos 0) then None else Some (amount_alone z)

-- an id reference is an id; if the flag allows amounts, it can also be an id and an amount, or an amount other than 0
-- without an id
unfoldable pub id_reference : Bool → Text → Option IdReference
id_reference relative t =
    choose (id t) (λ q. with_id relative q.0 q.1)
    (if relative then option_and_then without_id (amount t) else None)
