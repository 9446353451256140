-- References: what a name or an id reference refers to, and the position of the reference.
use Rattle.std.specs.Prelude.{ℕ, ℤ, Bool, Option, Some, None, option_map}
use Rattle.fancy_lex.specs.Delimited.{of_name}
use Rattle.fancy_lex.specs.ErrorTable.{reference_not_read}
use Rattle.fancy_lex.specs.IdReference.{IdReference, id_alone, id_and_amount, amount_alone, id_reference}
use Rattle.fancy_lex.specs.NumberText.{number_text}
use Rattle.fancy_lex.specs.Reading.{Reading, choose, read_or}
use Rattle.fancy_lex.specs.Target.{Target, by_number, by_name, relative}
use Rattle.fancy_lex.specs.Text.{Text}

-- a back reference or condition: the group, the level of recursion if one is written, and the reach
pub record Reference : Type 0 where
  pub target : Target
  pub level : Option ℤ
  pub reach : ℕ

-- a subroutine call: the group, and the reach
pub record Call : Type 0 where
  pub target : Target
  pub reach : ℕ

-- the reference at the reach p to this group at this level
abbrev pub reference_to : ℕ → Target → Option ℤ → Reference
reference_to p g l = record { target = g; level = l; reach = p }

-- the call of this group at the reach p
abbrev pub call_to : ℕ → Target → Call
call_to p g = record { target = g; reach = p }

-- a number text refers to a group by number; any other name refers to it by name
unfoldable pub target_of_name : Text → Target
target_of_name w = choose (number_text w) by_number (by_name w)

-- the reference at the reach p by an id reference; an amount without an id is relative, and one after an id is a level
unfoldable pub reference_of : ℕ → IdReference → Reference
reference_of p (id_alone w) = reference_to p (target_of_name w) None
reference_of p (id_and_amount w z) = reference_to p (target_of_name w) (Some z)
reference_of p (amount_alone z) = reference_to p (relative z) None

-- the reference at the reach p that the whole text writes; the flag allows amounts
unfoldable pub written_reference : ℕ → Bool → Text → Option Reference
written_reference p amounts w = option_map (reference_of p) (id_reference amounts w)

-- the value and the rest of the text, or the error of the reference at the reach p
abbrev pub name_reading : {A : Type 0} → ℕ → Option (A × Text) → Reading A
name_reading p o = read_or (reference_not_read p) o

-- the reference at the reach p, written by the name that was found there
unfoldable pub reference_by_name : ℕ → Bool → Option (Text × Text) → Reading Reference
reference_by_name p amounts o = name_reading p (of_name (written_reference p amounts) o)
