-- What a reference refers to, given the groups that have a number.
use Rattle.std.specs.Prelude.{ℕ, ◌+◌, ◌-◌, ℤ, pos, negsuc, nat_le, Bool, false, List, [], ◌∷◌, length, slice_get}
use Rattle.std.specs.Prelude.{Option, Some, None}
use Rattle.std.specs.Prelude.{if◌then◌else◌}
use Rattle.fancy_lex.specs.Located.{Kind, Located, carries_text}
use Rattle.fancy_lex.specs.ErrorTable.{name_of_later_group, no_such_group, of_reference}
use Rattle.fancy_lex.specs.Target.{Target, by_number, by_name, relative}
use Rattle.fancy_lex.specs.Text.{Text}

-- what a reference does with its group
pub data Role : Type 0 where
  back_reference : Role  -- it matches what the group matched
  call : Role  -- it calls the group
  condition : Role  -- it tests whether the group has matched

-- what a reference refers to: the number of a group, no group yet, or an error
pub data Meaning : Type 0 where
  number : ℕ → Meaning
  unresolved : Meaning
  invalid : Kind → Meaning

-- whether it is an error whose kind carries a text, which has to be allocated
abbrev pub is_error_with_text : Meaning → Bool
is_error_with_text (invalid k) = carries_text k
is_error_with_text _ = false

-- if there is no such group, a call stays unresolved, and any other reference is an error
abbrev pub no_group : Role → Meaning
no_group call = unresolved
no_group _ = invalid no_such_group

-- the group if there is one, and otherwise the meaning of no group
abbrev pub group_or_none : Role → Option ℕ → Meaning
group_or_none role None = no_group role
group_or_none role (Some n) = number n

-- a back reference after the openings of c groups refers to one of these; it is an error before the opening of its
-- group
abbrev pub back_to : ℕ → Text → Option ℕ → Meaning
back_to c name None = invalid no_such_group
back_to c name (Some n) = if nat_le n c then number n else invalid (name_of_later_group name)

-- the last of the numbers
abbrev pub last_of : List ℕ → Option ℕ
last_of ns = slice_get ns (length ns - 1)

-- a call refers to the only group of the name; if there is no such group or more than one, it stays unresolved
abbrev pub only_one : List ℕ → Meaning
only_one (n ∷ []) = number n
only_one _ = unresolved

-- what a name refers to after the openings of c groups, if the groups of the name have these numbers: the last of them,
-- but for a call the only one
abbrev pub refers_to_name : Role → ℕ → Text → List ℕ → Meaning
refers_to_name back_reference c name ns = back_to c name (last_of ns)
refers_to_name call c name ns = only_one ns
refers_to_name condition c name ns = group_or_none condition (last_of ns)

-- +k is the k-th group that opens after the first c groups, and -k is the k-th last of those c; -(c + 1) is 0, and
-- there is no group below 0
abbrev pub at_distance : ℕ → ℤ → Option ℕ
at_distance c (pos k) = Some (c + k)
at_distance c (negsuc k) = if nat_le k c then Some (c - k) else None

-- what a target refers to after the openings of c groups, with these numbers for each name
abbrev pub refers_to : (Text → List ℕ) → ℕ → Role → Target → Meaning
refers_to numbers_of c role (by_number n) = number n
refers_to numbers_of c role (by_name name) = refers_to_name role c name (numbers_of name)
refers_to numbers_of c role (relative z) = group_or_none role (at_distance c z)

-- the error of a meaning at the reach, or otherwise the other error
abbrev pub error_or : Meaning → ℕ → Option Located → Option Located
error_or (invalid k) reach other = Some (of_reference reach k)
error_or _ reach other = other
