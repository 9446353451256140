-- The capturing groups that have a number. A group's number is its rank among them, from 1.
use Rattle.std.specs.Prelude.{ℕ, ◌+◌, Bool, false, ◌||◌, ◌&&◌, not, List, [], ◌∷◌, Option, Some, None, is_some, filter}
use Rattle.std.specs.Prelude.{filter_map, fold, map, encode_utf8_all, bytes_eq, if◌then◌else◌}
use Rattle.std.specs.BTreeSet.{insert_key}
use Rattle.std.specs.Cmp.Lexicographic.{slice_cmp}
use Rattle.std.specs.List.{list_any}
use Rattle.std.specs.Ordering.{nat_cmp}
use Rattle.std.specs.declared.cmp.Ordering.{Ordering}
use Rattle.fancy_lex.specs.Text.{Text}
use Rattle.fancy_lex.specs.declared.flags.Flags.{Flags}

-- an opening parenthesis of a capturing group: its reach, and the group's name if it has one
pub record Opening : Type 0 where
  pub reach : ℕ
  pub name : Option Text

-- whether the group has a name
abbrev pub is_named : Opening → Bool
is_named o = is_some o.name

-- whether groups without a name have no number: the flag is set, and some group has a name
abbrev pub only_named : Flags → List Opening → Bool
only_named f l = f.ignore_numbered_groups && list_any is_named l

-- whether a group with that name, or without one, has a number; `named` says that only groups with a name have one
abbrev pub is_counted : Bool → Option Text → Bool
is_counted named name = not named || is_some name

-- the groups that have a number, in order of their numbers
abbrev pub numbered_openings_in : Bool → List Opening → List Opening
numbered_openings_in named l = filter (λ o. is_counted named o.name) l

-- the groups that have a number under the flags
abbrev pub numbered_openings : Flags → List Opening → List Opening
numbered_openings f l = numbered_openings_in (only_named f l) l

-- whether the name is this one
abbrev pub is_name : Text → Option Text → Bool
is_name t None = false
is_name t (Some u) = bytes_eq t u

-- the numbers of the groups of that name, ascending, if there are n groups before all of these
abbrev pub numbers_from : ℕ → Text → List Opening → List ℕ
numbers_from n name [] = []
numbers_from n name (o ∷ l) =
    if is_name name o.name then (n + 1) ∷ numbers_from (n + 1) name l else numbers_from (n + 1) name l

-- the numbers of the groups of that name, ascending
abbrev pub numbers : Text → List Opening → List ℕ
numbers name groups = numbers_from 0 name groups

-- the order of names, which is the order of their bytes
abbrev pub name_cmp : Text → Text → Ordering
name_cmp t u = slice_cmp nat_cmp (encode_utf8_all t) (encode_utf8_all u)

-- each name of the groups once, in order
abbrev pub names : List Opening → List Text
names groups = fold (insert_key name_cmp) [] (filter_map (λ o. o.name) groups)

-- for each name, in order, the numbers of its groups
abbrev pub named_groups : List Opening → List (Text × List ℕ)
named_groups groups = map (λ t. (t, numbers t groups)) (names groups)
