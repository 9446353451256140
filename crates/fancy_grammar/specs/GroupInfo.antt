-- The group information of a tree.
use Rattle.std.specs.Prelude.{ℕ, Bool, true, false, ◌==◌, nat_le, nat_lt, List, [], length, Option, Some, None}
use Rattle.std.specs.Prelude.{filter, filter_map, find, fold}
use Rattle.std.specs.BTreeSet.{insert_key}
use Rattle.std.specs.List.{list_any}
use Rattle.std.specs.Ordering.{nat_cmp}
use Rattle.fancy_lex.specs.Target.{Target, by_number}
use Rattle.fancy_lex.specs.Text.{Text, bytes, position_at}
use Rattle.fancy_lex.specs.declared.flags.Flags.{Flags}
use Rattle.fancy_grammar.specs.Meaning.{Role, back_reference, call, Meaning, number}
use Rattle.fancy_grammar.specs.Ranks.{only_named, numbered_openings, named_groups}
use Rattle.fancy_grammar.specs.Written.{is_numeric}
use Rattle.fancy_grammar.specs.Items.{openings, MeantReference, meanings, role_of, target_of}
use Rattle.fancy_grammar.specs.Tree.{Tree}

pub record GroupInfo : Type 0 where
  pub backrefs : List ℕ  -- the numbers of the back references
  pub named_groups : List (Text × List ℕ)  -- for each name, in order, the numbers of its groups
  pub numeric_capture_group_references : Bool  -- some reference is written with a number
  pub contains_subroutines : Bool  -- some call is written
  pub self_recursive : Bool  -- some call by the number 0 is written
  pub total_groups : ℕ  -- how many groups have a number
  pub out_of_range_backref : Option ℕ  -- the first back reference to a group that does not exist
  pub numbered_groups_ignored : Bool  -- some group has a name, and those without one have no number

-- the number of a back reference, if it has one
abbrev pub back_number : Role → Meaning → Option ℕ
back_number back_reference (number n) = Some n
back_number _ _ = None

-- the numbers of the back references, in text order
abbrev pub back_numbers : List MeantReference → List ℕ
back_numbers l = filter_map (λ x. back_number (role_of x.reference) x.meaning) l

-- the numbers ascending, each once
abbrev pub ascending : List ℕ → List ℕ
ascending l = fold (insert_key nat_cmp) [] l

abbrev pub is_call : Role → Bool
is_call call = true
is_call _ = false

-- whether it is a call by the number 0
abbrev pub is_call_of_all : Role → Target → Bool
is_call_of_all call (by_number n) = n == 0
is_call_of_all _ _ = false

-- the group information of a raw tree that was read from the text, under the flags that the caller gives
abbrev pub group_info : Flags → Text → Tree → GroupInfo
group_info f text r =
    let groups = numbered_openings f (openings r) in
    let total = length groups in
    let references = meanings f r in
    record {
      backrefs = ascending (filter (λ n. nat_le n total) (back_numbers references));
      named_groups = named_groups groups;
      numeric_capture_group_references =
          list_any (λ x. is_numeric text (position_at (bytes text) x.reach) (role_of x.reference) (target_of x.reference))
          references;
      contains_subroutines = list_any (λ x. is_call (role_of x.reference)) references;
      self_recursive = list_any (λ x. is_call_of_all (role_of x.reference) (target_of x.reference)) references;
      total_groups = total;
      out_of_range_backref = find (λ n. nat_lt total n) (back_numbers references);
      numbered_groups_ignored = only_named f (openings r);
    }
