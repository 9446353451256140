-- What the resolver's walk computes: it resolves the references, and records the group information and the first error. It counts
-- the groups that it passes.
use Rattle.std.specs.Prelude.{ℕ, ◌+◌, Bool, false, ◌||◌, nat_le, List, [], Option, Some, None, fold, if◌then◌else◌}
use Rattle.std.specs.BTreeSet.{insert_key}
use Rattle.std.specs.Ordering.{nat_cmp}
use Rattle.fancy_lex.specs.Located.{Located}
use Rattle.fancy_lex.specs.Target.{Target}
use Rattle.fancy_lex.specs.Text.{Text, bytes, position_at}
use Rattle.fancy_grammar.specs.Groups.{Groups, numbers_under}
use Rattle.fancy_grammar.specs.Meaning.{Role, Meaning, number, refers_to, error_or}
use Rattle.fancy_grammar.specs.Ranks.{is_counted}
use Rattle.fancy_grammar.specs.Written.{is_numeric}
use Rattle.fancy_grammar.specs.Items.{Item, opening, reference, role_of, target_of}
use Rattle.fancy_grammar.specs.GroupInfo.{back_number, is_call, is_call_of_all}
use Rattle.fancy_grammar.specs.Resolved.{resolved_in, resolved_all}
use Rattle.fancy_grammar.specs.Tree.{Tree, Trees}

-- what is known when references are resolved
pub record Scope : Type 0 where
  pub text : Text
  pub named : Bool
  pub groups : Groups

-- how far the walk has come, and what it recorded
pub record Progress : Type 0 where
  pub passed : ℕ  -- the groups with a number that were opened
  pub backrefs : List ℕ
  pub out_of_range : Option ℕ
  pub numeric : Bool
  pub calls : Bool
  pub self_recursive : Bool
  pub error : Option Located

-- the walk before its first step
abbrev pub nothing_recorded : Progress
nothing_recorded = record {
  passed = 0;
  backrefs = [];
  out_of_range = None;
  numeric = false;
  calls = false;
  self_recursive = false;
  error = None;
}

-- the first option if it has a value, or else the second
abbrev pub or_else : {A : Type 0} → Option A → Option A → Option A
or_else None other = other
or_else (Some a) other = Some a

-- with the number of a back reference, if there is a group with that number
abbrev pub with_backref : ℕ → List ℕ → Option ℕ → List ℕ
with_backref total l None = l
with_backref total l (Some n) = if nat_le n total then insert_key nat_cmp l n else l

-- the number of a back reference, if there is no group with that number
abbrev pub number_above : ℕ → Option ℕ → Option ℕ
number_above total None = None
number_above total (Some n) = if nat_le n total then None else Some n

-- what is recorded for a reference with this meaning: its number, how it is written, whether it is a call, and its
-- error
abbrev pub record_reference_with : Scope → Progress → ℕ → Role → Target → Meaning → Progress
record_reference_with k s reach role target m = record {
  passed = s.passed;
  backrefs = with_backref k.groups.total s.backrefs (back_number role m);
  out_of_range = or_else s.out_of_range (number_above k.groups.total (back_number role m));
  numeric = s.numeric || is_numeric k.text (position_at (bytes k.text) reach) role target;
  calls = s.calls || is_call role;
  self_recursive = s.self_recursive || is_call_of_all role target;
  error = or_else s.error (error_or m reach None);
}

-- the meaning of a target, given the groups that the walk has passed
abbrev pub refers_here : Scope → Progress → Role → Target → Meaning
refers_here k s role target = refers_to (numbers_under k.groups.names) s.passed role target

-- the number, if the meaning is one
abbrev pub number_in : Meaning → Option ℕ
number_in (number n) = Some n
number_in _ = None

-- what is recorded for a reference
abbrev pub record_reference : Scope → Progress → ℕ → Role → Target → Progress
record_reference k s reach role target = record_reference_with k s reach role target (refers_here k s role target)

-- what is recorded for an item; a group with a number is counted
abbrev pub record_item : Scope → Progress → Item → Progress
record_item k s (opening o) = record s { passed = if is_counted k.named o.name then s.passed + 1 else s.passed }
record_item k s (reference r reach) = record_reference k s reach (role_of r) (target_of r)

-- what is recorded for the items, one after another
abbrev pub progress_after : Scope → Progress → List Item → Progress
progress_after k s l = fold (record_item k) s l

-- trees resolved with what is known, if c groups with a number open before them
abbrev pub resolved_by : Scope → ℕ → Tree → Tree
resolved_by k c t = resolved_in (bytes k.text) k.named (numbers_under k.groups.names) c t

abbrev pub all_resolved_by : Scope → ℕ → Trees → Trees
all_resolved_by k c ts = resolved_all (bytes k.text) k.named (numbers_under k.groups.names) c ts
