-- How the resolver's own values correspond to the definitions.
use Rattle.std.specs.Prelude.{◌≡◌, ℕ, ◌||◌, Bool, List, Option, Some, None, chars}
use Rattle.std.specs.Prelude.{Result, MatchResult}
use Rattle.fancy_lex.specs.Located.{Located}
use Rattle.fancy_lex.specs.Text.{bytes, position_at}
use Rattle.fancy_lex.specs.NameViews.{view_target}
use Rattle.fancy_lex.specs.declared.error.ReadError.{ReadError}
use Rattle.fancy_lex.specs.declared.name.CaptureGroupTarget.{CaptureGroupTarget}
use Rattle.fancy_grammar.specs.Groups.{Groups, groups_of, meaning_of, role_of}
use Rattle.fancy_grammar.specs.Meaning.{error_or}
use Rattle.fancy_grammar.specs.Written.{is_numeric}
use Rattle.fancy_grammar.specs.declared.ranks.Meaning.{Meaning}
use Rattle.fancy_grammar.specs.declared.ranks.Role.{Role}
use Rattle.fancy_grammar.specs.Errors.{IsErrorIn}
use Rattle.fancy_grammar.specs.Items.{Item}
use Rattle.fancy_grammar.specs.GroupInfo as spec
use Rattle.fancy_grammar.specs.Walk as walk
use Rattle.fancy_syntax.specs.declared.resolve.progress.Scope.{Scope}
use Rattle.fancy_syntax.specs.declared.resolve.progress.Progress.{Progress}
use Rattle.fancy_syntax.specs.declared.resolve.progress.Stopped.{Stopped}

abbrev pub scope_of : Scope → walk.Scope
scope_of k = record { text = chars k.pattern.now; named = k.named; groups = groups_of k.groups }

-- the progress of a walk that has met no error; the walk stops at the first
abbrev pub progress_of : Progress → walk.Progress
progress_of p = record {
  passed = p.passed;
  backrefs = p.backrefs.keys;
  out_of_range = p.out_of_range;
  numeric = p.numeric;
  calls = p.calls;
  self_recursive = p.self_recursive;
  error = None;
}

-- the error that a walk recorded when it stopped is this error, or out of memory
abbrev pub IsErrorRecorded : Option ReadError → Option Located → Type 0
IsErrorRecorded None o = ⊥
IsErrorRecorded (Some e) o = IsErrorIn e o

-- the walk passes all items, and then P holds of the result; or it stops at their first error
abbrev pub Walks : {A : Type 0} → Result A Stopped → walk.Scope → walk.Progress → List Item → Progress →
    (A → Type 0) → Type 0
Walks r k before l after P =
    let end = walk.progress_after k before l in
    MatchResult r (λ a. P a × (progress_of after ≡ end)) (λ _. IsErrorRecorded after.error end.error)

-- the number that a reference refers to in the walk, if it refers to one
abbrev pub number_referred_to : Scope → Progress → Role → CaptureGroupTarget → Option ℕ
number_referred_to k p role target =
    walk.number_in (walk.refers_here (scope_of k) (progress_of p) (role_of role) (view_target target))

-- the walk with a reference recorded
abbrev pub recorded_one : Scope → Progress → ℕ → Role → CaptureGroupTarget → walk.Progress
recorded_one k p reach role target =
    walk.record_reference (scope_of k) (progress_of p) reach (role_of role) (view_target target)

-- the walk with the form of a reference recorded
abbrev pub form_recorded : Scope → Progress → ℕ → Role → CaptureGroupTarget → walk.Progress
form_recorded k p reach role target = record (progress_of p) {
  numeric = p.numeric
      || is_numeric (chars k.pattern.now) (position_at (bytes (chars k.pattern.now)) reach) (role_of role)
      (view_target target);
  calls = p.calls || spec.is_call (role_of role);
  self_recursive = p.self_recursive || spec.is_call_of_all (role_of role) (view_target target);
}

-- the walk with the meaning of a reference recorded
abbrev pub meaning_recorded : Scope → Progress → ℕ → Role → Meaning → walk.Progress
meaning_recorded k p reach role m =
    let total = (groups_of k.groups).total in let number = spec.back_number (role_of role) (meaning_of m) in
    record (progress_of p) {
      backrefs = walk.with_backref total p.backrefs.keys number;
      out_of_range = walk.or_else p.out_of_range (walk.number_above total number);
      error = error_or (meaning_of m) reach None;
    }

-- the group information at the end of the walk, given the groups that have a number and whether only named groups do
abbrev pub info_found : Bool → Groups → walk.Progress → spec.GroupInfo
info_found named groups p = record {
  backrefs = p.backrefs;
  named_groups = groups.names;
  numeric_capture_group_references = p.numeric;
  contains_subroutines = p.calls;
  self_recursive = p.self_recursive;
  total_groups = groups.total;
  out_of_range_backref = p.out_of_range;
  numbered_groups_ignored = named;
}
