-- What the resolver's walk computes from its start, over a raw tree in text order.
use Rattle.std.proofs.Common.{◌≡◌, ℕ, Bool, List, nat_le, nat_lt, length, filter, ap, ◌∙◌}
use Rattle.std.specs.List.{list_any}
use Rattle.std.specs.Prelude.{find}
use Rattle.fancy_lex.specs.Text.{Text, bytes, position_at}
use Rattle.fancy_lex.specs.declared.flags.Flags.{Flags}
use Rattle.fancy_grammar.proofs.NamedLaws.{under_named}
use Rattle.fancy_grammar.specs.Groups.{numbers_under}
use Rattle.fancy_grammar.specs.Ranks.{only_named, numbered_openings_in, named_groups}
use Rattle.fancy_grammar.specs.Written.{is_numeric}
use Rattle.fancy_grammar.specs.Items.{Item, items, openings, meanings_in, numbers_in, meanings, role_of}
use Rattle.fancy_grammar.specs.Items.{MeantReference, target_of}
use Rattle.fancy_grammar.specs.GroupInfo.{GroupInfo, group_info, ascending, back_numbers, is_call, is_call_of_all}
use Rattle.fancy_grammar.specs.Resolved.{resolved, resolved_in, first_error, error_of}
use Rattle.fancy_grammar.specs.Tree.{Tree}
use Rattle.fancy_grammar.specs.Walk.{Scope, Progress, nothing_recorded, progress_after, resolved_by}
use Rattle.fancy_grammar.proofs.RecordLaws.{recorded_numeric, recorded_calls, recorded_self, recorded_error}
use Rattle.fancy_grammar.proofs.RecordLaws.{recorded_backrefs}
use Rattle.fancy_grammar.proofs.RecordLaws.{recorded_outside}

-- what the walk knows agrees with the tree
pub record Suits (f : Flags) (r : Tree) (k : Scope) : Type 0 where
  pub named : k.named ≡ only_named f (openings r)
  pub total : k.groups.total ≡ length (numbered_openings_in k.named (openings r))
  pub names : k.groups.names ≡ named_groups (numbered_openings_in k.named (openings r))

pub scope_suits : (f : Flags) (r : Tree) (k : Scope) → k.named ≡ only_named f (openings r) →
    k.groups.total ≡ length (numbered_openings_in k.named (openings r)) →
    k.groups.names ≡ named_groups (numbered_openings_in k.named (openings r)) → Suits f r k
scope_suits f r k a b c = record { named = a; total = b; names = c }

-- the group information that is known and recorded
abbrev pub info_recorded : Scope → Progress → GroupInfo
info_recorded k s = record {
  backrefs = s.backrefs;
  named_groups = k.groups.names;
  numeric_capture_group_references = s.numeric;
  contains_subroutines = s.calls;
  self_recursive = s.self_recursive;
  total_groups = k.groups.total;
  out_of_range_backref = s.out_of_range;
  numbered_groups_ignored = k.named;
}

-- the group information of references with these meanings, if this many groups have a number
abbrev pub info_from : Text → Bool → ℕ → List (Text × List ℕ) → List MeantReference → GroupInfo
info_from text named total names l = record {
  backrefs = ascending (filter (λ n. nat_le n total) (back_numbers l));
  named_groups = names;
  numeric_capture_group_references =
      list_any (λ x. is_numeric text (position_at (bytes text) x.reach) (role_of x.reference) (target_of x.reference)) l;
  contains_subroutines = list_any (λ x. is_call (role_of x.reference)) l;
  self_recursive = list_any (λ x. is_call_of_all (role_of x.reference) (target_of x.reference)) l;
  total_groups = total;
  out_of_range_backref = find (λ n. nat_lt total n) (back_numbers l);
  numbered_groups_ignored = named;
}

recorded_info : (k : Scope) (l : List Item) →
    info_recorded k (progress_after k nothing_recorded l)
    ≡ info_from k.text k.named k.groups.total k.groups.names (meanings_in k.named (numbers_under k.groups.names) 0 l)
recorded_info k l =
    let backrefs = recorded_backrefs k nothing_recorded l in let outside = recorded_outside k nothing_recorded l in
    let numeric = recorded_numeric k nothing_recorded l in let calls = recorded_calls k nothing_recorded l in
    let self = recorded_self k nothing_recorded l in
    λ i. record {
      backrefs = backrefs i;
      named_groups = k.groups.names;
      numeric_capture_group_references = numeric i;
      contains_subroutines = calls i;
      self_recursive = self i;
      total_groups = k.groups.total;
      out_of_range_backref = outside i;
      numbered_groups_ignored = k.named;
    }

module _ (f : Flags) (r : Tree) (k : Scope) (h : Suits f r k) where
  names : k.groups.names ≡ named_groups (numbered_openings_in (only_named f (openings r)) (openings r))
  names = h.names ∙ ap (λ x. named_groups (numbered_openings_in x (openings r))) h.named

  total : k.groups.total ≡ length (numbered_openings_in (only_named f (openings r)) (openings r))
  total = h.total ∙ ap (λ x. length (numbered_openings_in x (openings r))) h.named

  -- the known numbers of each name are those of its groups
  numbers : numbers_under k.groups.names ≡ numbers_in f r
  numbers =
      ap numbers_under names
      ∙ (λ i u. under_named (numbered_openings_in (only_named f (openings r)) (openings r)) u i)

  pub law_tree : resolved_by k 0 r ≡ resolved f (bytes k.text) r
  law_tree = λ i. resolved_in (bytes k.text) (h.named i) (numbers i) 0 r

  -- and the meanings of the references are the same
  same_meanings : meanings_in k.named (numbers_under k.groups.names) 0 (items r) ≡ meanings f r
  same_meanings = λ i. meanings_in (h.named i) (numbers i) 0 (items r)

  pub law_error : (progress_after k nothing_recorded (items r)).error ≡ error_of f r
  law_error = recorded_error k nothing_recorded (items r) ∙ ap first_error same_meanings

  pub law_info : info_recorded k (progress_after k nothing_recorded (items r)) ≡ group_info f k.text r
  law_info = recorded_info k (items r) ∙ (λ i. info_from k.text (h.named i) (total i) (names i) (same_meanings i))
