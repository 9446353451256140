use Rattle.std.proofs.Common.{◌≡◌, ℕ, List, [], ap, ◌∙◌, sym, subst, Some, None, IfOk, option_map, unwrap_or, map}
use Rattle.std.proofs.Common.{string_bytes}
use Rattle.std.specs.Cmp.Lexicographic.{slice_cmp}
use Rattle.std.specs.Map.{lookup}
use Rattle.std.specs.Ordering.{is_eq, nat_cmp}
use Rattle.std.proofs.lemmas.Str.{IsUtf8-string_bytes}
use Rattle.fancy_lex.specs.NameViews.{view_target}
use Rattle.fancy_lex.specs.Text.{Text, text_of}
use Rattle.fancy_grammar.specs.Groups.{groups_of, meaning_of, entry_of, numbers_under, role_of}
use Rattle.fancy_grammar.specs.Meaning.{refers_to}
use Rattle.fancy_grammar.proofs.NamedLaws.{groups_in_under}
use Rattle.fancy_grammar.proofs.NameLemmas.{found}
use Rattle.fancy_grammar.proofs.ranks.meaning_after.Goals as goal

pub returns-in-Some : goal.returns-in-Some
returns-in-Some c =
    let es = c.args.groups.now.names.entries in
    let same : lookup (λ k. is_eq (slice_cmp nat_cmp (string_bytes c.in-ByName.name) (string_bytes k))) es
    ≡ Some c.in-Some.numbers.now =
    rw (← c.as_str.ensures.value) (sym c.in-Some.ensures.value) in
    let numbers : numbers_under (map entry_of es) (text_of c.in-ByName.name) ≡ c.as_slice.result.now =
    found (string_bytes c.in-ByName.name) es (IsUtf8-string_bytes c.in-ByName.name)
    ∙ ap (λ o. unwrap_or (option_map (λ v. v.items) o) []) same
    ∙ sym c.as_slice.ensures.value in
    let by_numbers = λ (f : Text → List ℕ).
    IfOk c.by_name.result
    (λ m. meaning_of m ≡ refers_to f c.args.passed (role_of c.args.role) (view_target c.args.target.now)) in
    let value : by_numbers (numbers_under (map entry_of es)) = rw (c.in-ByName.is, numbers) c.by_name.ensures.value in
    record {
      value = value;
      numbers = λ l is. subst by_numbers (groups_in_under (groups_of c.args.groups.now) l is) value;
      without_memory = rw (c.in-ByName.is, numbers) c.by_name.ensures.without_memory;
    }

pub returns-in-None : goal.returns-in-None
returns-in-None c =
    let es = c.args.groups.now.names.entries in
    let same : lookup (λ k. is_eq (slice_cmp nat_cmp (string_bytes c.in-ByName.name) (string_bytes k))) es ≡ None =
    rw (← c.as_str.ensures.value) (sym c.in-None.ensures.value) in
    let numbers : numbers_under (map entry_of es) (text_of c.in-ByName.name) ≡ [] =
    found (string_bytes c.in-ByName.name) es (IsUtf8-string_bytes c.in-ByName.name)
    ∙ ap (λ o. unwrap_or (option_map (λ v. v.items) o) []) same in
    let by_numbers = λ (f : Text → List ℕ).
    IfOk c.by_name-in-None.result
    (λ m. meaning_of m ≡ refers_to f c.args.passed (role_of c.args.role) (view_target c.args.target.now)) in
    let value : by_numbers (numbers_under (map entry_of es)) =
    rw (c.in-ByName.is, numbers) c.by_name-in-None.ensures.value in
    record {
      value = value;
      numbers = λ l is. subst by_numbers (groups_in_under (groups_of c.args.groups.now) l is) value;
      without_memory = rw (c.in-ByName.is, numbers) c.by_name-in-None.ensures.without_memory;
    }
