use Rattle.std.proofs.Common.{◌≡◌, [], ap, ◌∙◌, sym, Some, None, option_map, unwrap_or}
use Rattle.std.specs.Map.{lookup}
use Rattle.std.specs.Ordering.{is_eq}
use Rattle.fancy_grammar.proofs.NameLemmas.{found, key_cmp}
use Rattle.patterns_server.proofs.named.numbers.Goals as goal

pub returns-in-Some : goal.returns-in-Some
returns-in-Some c =
    let name = c.args.name.now in
    let groups = c.args.tree.now.named_groups.entries in
    let same : lookup (λ k. is_eq (key_cmp name k)) groups ≡ Some c.in-Some.numbers.now = sym c.in-Some.ensures.value in
    c.as_slice.ensures.value
    ∙ sym (found name groups c.utf8.name ∙ ap (λ o. unwrap_or (option_map (λ v. v.items) o) []) same)

pub returns-in-None : goal.returns-in-None
returns-in-None c =
    let name = c.args.name.now in
    let groups = c.args.tree.now.named_groups.entries in
    let same : lookup (λ k. is_eq (key_cmp name k)) groups ≡ None = sym c.in-None.ensures.value in
    sym (found name groups c.utf8.name ∙ ap (λ o. unwrap_or (option_map (λ v. v.items) o) []) same)
