use Rattle.std.proofs.Common.{◌≡◌, ◌++◌, [], ◌∷◌, ap, ◌∙◌, sym, chars, map, Some, None, string_bytes}
use Rattle.std.specs.BTreeMap.{insert_entry}
use Rattle.std.specs.Map.{lookup, set_value}
use Rattle.std.specs.Ordering.{is_eq}
use Rattle.std.specs.String.{string_cmp}
use Rattle.std.proofs.lemmas.Result.{err_from_is_err_and}
use Rattle.fancy_grammar.specs.Groups.{entry_of, with_number}
use Rattle.fancy_grammar.proofs.NameLemmas.{key_cmp, put_new, put_more, put_same}
use Rattle.fancy_grammar.proofs.ranks.add_number.Goals as goal

pub returns-in_ok-push-in-Some-clause-added : goal.returns-in_ok-push-in-Some-clause-added
returns-in_ok-push-in-Some-clause-added c =
    let a = c.args.name.now in let es = c.args.names.now.entries in
    let h = c.get_mut.follows.holds c.push.new.self in
    let same : lookup (λ k. is_eq (key_cmp a k)) es ≡ Some c.in-Some.numbers.now
    = sym c.in-Some.ensures.value in
    let set : (c.get_mut.follows.lender c.push.new.self).entries
    ≡ set_value (λ k. is_eq (key_cmp a k)) es c.push.new.self = h.0 in
    ap (map entry_of) set
    ∙ put_more a es c.in-Some.numbers.now c.push.new.self c.args.number c.utf8.name c.in_ok-push-in-Some.ensures.items
    c.get_mut.ensures.ordered same

pub returns-in_ok-insert-in-None-clause-added : goal.returns-in_ok-insert-in-None-clause-added
returns-in_ok-insert-in-None-clause-added c =
    let a = c.args.name.now in let b = c.in_ok-from_str-in-None.field-0 in let es = c.args.names.now.entries in
    let same = c.get_mut.follows.holds-at-none in
    let entries : c.insert.new.self.entries ≡ insert_entry string_cmp es b c.push-in-None.new.self
    = rw (← same) c.in_ok-insert-in-None.ensures.entries in
    let items : c.push-in-None.new.self.items ≡ c.args.number ∷ [] =
    c.in_ok-push-in-None.ensures.items ∙ ap (λ l. l ++ (c.args.number ∷ [])) c.new-numbers.ensures.items in
    let bytes : string_bytes b ≡ a = c.in_ok-from_str-in-None.ensures.ok in
    let none : lookup (λ k. is_eq (string_cmp b k)) es ≡ None
    = rw bytes (sym c.in-None.ensures.value) in
    ap (map entry_of) entries ∙ put_new b es c.push-in-None.new.self c.args.number items none
    ∙ ap (λ bs. with_number (chars bs) c.args.number (map entry_of es)) bytes

pub returns-in_err-push-in-Some-clause-kept : goal.returns-in_err-push-in-Some-clause-kept
returns-in_err-push-in-Some-clause-kept c =
    let a = c.args.name.now in let es = c.args.names.now.entries in
    let h = c.get_mut.follows.holds c.push.new.self in
    let same : lookup (λ k. is_eq (key_cmp a k)) es ≡ Some c.in-Some.numbers.now
    = sym c.in-Some.ensures.value in
    let set : (c.get_mut.follows.lender c.push.new.self).entries
    ≡ set_value (λ k. is_eq (key_cmp a k)) es c.push.new.self = h.0 in
    let refused = err_from_is_err_and c.from_residual.result c.from_residual.ensures.1 in
    rw refused.1
    (ap (map entry_of) set
    ∙ put_same a es c.in-Some.numbers.now c.push.new.self c.in_err-push-in-Some.ensures.items same)
