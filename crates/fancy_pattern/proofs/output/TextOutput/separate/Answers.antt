use Rattle.std.proofs.Common.{◌≡◌, take, drop, sym, refl, ap, ◌∙◌, string_bytes, rules}
use Rattle.std.specs.Str.{IsUtf8}
use Rattle.fancy_pattern.proofs.SeparatorLemmas.{front_utf8, stays_separated, becomes_separated}
use Rattle.fancy_pattern.proofs.output.TextOutput.separate.Goals as goal

pub returns-then-not-is_needed : goal.returns-then-not-is_needed
returns-then-not-is_needed c =
    let s : c.as_str.result.now ≡ string_bytes c.args.self.now.text = search rules in
    let front : IsUtf8 c.in-Some.field-0-0.now = front_utf8 _ _ c.args.position c.as_str.utf8
    (c.in-Some.ensures.variant.0 refl) c.in-Some.ensures.front in
    stays_separated c.args.self.now _ _ c.args.position c.args.separator front
    (c.in-Some.ensures.front ∙ ap (take c.args.position) s) (c.in-Some.ensures.back ∙ ap (drop c.args.position) s)
    c.in-Some.ensures.front_len (sym c.is_needed.ensures ∙ c.if-not-is_needed.true)

pub returns : goal.returns
returns c =
    let s : c.as_str.result.now ≡ string_bytes c.args.self.now.text = search rules in
    let front : IsUtf8 c.in-Some.field-0-0.now = front_utf8 _ _ c.args.position c.as_str.utf8
    (c.in-Some.ensures.variant.0 refl) c.in-Some.ensures.front in
    becomes_separated c.insert_str.result c.args.self.now (record { text = c.insert_str.new.self }) _ _ c.args.position c.args.separator front
    (c.in-Some.ensures.front ∙ ap (take c.args.position) s) (c.in-Some.ensures.back ∙ ap (drop c.args.position) s)
    c.in-Some.ensures.front_len (sym c.is_needed.ensures ∙ c.if-not-is_needed.false) c.insert_str.ensures.bytes
