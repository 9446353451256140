use Rattle.std.proofs.Common.{◌≡◌, ◌∙◌, ap, subst, string_bytes, unwrap_or, IfOk, IfSome}
use Rattle.std.proofs.lemmas.Option.{IfSome_then}
use Rattle.std.proofs.lemmas.Result.{IfOk-weaker}
use Rattle.fancy_lex.specs.Flags.{flags_of}
use Rattle.patterns_program.specs.Edited.{IsReplaced, Replaces}
use Rattle.patterns_program.specs.Fixes.{IsFixedRepeatedly, unchanged, further}
use Rattle.patterns_program.proofs.FixLemmas.{fixed_repeatedly_again}
use Rattle.patterns_program.proofs.edited.EditedPatterns.fixed.Goals as goal

pub returns-clause-replaces : goal.returns-clause-replaces
returns-clause-replaces c =
    let entry = c.args.entry in
    let pattern = entry.pattern.now in
    let flags = flags_of (unwrap_or entry.flags c.args.self.now.flags) in
    let text = string_bytes c.in_ok-text-2.text in
    let same : c.subject-subject.result.flags ≡ unwrap_or entry.flags c.args.self.now.flags =
    c.subject-subject.ensures.flags ∙ ap (λ flags. unwrap_or entry.flags flags) c.linted.ensures.flags in
    let once = rw c.in-Changed.is at c.in_ok-text.ensures.changed in
    let later = subst (λ bits. IsFixedRepeatedly (flags_of bits) (string_bytes c.in-Changed.text) text) same c.in_ok-text-2.ensures in
    let fixed = fixed_repeatedly_again (further unchanged once) later in
    IfOk-weaker _ (λ found. IfSome found (IsReplaced entry text)) (λ found. IfSome found (Replaces entry (IsFixedRepeatedly flags pattern)))
    (λ found replaced. IfSome_then found replaced (λ part is. (text, fixed, is)))
    (subst (λ w. IfOk c.fixed_to.result (λ found. IfSome found (IsReplaced entry w))) c.as_str.ensures.value c.fixed_to.ensures)
